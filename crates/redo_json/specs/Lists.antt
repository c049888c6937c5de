-- What a list of targets that are out of date is told as: one object of JSON, and a newline.
use Rattle.std.specs.Prelude.{ℕ, List, [], ◌∷◌, ◌++◌, codes, flat_map}
use Rattle.std.specs.Str.Lossy.{utf8_lossy}
use Rattle.json.specs.Print.{print}
use Rattle.json.specs.Token.{Token, begin_object, end_object, begin_array, end_array, key}
use Rattle.redo_list.specs.Lists.{state_word}
use Rattle.redo_list.specs.declared.listed.Listed.{Listed}
use Rattle.redo_json.specs.Members.{number_member, path_members, text_member}

-- a target, its state, and why it is listed
abbrev pub listed_tokens : Listed → List Token
listed_tokens it =
    begin_object ∷ [] ++ path_members it.target ++ text_member (codes "state") (state_word it.state)
    ++ text_member (codes "why") (utf8_lossy it.why.items) ++ end_object ∷ []

-- the status, and the targets in this order
abbrev pub list_tokens : ℕ → List Listed → List Token
list_tokens status targets =
    begin_object ∷ [] ++ number_member (codes "status") status
    ++ (key (codes "targets") ∷ begin_array ∷ []) ++ flat_map listed_tokens targets ++ end_array ∷ end_object ∷ []

abbrev pub list_text : ℕ → List Listed → List ℕ
list_text status targets = print (list_tokens status targets) ++ 10 ∷ []
