-- What the parts of rows, the rings and the notes of a report are told as: tokens of JSON. `print` of the json crate gives
-- their text.
use Rattle.std.specs.Prelude.{Bool, true, false, ℕ, List, [], ◌∷◌, ◌++◌, Option, Some, None, codes, decimal, flat_map, length}
use Rattle.std.specs.Prelude.{◌==◌, if◌then◌else◌}
use Rattle.std.specs.Str.{is_utf8}
use Rattle.std.specs.Str.Lossy.{utf8_lossy}
use Rattle.hex.specs.Hex.{encode_lower}
use Rattle.json.specs.Token.{Token, begin_object, end_object, begin_array, end_array, key, string, number, boolean}
use Rattle.redo_record.specs.declared.deps.Dep.{Dep}
use Rattle.redo_record.specs.declared.deps.DepKind.{DepKind}
use Rattle.redo_record.specs.declared.deps.DepKind.TheVariants as kinds
use Rattle.redo_record.specs.declared.outcome.Outcome.{Outcome}
use Rattle.redo_record.specs.declared.outcome.Outcome.TheVariants as outcomes
use Rattle.redo_report.specs.ReportText.{why_words}
use Rattle.redo_diagnose.specs.Diagnoses.{line_named}
use Rattle.redo_diagnose.specs.declared.diagnosis.Diagnosis.{Diagnosis}
use Rattle.redo_diagnose.specs.declared.diagnosis.Place.{Place}
use Rattle.redo_notes.specs.declared.kinds.Notes.{Notes}
use Rattle.redo_notes.specs.declared.kinds.Unbuilt.{Unbuilt}
use Rattle.redo_rings.specs.declared.ring.Ring.{Ring}
use Rattle.redo_which.specs.Rule.{Found}
use Rattle.redo_why.specs.Reasons.{Reason}
use Rattle.redo_explain.specs.Words.{reason_words}

-- a member whose value is a text
abbrev pub text_member : List ℕ → List ℕ → List Token
text_member name text = key name ∷ string text ∷ []

-- a member whose value is a number
abbrev pub number_member : List ℕ → ℕ → List Token
number_member name n = key name ∷ number (decimal n) ∷ []

-- a path that isn't UTF-8 is told twice: readable, and as the hex text of its bytes
abbrev pub hex_members : List ℕ → List ℕ → List Token
hex_members name path = if is_utf8 path then [] else text_member name (encode_lower path)

abbrev pub path_members : List ℕ → List Token
path_members path = text_member (codes "path") (utf8_lossy path) ++ hex_members (codes "path_hex") path

abbrev pub file_members : List ℕ → List Token
file_members file = text_member (codes "file") (utf8_lossy file) ++ hex_members (codes "file_hex") file

-- an entry of a record; `always` has no path
abbrev pub entry_members : DepKind → List ℕ → List Token
entry_members kinds.Change path = text_member (codes "kind") (codes "change") ++ path_members path
entry_members kinds.Create path = text_member (codes "kind") (codes "create") ++ path_members path
entry_members kinds.Always path = text_member (codes "kind") (codes "always")

abbrev pub entry_tokens : Dep → List Token
entry_tokens dep = begin_object ∷ [] ++ entry_members dep.kind dep.path ++ end_object ∷ []

-- the word for what became of a path, by whether its script was begun: a target that was built and not begun was kept
abbrev pub outcome_word : Outcome → Bool → List ℕ
outcome_word outcomes.Source begun = codes "source"
outcome_word (outcomes.Built file) true = codes "built"
outcome_word (outcomes.Built file) false = codes "kept"
outcome_word (outcomes.Failed why) begun = codes "failed"
outcome_word outcomes.Cyclic begun = codes "cyclic"

abbrev pub line_members : Option ℕ → List Token
line_members None = []
line_members (Some line) = number_member (codes "line") line

-- how many bytes a file has, and why a target failed, in the words of a report
abbrev pub outcome_members : Outcome → List Token
outcome_members outcomes.Source = []
outcome_members (outcomes.Built None) = []
outcome_members (outcomes.Built (Some bytes)) = number_member (codes "bytes") (length bytes)
outcome_members (outcomes.Failed why) = text_member (codes "reason") (why_words why) ++ line_members (line_named why)
outcome_members outcomes.Cyclic = []

-- where a script fails: its file, the line, what is meant there, and the line's text
abbrev pub mark_members : Place → List Token
mark_members place =
    file_members place.file ++ number_member (codes "line") place.line
    ++ number_member (codes "column") place.column ++ number_member (codes "length") place.length
    ++ text_member (codes "text") (utf8_lossy place.text.items)

abbrev pub place_members : Option Place → List Token
place_members None = []
place_members (Some place) = mark_members place

-- what to do, if there are words for it
abbrev pub help_members : List ℕ → List Token
help_members help = if length help == 0 then [] else text_member (codes "help") (utf8_lossy help)

-- what is wrong with a target, where, what to do, and how many others failed because of it
unfoldable pub diagnosis_tokens : Diagnosis → List Token
diagnosis_tokens d =
    begin_object ∷ [] ++ place_members d.place ++ text_member (codes "message") (utf8_lossy d.message.items)
    ++ help_members d.help.items ++ number_member (codes "waiting") d.waiting ++ end_object ∷ []

abbrev pub diagnosis_member : Option Diagnosis → List Token
diagnosis_member None = []
diagnosis_member (Some d) = key (codes "diagnosis") ∷ diagnosis_tokens d

-- whether the script was begun, and why
abbrev pub begun_members : (List ℕ → Found) → Option Reason → List Token
begun_members found None = key (codes "begun") ∷ boolean false ∷ []
begun_members found (Some reason) =
    (key (codes "begun") ∷ boolean true ∷ []) ++ text_member (codes "why") (utf8_lossy (reason_words found reason))

abbrev pub deps_member : List Dep → List Token
deps_member deps = (key (codes "deps") ∷ begin_array ∷ []) ++ flat_map entry_tokens deps ++ end_array ∷ []

-- an object that has a path alone
abbrev pub named_tokens : List ℕ → List Token
named_tokens path = begin_object ∷ [] ++ path_members path ++ end_object ∷ []

-- a member whose value is an array of paths
abbrev pub paths_member : List ℕ → List (List ℕ) → List Token
paths_member name paths = (key name ∷ begin_array ∷ []) ++ flat_map named_tokens paths ++ end_array ∷ []

-- cyclic targets that ask for one another in a ring, and how many others wait for it
abbrev pub ring_tokens : Ring → List Token
ring_tokens ring =
    begin_object ∷ [] ++ paths_member (codes "paths") ring.members.items
    ++ number_member (codes "waiting") ring.waiting ++ end_object ∷ []

abbrev pub rings_member : List Ring → List Token
rings_member rings = (key (codes "rings") ∷ begin_array ∷ []) ++ flat_map ring_tokens rings ++ end_array ∷ []

abbrev pub rule_members : List ℕ → List Token
rule_members file = text_member (codes "rule") (utf8_lossy file) ++ hex_members (codes "rule_hex") file

-- a source that has a rule, and the rule's .do file
abbrev pub unbuilt_tokens : Unbuilt → List Token
unbuilt_tokens note = begin_object ∷ [] ++ path_members note.path ++ rule_members note.do_file ++ end_object ∷ []

abbrev pub unbuilt_member : List Unbuilt → List Token
unbuilt_member notes = (key (codes "unbuilt") ∷ begin_array ∷ []) ++ flat_map unbuilt_tokens notes ++ end_array ∷ []

-- the notes of each kind, all of them, and the files that the build doesn't need
unfoldable pub notes_tokens : Notes → List (List ℕ) → List Token
notes_tokens notes dead =
    begin_object ∷ [] ++ unbuilt_member notes.unbuilt.items ++ paths_member (codes "unmade") notes.unmade.items
    ++ paths_member (codes "ruleless") notes.ruleless.items ++ paths_member (codes "dead") dead ++ end_object ∷ []

abbrev pub notes_member : Notes → List (List ℕ) → List Token
notes_member notes dead = key (codes "notes") ∷ notes_tokens notes dead
