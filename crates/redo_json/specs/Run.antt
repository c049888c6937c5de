-- What a run is told as: what was asked for, by which program and when.
use Rattle.std.specs.Prelude.{ℕ, List, [], ◌∷◌, ◌++◌, Option, Some, None, codes, option_copied}
use Rattle.json.specs.Token.{Token, begin_object, end_object, key}
use Rattle.redo_told.specs.declared.run.RunInfo.{RunInfo}
use Rattle.redo_json.specs.Members.{number_member, paths_member, text_member}

-- a member that is left out where there is no value
abbrev pub text_members : List ℕ → Option (List ℕ) → List Token
text_members name None = []
text_members name (Some text) = text_member name text

abbrev pub number_members : List ℕ → Option ℕ → List Token
number_members name None = []
number_members name (Some number) = number_member name number

-- what was asked for, and by which program
unfoldable pub asked_members : RunInfo → List Token
asked_members run =
    text_member (codes "version") run.version.now ++ text_members (codes "directory") (option_copied run.directory)
    ++ paths_member (codes "request") run.request.now ++ number_member (codes "jobs") run.jobs

-- when it began, and how long it took
unfoldable pub time_members : RunInfo → List Token
time_members run =
    text_members (codes "began") (option_copied run.began) ++ number_members (codes "milliseconds") run.milliseconds

abbrev pub run_tokens : RunInfo → List Token
run_tokens run = begin_object ∷ [] ++ asked_members run ++ time_members run ++ end_object ∷ []

abbrev pub run_member : RunInfo → List Token
run_member run = key (codes "run") ∷ run_tokens run
