-- Questions to a book, and their answers.
use Rattle.std.specs.Prelude.{◌≡◌, ℕ, List, [], ◌∷◌, ◌++◌, Some, None, Bool, true, false, codes, flat_map, option_map}
use Rattle.redo_names.specs.Paths.{is_among}
use Rattle.redo_book.specs.Book.{Record, record_at, targets_of}
use Rattle.redo_book.specs.declared.book.BookEntry.{BookEntry}
use Rattle.redo_book.specs.declared.book.BookEntry.TheVariants.{Change, Create, Always}
use Rattle.redo_past.specs.Past.{PastView}
use Rattle.redo_record.specs.declared.deps.DepKind.TheVariants as kinds
use Rattle.redo_report.specs.ReportText.{dep_words, path_line}
use Rattle.redo_query.specs.Names.{AreNeeding, known_names, named_sources, standing_targets, users}
use Rattle.redo_query.specs.Nearest.{IsNear}
use Rattle.redo_query.specs.declared.answers.Answer.{Answer}
use Rattle.redo_query.specs.declared.answers.Answer.TheVariants.{Lines, Unknown}
use Rattle.redo_query.specs.declared.answers.Question.{Question}
use Rattle.redo_query.specs.declared.answers.Question.TheVariants.{Targets, Sources, Deps, Users}

-- paths, one a line
abbrev pub path_lines : List (List ℕ) → List ℕ
path_lines paths = flat_map path_line paths

-- an entry as a report spells it
abbrev pub entry_words : BookEntry → List ℕ
entry_words (Change state path) = dep_words kinds.Change path
entry_words (Create path) = dep_words kinds.Create path
entry_words Always = codes "always"

-- the line of an entry, as in a report
abbrev pub entry_line : BookEntry → List ℕ
entry_line entry = codes "dep " ++ entry_words entry ++ 10 ∷ []

abbrev pub entry_lines : List BookEntry → List ℕ
entry_lines entries = flat_map entry_line entries

-- these targets need a path: to the end, or directly
abbrev pub AreUsers : List Record → List ℕ → Bool → List (List ℕ) → Type 0
AreUsers book path true targets = AreNeeding book path targets
AreUsers book path false targets = targets ≡ users book path

-- what a target depends on; where the book has no record of it, the nearest target
abbrev pub TellsDeps : List Record → List ℕ → Answer → Type 0
TellsDeps book target (Lines text) =
    (r : Record) × (record_at book target ≡ Some r) × (text.items ≡ entry_lines r.entries)
TellsDeps book target (Unknown near) =
    (record_at book target ≡ None) × IsNear target (targets_of book) (option_map (λ p. p.now) near)

-- who needs a path; where the book doesn't know it, the nearest name
abbrev pub TellsUsers : List Record → List ℕ → Bool → Answer → Type 0
TellsUsers book path all (Lines text) =
    (is_among (known_names book) path ≡ true) ×
    ((targets : List (List ℕ)) × AreUsers book path all targets × (text.items ≡ path_lines targets))
TellsUsers book path all (Unknown near) =
    (is_among (known_names book) path ≡ false) × IsNear path (known_names book) (option_map (λ p. p.now) near)

-- the answer is these paths, one a line
abbrev pub TellsPaths : List (List ℕ) → Answer → Type 0
TellsPaths paths (Lines text) = text.items ≡ path_lines paths
TellsPaths paths (Unknown near) = ⊥

-- what answers a question
abbrev pub IsAnswer : PastView → Question → Answer → Type 0
IsAnswer past Targets answer = TellsPaths (standing_targets past) answer
IsAnswer past Sources answer = TellsPaths (named_sources past) answer
IsAnswer past (Deps target) answer = TellsDeps past.book target answer
IsAnswer past (Users path all) answer = TellsUsers past.book path all answer
