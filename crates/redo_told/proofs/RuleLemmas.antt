-- The first change entry of a record.
use Rattle.std.proofs.Common.{◌≡◌, ◌∙◌, ◌++◌, ◌∷◌, [], ℕ, List, Option, Some, None, refl, ap}
use Rattle.std.proofs.lemmas.List.Elements.{filter_map-append}
use Rattle.std.specs.Prelude.{slice_get}
use Rattle.redo_record.specs.Entries.{change_of, creates, entries_of}
use Rattle.redo_record.specs.Progress.{changed, changes}
use Rattle.redo_record.specs.declared.deps.Dep.{Dep}
use Rattle.redo_told.specs.Rows.{first_change}

changes-append : (a b : List Dep) → changes (a ++ b) ≡ changes a ++ changes b
changes-append a b = filter_map-append (λ d. changed d.kind d.path) a b

none-created : (missing : List (List ℕ)) → changes (creates missing) ≡ []
none-created [] = refl
none-created (m ∷ ms) = none-created ms

-- the changes of a record are its .do file, and those that its script declared
changes-entries_of : (missing : List (List ℕ)) (file : Option (List ℕ)) (own : List Dep) →
    changes (entries_of missing file own) ≡ changes (change_of file) ++ changes own
changes-entries_of missing file own =
    changes-append (creates missing ++ change_of file) own
    ∙ ap (λ ps. ps ++ changes own) (changes-append (creates missing) (change_of file)
    ∙ ap (λ ps. ps ++ changes (change_of file)) (none-created missing))

-- a rule's .do file is the first change of a record
pub with-file : (missing : List (List ℕ)) (file : List ℕ) (own : List Dep) →
    first_change (entries_of missing (Some file) own) ≡ Some file
with-file missing file own = ap (λ ps. slice_get ps 0) (changes-entries_of missing (Some file) own)

-- without one it is the first that the script declared
pub without-file : (missing : List (List ℕ)) (own : List Dep) →
    first_change (entries_of missing None own) ≡ first_change own
without-file missing own = ap (λ ps. slice_get ps 0) (changes-entries_of missing None own)
