-- Entries by kind.
use Rattle.std.specs.Prelude.{◌≡◌, List, [], ◌∷◌, if◌then◌else◌}
use Rattle.redo_record.specs.declared.deps.Dep.{Dep}
use Rattle.redo_record.specs.declared.deps.DepKind.{DepKind}
use Rattle.redo_record.specs.declared.deps.DepKind.TheVariants.{Change, Create, Always}
use Rattle.redo_record.specs.Entries.{same_kind}
use Rattle.redo_record.specs.Paths.{Path}

-- the paths of the entries of a kind, in order
abbrev pub paths_with : DepKind → List Dep → List Path
paths_with kind [] = []
paths_with kind (e ∷ es) = if same_kind kind e.kind then e.path ∷ paths_with kind es else paths_with kind es

-- these are the paths of the entries about a change, of those about a creation, and of those that say that the target
-- is always rebuilt
pub record AreByKind (es : List Dep) (changed created always : List Path) : Type 0 where
  pub changes : changed ≡ paths_with Change es
  pub creates : created ≡ paths_with Create es
  pub in_any_case : always ≡ paths_with Always es
