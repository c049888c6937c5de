-- The entries of a record: when a target must be rebuilt.
use Rattle.std.specs.Prelude.{Bool, true, false, ◌&&◌, ◌||◌, List, [], ◌∷◌, ◌++◌, Option, Some, None, if◌then◌else◌}
use Rattle.std.specs.Prelude.{◌≡◌, map}
use Rattle.redo_record.specs.declared.deps.Dep.{Dep}
use Rattle.redo_record.specs.declared.deps.DepKind.{DepKind}
use Rattle.redo_record.specs.declared.deps.DepKind.TheVariants as kinds
use Rattle.std.specs.Str.{bytes_eq}
use Rattle.redo_record.specs.Paths.{Path}
use Rattle.redo_record.specs.declared.deps.DepKind.TheVariants.{Change, Create}

-- whether two kinds are the same
abbrev pub same_kind : DepKind → DepKind → Bool
same_kind kinds.Change kinds.Change = true
same_kind kinds.Create kinds.Create = true
same_kind kinds.Always kinds.Always = true
same_kind kinds.Change kinds.Create = false
same_kind kinds.Change kinds.Always = false
same_kind kinds.Create kinds.Change = false
same_kind kinds.Create kinds.Always = false
same_kind kinds.Always kinds.Change = false
same_kind kinds.Always kinds.Create = false

-- whether an entry with this kind and path is in the list
abbrev pub is_entered : List Dep → DepKind → Path → Bool
is_entered [] kind path = false
is_entered (e ∷ es) kind path = (same_kind kind e.kind && bytes_eq path e.path) || is_entered es kind path

-- the list with this entry added, unless it is there already
abbrev pub with_entry : List Dep → DepKind → Path → List Dep
with_entry es kind path = if is_entered es kind path then es else es ++ record { kind = kind; path = path } ∷ []

-- the list with these paths added in order, each unless it is there already
abbrev pub with_entries : List Dep → DepKind → List Path → List Dep
with_entries es kind [] = es
with_entries es kind (p ∷ ps) = with_entries (with_entry es kind p) kind ps

-- the list with these entries added in order, each unless it is there already
abbrev pub with_all : List Dep → List Dep → List Dep
with_all deps [] = deps
with_all deps (d ∷ ds) = with_all (with_entry deps d.kind d.path) ds

-- the record of the search: the missing candidates, and the .do file
abbrev pub search_deps : List Path → Path → List Dep
search_deps missing do_file = with_entry (with_entries [] kinds.Create missing) kinds.Change do_file

-- an entry for each missing candidate
abbrev pub creates : List Path → List Dep
creates missing = map (λ path. record { kind = kinds.Create; path = path }) missing

-- the entry of the .do file, if there is one
abbrev pub change_of : Option Path → List Dep
change_of None = []
change_of (Some do_file) = record { kind = kinds.Change; path = do_file } ∷ []

-- what the search for a rule enters
abbrev pub search_entries : List Path → Option Path → List Dep
search_entries missing do_file = creates missing ++ change_of do_file

-- the same, then what the script declared
abbrev pub entries_of : List Path → Option Path → List Dep → List Dep
entries_of missing do_file own = search_entries missing do_file ++ own

-- no entry occurs twice
abbrev pub AreOnce : List Dep → Type 0
AreOnce [] = Unit {0}
AreOnce (d ∷ ds) = (is_entered ds d.kind d.path ≡ false) × AreOnce ds

-- what is entered stays entered
pub record Extends (old new : List Dep) : Type 0 where
  pub still : (kind : DepKind) (p : Path) → is_entered old kind p ≡ true → is_entered new kind p ≡ true
