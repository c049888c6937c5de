-- Records whose entries stand once each.
use Rattle.std.proofs.Common.{◌≡◌, List, [], ◌∷◌, Some, sym, subst}
use Rattle.redo_which.specs.Missing.{AreDistinct}
use Rattle.redo_record.specs.declared.deps.Dep.{Dep}
use Rattle.redo_record.specs.declared.deps.DepKind.{DepKind}
use Rattle.redo_record.specs.declared.deps.DepKind.TheVariants as kinds
use Rattle.redo_record.specs.Entries.{AreOnce, entries_of, search_deps, search_entries, with_all, with_entries}
use Rattle.redo_record.specs.Entries.{with_entry}
use Rattle.redo_record.specs.Paths.{Path}
use Rattle.redo_record.proofs.SearchLemmas.{search-entries}
use Rattle.redo_record.proofs.StoredLemmas.{once-with}

pub once-entries : (es : List Dep) (k : DepKind) (ps : List Path) → AreOnce es → AreOnce (with_entries es k ps)
once-entries es k [] once = once
once-entries es k (p ∷ ps) once = once-entries (with_entry es k p) k ps (once-with es (record { kind = k; path = p }) once)

once-all : (es ds : List Dep) → AreOnce es → AreOnce (with_all es ds)
once-all es [] once = once
once-all es (d ∷ ds) once = once-all (with_entry es d.kind d.path) ds (once-with es d once)

once-search : (missing : List Path) (do_file : Path) → AreOnce (search_deps missing do_file)
once-search missing do_file =
    let es = with_entries [] kinds.Create missing in
    once-with es (record { kind = kinds.Change; path = do_file }) (once-entries [] kinds.Create missing tt)

-- what the search entered, and then what the script declared
pub once-whole : (missing : List Path) (do_file : Path) (own declared : List Dep) → AreDistinct missing
    → entries_of missing (Some do_file) own ≡ with_all (search_entries missing (Some do_file)) declared → AreOnce (entries_of missing (Some do_file) own)
once-whole missing do_file own declared distinct h =
    let found : AreOnce (search_entries missing (Some do_file)) = subst AreOnce (search-entries missing do_file distinct) (once-search missing do_file) in
    subst AreOnce (sym h) (once-all (search_entries missing (Some do_file)) declared found)
