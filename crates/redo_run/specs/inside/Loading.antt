-- Places of a directory in which a run wants a file or nothing.
use Rattle.std.specs.Prelude.{◌≡◌, ◌⊎◌, ℕ, List, None}
use Rattle.std.specs.declared.io.ErrorKind.{ErrorKind}
use Rattle.redo_tree.specs.Tree.{Tree, file_at}
use Rattle.redo_which.specs.Candidates.{book_path, journal_path}
use Rattle.redo_dir.specs.Loaded.{Looks}
use Rattle.redo_dir.specs.declared.work_dir.Seen.{Seen}
use Rattle.redo_run.specs.declared.dir_fault.RunDirFault.{RunDirFault}
use Rattle.redo_run.specs.declared.dir_fault.RunDirFault.TheVariants.{Load, Memory}

-- a directory is refused for what stands at this path, or for a call that was refused
abbrev pub HasNoPlace : Looks → (List ℕ → ErrorKind → Type 0) → Tree → List ℕ → RunDirFault → Type 0
HasNoPlace looks refuses tree place Load =
    ((path : List ℕ) × (kind : ErrorKind) × refuses path kind) ⊎ ((file_at tree place ≡ None) × (seen : Seen) × looks place seen)
HasNoPlace looks refuses tree place Memory = Unit {0}
HasNoPlace looks refuses tree place _ = ⊥

-- the same for what stands in the place of the book or of the journal
abbrev pub HasNoOwnPlace : Looks → (List ℕ → ErrorKind → Type 0) → Tree → RunDirFault → Type 0
HasNoOwnPlace looks refuses tree fault = HasNoPlace looks refuses tree book_path fault ⊎ HasNoPlace looks refuses tree journal_path fault
