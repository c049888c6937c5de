-- A directory that is read: why it can't be.
use Rattle.std.proofs.Common.{ℕ, Bool, true, List, inl, inr, refl, Option, Some, None}
use Rattle.std.specs.declared.io.ErrorKind.{ErrorKind}
use Rattle.redo_tree.specs.Tree.{Directory, File, Node, Tree}
use Rattle.redo_which.specs.Candidates.{book_path, journal_path}
use Rattle.redo_dir.specs.Loaded.{IsLoaded, IsRefusedBy, IsUnloaded, Leads, Looks, ReadIf, Reads}
use Rattle.redo_dir.specs.declared.faults.LoadFault.{LoadFault}
use Rattle.redo_dir.specs.declared.faults.LoadFault.TheVariants as load
use Rattle.redo_dir.proofs.LoadLemmas.{loaded-so, unloaded-so}
use Rattle.redo_run.specs.DirFaults.{of_load}
use Rattle.redo_run.specs.Directories.{IsUnread}
use Rattle.redo_run.specs.inside.Loading.{HasNoOwnPlace}
use Rattle.redo_run.specs.declared.dir_fault.RunDirFault.{RunDirFault}
use Rattle.redo_run.specs.declared.dir_fault.RunDirFault.TheVariants.{Load, Memory}

module _ (lists : List ℕ → List (Option (List ℕ)) → Type 0) (looks : Looks) (reads : Reads) (refuses : List ℕ → ErrorKind → Type 0) where
  -- a call was refused
  pub refused_unread : (fault : LoadFault) → IsRefusedBy refuses fault → IsUnread lists looks reads refuses (of_load fault)
  refused_unread (load.Device path kind) h = inl (path, kind, h)
  refused_unread load.Memory h = tt

  -- what was found makes no tree, or a call was refused
  pub wanted_unread : (paths : List ℕ → Bool) (fault : LoadFault) → IsUnloaded lists (Leads looks (ReadIf paths reads)) refuses fault → IsUnread lists looks reads refuses (of_load fault)
  wanted_unread paths (load.Device path kind) (inl h) = inl (path, kind, h)
  wanted_unread paths (load.Device path kind) (inr (invalid, clash)) = inr (paths, inl clash)
  wanted_unread paths load.Memory h = tt

  -- something else stands in the place of the book or of the journal
  pub placed_unread : (paths : List ℕ → Bool) (tree : Tree) (passed : ℕ) (fault : RunDirFault) → IsLoaded lists (Leads looks (ReadIf paths reads)) tree passed → HasNoOwnPlace looks refuses tree fault → IsUnread lists looks reads refuses fault
  placed_unread paths tree passed Load l (inl (inl h)) = inl h
  placed_unread paths tree passed Load l (inr (inl h)) = inl h
  placed_unread paths tree passed Load l (inl (inr (none, seen, stands))) =
      inr (paths, inr (record { tree = tree; passed = passed; loaded = l; path = book_path; own = inl refl; none = none; seen = seen; stands = stands }))
  placed_unread paths tree passed Load l (inr (inr (none, seen, stands))) =
      inr (paths, inr (record { tree = tree; passed = passed; loaded = l; path = journal_path; own = inr refl; none = none; seen = seen; stands = stands }))
  placed_unread paths tree passed Memory l h = tt
  placed_unread paths tree passed _ l (inl h) = absurd h
  placed_unread paths tree passed _ l (inr h) = absurd h

  -- where all files are read
  all_wanted : (path : List ℕ) (node : Option Node) → Leads looks reads path node → Leads looks (ReadIf (λ _. true) reads) path node
  all_wanted path None l = l
  all_wanted path (Some Directory) l = l
  all_wanted path (Some (File bytes)) (size, l, r) = (size, l, inl (refl, r))

  pub whole_unread : (fault : LoadFault) → IsUnloaded lists (Leads looks reads) refuses fault → IsUnread lists looks reads refuses (of_load fault)
  whole_unread fault u = wanted_unread (λ _. true) fault (unloaded-so lists (Leads looks reads) (Leads looks (ReadIf (λ _. true) reads)) all_wanted refuses fault u)

  pub whole_placed : (tree : Tree) (passed : ℕ) (fault : RunDirFault) → IsLoaded lists (Leads looks reads) tree passed → HasNoOwnPlace looks refuses tree fault → IsUnread lists looks reads refuses fault
  whole_placed tree passed fault l = placed_unread (λ _. true) tree passed fault (loaded-so lists (Leads looks reads) (Leads looks (ReadIf (λ _. true) reads)) all_wanted tree passed l)
