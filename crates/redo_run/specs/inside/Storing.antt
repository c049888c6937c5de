-- What a run over a directory stores, as its code has it.
use Rattle.std.specs.Prelude.{◌≡◌, ◌+◌, ◌<◌, ◌++◌, suc, ℕ, List, [], length, take}
use Rattle.std.specs.Option.{option_map_or}
use Rattle.std.specs.declared.io.ErrorKind.{ErrorKind}
use Rattle.redo_tree.specs.Tree.{Tree}
use Rattle.redo_dir.specs.Stored.{Step}
use Rattle.redo_dir.specs.Storing.{steps_to_clear, steps_to_store}
use Rattle.redo_dir.specs.declared.journal.ToStore.{ToStore}
use Rattle.redo_run.specs.Storing.{StopsAt}
use Rattle.redo_run.specs.declared.storing.Plan.{Plan}
use Rattle.redo_run.specs.declared.dir_fault.RunDirFault.{RunDirFault}
use Rattle.redo_run.specs.declared.dir_fault.RunDirFault.TheVariants.{Store, Journal, Left, Memory}

-- the new book's text and the other files
abbrev pub view_of : ToStore → List ℕ × List (List ℕ × List ℕ)
view_of new = (new.book, new.files.items)

-- the steps by which is cleared away what is planned to be
abbrev pub steps_left : Plan → List Step
steps_left plan = option_map_or (λ left. steps_to_clear plan.over left.book left.own.items) plan.left []

-- the steps by which is stored what is planned to be
abbrev pub steps_new : Tree → Plan → List Step
steps_new tree plan = option_map_or (λ new. steps_to_store tree new.book new.files.items) plan.new []

-- Why not all of these steps were done: the first of them were, by which something is cleared away, and others stored.
abbrev pub IsPart : (List ℕ → ErrorKind → Type 0) → List Step → List Step → List Step → List Step → RunDirFault → Type 0
IsPart told left new before after (Store place) = StopsAt told (left ++ new) before after (length left + suc place)
IsPart told left new before after Journal = StopsAt told (left ++ new) before after (length left)
IsPart told left new before after Left = (count : ℕ) × (count < length left) × StopsAt told (left ++ new) before after count
IsPart told left new before after Memory = (count : ℕ) × (after ≡ before ++ take count (left ++ new))
IsPart told left new before after _ = ⊥

-- the same where only those are done that clear something away, or only those that store
abbrev pub LeavesPart : (List ℕ → ErrorKind → Type 0) → List Step → List Step → List Step → RunDirFault → Type 0
LeavesPart told left before after Left = (count : ℕ) × (count < length left) × StopsAt told left before after count
LeavesPart told left before after Memory = (count : ℕ) × (after ≡ before ++ take count left)
LeavesPart told left before after _ = ⊥

abbrev pub StoresPart : (List ℕ → ErrorKind → Type 0) → List Step → List Step → List Step → RunDirFault → Type 0
StoresPart told new before after (Store place) = StopsAt told new before after (suc place)
StoresPart told new before after Journal = StopsAt told new before after 0
StoresPart told new before after Memory = (count : ℕ) × (after ≡ before ++ take count new)
StoresPart told new before after _ = ⊥
