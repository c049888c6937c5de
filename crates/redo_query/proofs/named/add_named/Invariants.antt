use Rattle.std.proofs.Common.{◌≡◌, ◌||◌, ℕ, List, take}
use Rattle.std.specs.List.{list_any}
use Rattle.redo_names.specs.Paths.{is_among}
use Rattle.redo_query.specs.Names.{is_of}
use Rattle.redo_query.proofs.named.add_named.Given as goal

-- the paths that were there, and those that the entries so far name
abbrev pub invariant-loop-entry : goal.invariant-loop-entry
invariant-loop-entry l =
    (path : List ℕ) → is_among l.named path ≡ (is_among l.fn.named path || list_any (is_of path) (take l.entry-index l.entry-items))
