use Rattle.std.proofs.Common.{◌≡◌, filter, map, take}
use Rattle.redo_book.specs.Book.{record_of, targets_of}
use Rattle.redo_book.specs.Intact.{is_intact}
use Rattle.redo_tree.specs.Tree.{file_at}
use Rattle.redo_query.proofs.standing.targets.Given as goal

-- the targets of those of the records so far that stand
abbrev pub invariant-loop-made : goal.invariant-loop-made
invariant-loop-made l =
    map (λ path. path.now) l.paths.items ≡ targets_of (filter (is_intact (file_at l.past.tree)) (map record_of (take l.made-index l.made-items)))
