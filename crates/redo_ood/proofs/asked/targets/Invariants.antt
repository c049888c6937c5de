use Rattle.std.proofs.Common.{◌≡◌, map, take}
use Rattle.redo_book.specs.Book.{record_of, targets_of}
use Rattle.redo_ood.proofs.asked.targets.Given as goal

-- the targets of the records so far
abbrev pub invariant-loop-made : goal.invariant-loop-made
invariant-loop-made l = l.paths.items ≡ targets_of (map record_of (take l.made-index l.records))
