use Rattle.std.proofs.Common.{◌≡◌, filter, map, take}
use Rattle.redo_book.specs.Book.{record_of, targets_of}
use Rattle.redo_names.specs.Paths.{is_among}
use Rattle.redo_query.proofs.needing.in_order.Given as goal

-- the targets of the records so far that were found
abbrev pub invariant-loop-made : goal.invariant-loop-made
invariant-loop-made l =
    map (λ p. p.now) l.targets.items ≡ targets_of (filter (λ r. is_among l.found r.target) (map record_of (take l.made-index l.made-items)))
