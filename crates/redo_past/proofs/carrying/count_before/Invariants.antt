use Rattle.std.proofs.Common.{◌≡◌, ◌+◌, drop}
use Rattle.std.specs.List.{prefix_len}
use Rattle.redo_past.specs.inside.Books.{is_before}
use Rattle.redo_past.proofs.carrying.count_before.Given as goal

-- the records so far stand before the path
abbrev pub invariant-loop-at : goal.invariant-loop-at
invariant-loop-at l =
    prefix_len (is_before l.path) l.records ≡ l.at + prefix_len (is_before l.path) (drop l.at l.records)
