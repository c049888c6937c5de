use Rattle.std.proofs.Common.{◌≡◌, map, take}
use Rattle.redo_explain.specs.Views.{begun_view}
use Rattle.redo_explain.specs.inside.Listed.{begun_in}
use Rattle.redo_explain.specs.inside.Told.{AreRows}
use Rattle.redo_explain.proofs.begun.begun_by.Given as goal

-- the targets so far that have a reason
abbrev pub invariant-loop-target : goal.invariant-loop-target
invariant-loop-target l = AreRows l.report.rows.items →
    map begun_view l.begun.items
    ≡ begun_in l.past l.requested l.report.rows.items (take l.target-index l.target-items)
