use Rattle.std.proofs.Common.{take}
use Rattle.redo_page.specs.inside.Grouping.{AreSeen}
use Rattle.redo_page.specs.inside.Links.{known_by}
use Rattle.redo_page.proofs.grouping.see.Given as goal

-- the rows so far were seen
abbrev pub invariant-loop-row : goal.invariant-loop-row
invariant-loop-row l = AreSeen (known_by l.links) (take l.row-index l.rows) l.seen
