use Rattle.std.proofs.Common.{take}
use Rattle.redo_rings.specs.inside.Found.{AreRingsOf}
use Rattle.redo_rings.proofs.finding.rings_of.Given as goal

abbrev pub invariant-loop-first : goal.invariant-loop-first
invariant-loop-first l =
    AreRingsOf l.names l.walks.places.items (take l.first l.walks.circles.items) l.rings.items
