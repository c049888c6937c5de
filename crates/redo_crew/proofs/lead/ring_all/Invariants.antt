use Rattle.std.proofs.Common.{◌≡◌}
use Rattle.redo_crew.specs.Deeds.{rung_often}
use Rattle.redo_crew.proofs.lead.ring_all.Given as goal

-- so many rings were sent
abbrev pub invariant-rings : goal.invariant-rings
invariant-rings g l = l.member ≡ rung_often l._rung l.fn.member
