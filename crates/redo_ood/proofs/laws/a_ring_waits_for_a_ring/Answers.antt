use Rattle.redo_ood.proofs.RingLemmas.{ring-of-ring}
use Rattle.redo_ood.proofs.laws.a_ring_waits_for_a_ring.Goals as goal

pub returns : goal.returns
returns c = ring-of-ring
