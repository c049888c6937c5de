use Rattle.redo_crew.proofs.TallyLemmas.{hears}
use Rattle.redo_crew.proofs.member.Member.hear.Goals as goal

pub recv_as-requires-clause-rule : goal.recv_as-requires-clause-rule
recv_as-requires-clause-rule g c = (hears _ _, λ items views e at. tt)
