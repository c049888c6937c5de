use Rattle.redo_crew.proofs.TallyLemmas.{sends}
use Rattle.redo_crew.proofs.member.Member.ring.Goals as goal

pub send_as-requires-clause-rule : goal.send_as-requires-clause-rule
send_as-requires-clause-rule g c = (sends _ _ _ _, λ items views e at. tt)
