use Rattle.std.proofs.Common.{rules}
use Rattle.redo_crew.proofs.TrackLemmas.{tries}
use Rattle.redo_crew.proofs.member.Member.try_step.Goals as goal

pub compare_exchange_with-requires : goal.compare_exchange_with-requires
compare_exchange_with-requires c = (search rules, search rules, tries c.args.step _ _ _ _ _ _ c.requires.kept c.requires.open (search rules) (search rules))
