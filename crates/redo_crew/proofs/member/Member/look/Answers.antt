use Rattle.std.proofs.Common.{rules}
use Rattle.redo_crew.proofs.TrackLemmas.{looks}
use Rattle.redo_crew.proofs.member.Member.look.Goals as goal

pub load-requires : goal.load-requires
load-requires c = (search rules, search rules, looks _ _ _ _)
