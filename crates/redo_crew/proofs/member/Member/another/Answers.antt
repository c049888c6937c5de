use Rattle.std.proofs.Common.{rules}
use Rattle.redo_crew.proofs.TallyLemmas.{forks}
use Rattle.redo_crew.proofs.TrackLemmas.{joins}
use Rattle.redo_crew.proofs.member.Member.another.Goals as goal

pub split_seat-mark-requires : goal.split_seat-mark-requires
split_seat-mark-requires c = (search rules, search rules, joins _ _ _)

pub another-pass-requires-clause-rule : goal.another-pass-requires-clause-rule
another-pass-requires-clause-rule c = forks _ _
