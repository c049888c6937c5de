use Rattle.std.specs.Arc.{arc_value}
use Rattle.redo_core.proofs.ScriptLemmas.{unread-work}
use Rattle.redo_core.proofs.work.ScriptStage.into_begun.Goals as goal

pub returns-in_ok-job-in-Unread-clause-work : goal.returns-in_ok-job-in-Unread-clause-work
returns-in_ok-job-in-Unread-clause-work c =
    unread-work (arc_value c.args.given.now) c.in-Unread.unread (rw c.in-Unread.is at c.requires) c.into_inner-target.result
    c.into_inner-target.ensures c.in_ok-job-in-Unread.job c.in_ok-job-in-Unread.ensures
