use Rattle.std.proofs.Common.{◌≡◌, ◌<◌, length, Some, sym, subst}
use Rattle.redo_table.specs.Schedule.{ScheduleView, stage_at}
use Rattle.redo_table.specs.Schedule.StageView.{Ready}
use Rattle.redo_table.proofs.ListedLemmas.{queued-there}
use Rattle.redo_table.proofs.NumberLemmas.{times-there}
use Rattle.redo_table.proofs.TargetLemmas.{read-there}
use Rattle.redo_table.proofs.schedule.Schedule.ready_at.Goals as goal

pub returns-clause-is : goal.returns-clause-is
returns-clause-is c =
    let t = c.self.inside in
    let at = c.index.result.now in
    let B : ScheduleView → Type 0 = λ v. c.args.which < length v.ready in
    let P : ScheduleView → Type 0 = λ v. stage_at v at ≡ Some Ready in
    let first = read-there t.ready.items c.args.which at (subst B (sym c.self.view_is) c.requires) c.index.ensures in
    subst P c.self.view_is (queued-there t.waits.stages t.ready.items t.newly_ready.items t.due.keys t.out c.self.invariant at (times-there t.ready.items c.args.which at first))
