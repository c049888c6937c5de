use Rattle.std.proofs.Common.{◌≡◌, slice_get, Some, sym, subst}
use Rattle.redo_table.specs.Schedule.{ScheduleView}
use Rattle.redo_table.specs.Schedule.StageView.{InHand}
use Rattle.redo_table.proofs.ListedLemmas.{due-listed}
use Rattle.redo_table.proofs.schedule.Schedule.make_due.Goals as goal

pub invariant_of-self-2 : goal.invariant_of-self-2
invariant_of-self-2 c =
    let t = c.self.inside in
    let there = subst (λ (v : ScheduleView). slice_get v.stages c.args.at ≡ Some InHand) (sym c.self.view_is) c.requires in
    rw (c.put.ensures, c.in_ok-insert.ensures.keys) (due-listed t.waits.stages t.ready.items t.newly_ready.items t.due.keys t.out c.self.invariant c.args.at there)
