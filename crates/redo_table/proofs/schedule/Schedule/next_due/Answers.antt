use Rattle.std.proofs.Common.{List, slice_set, ap, ◌∙◌, subst}
use Rattle.redo_table.specs.Schedule.{ScheduleView, StageView, IsFirstDue}
use Rattle.redo_table.specs.Schedule.StageView.{InHand}
use Rattle.redo_table.proofs.ListedLemmas.{draw-listed, first-due, drawn-there, less-all}
use Rattle.redo_table.proofs.schedule.Schedule.next_due.Goals as goal

pub invariant_of-self-2 : goal.invariant_of-self-2
invariant_of-self-2 c =
    let t = c.self.inside in
    rw c.put.ensures (draw-listed t.waits.stages t.ready.items t.newly_ready.items t.due.keys t.out c.self.invariant
    c.in_ok-at.at c.pop_first.new.self.keys c.in_ok-at.ensures.removal)

pub returns-clause-some : goal.returns-clause-some
returns-clause-some c =
    let t = c.self.inside in
    let at = c.in_ok-at.at in
    let rest = c.pop_first.new.self.keys in
    let is = c.in_ok-at.ensures.removal in
    let first : IsFirstDue (record { stages = t.waits.stages; ready = t.ready.items }) at = record {
      due = drawn-there t.waits.stages t.ready.items t.newly_ready.items t.due.keys t.out c.self.invariant at rest is;
      first = first-due t.waits.stages t.ready.items t.newly_ready.items t.due.keys t.out c.self.invariant at rest is
          (less-all at rest c.in_ok-at.ensures.all_above);
    } in
    let G : List StageView → ScheduleView = λ ss. record { stages = ss; ready = t.ready.items } in (
      subst (λ v. IsFirstDue v at) c.self.view_is first,
      ap G c.put.ensures ∙ ap (λ (v : ScheduleView). record v { stages = slice_set v.stages at InHand }) c.self.view_is,
    )
