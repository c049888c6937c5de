use Rattle.std.proofs.Common.{◌≡◌, inl, inr, slice_get, Some, refl}
use Rattle.std.proofs.lemmas.Bool.{both_ways}
use Rattle.redo_table.specs.Schedule.StageView.{Out, InHand, Decided}
use Rattle.redo_table.proofs.ListedLemmas.{back-listed, is-open, left-listed, out-there}
use Rattle.redo_table.proofs.schedule.Schedule.decide.Goals as goal

pub overflow_sub-self : goal.overflow_sub-self
overflow_sub-self c =
    let t = c.self.inside in
    let there = c.is_out-was_out.ensures.0 c.if-was_out.true in
    out-there t.waits.stages t.ready.items t.newly_ready.items t.due.keys t.out c.self.invariant c.args.at Out there refl

pub invariant_of-self-then-was_out : goal.invariant_of-self-then-was_out
invariant_of-self-then-was_out c =
    let t = c.self.inside in
    rw c.in_ok-decide.ensures.decided (back-listed t.waits.stages t.ready.items t.newly_ready.items t.due.keys t.out c.self.invariant c.args.at
    Decided refl refl refl (c.is_out-was_out.ensures.0 c.if-was_out.true))

pub invariant_of-self-else-was_out : goal.invariant_of-self-else-was_out
invariant_of-self-else-was_out c =
    let t = c.self.inside in
    let there : slice_get t.waits.stages c.args.at ≡ Some InHand = elim (is-open t c.args.self.now c.args.at c.self.view_is c.requires) [
      | inl out ↦ absurd (both_ways _ c.if-was_out.false (c.is_out-was_out.ensures.1 out))
      | inr hand ↦ hand
    ] in
    rw c.in_ok-decide.ensures.decided (left-listed t.waits.stages t.ready.items t.newly_ready.items t.due.keys t.out c.self.invariant c.args.at
    Decided refl refl refl there)
