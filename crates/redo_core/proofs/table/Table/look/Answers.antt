use Rattle.std.proofs.Common.{◌<◌, length, Err, sym, ap, subst, ◌∙◌}
use Rattle.redo_build.specs.Looking.{looked_once}
use Rattle.redo_build.specs.Schedule.{State}
use Rattle.redo_build.specs.Schedule.Phase.{Check}
use Rattle.redo_build.specs.Schedule.{IsReached}
use Rattle.redo_core.specs.inside.Slots.{IsPutBackThere, MayLook, state_after, GivenView, rules_for, InCheck}
use Rattle.redo_core.proofs.CheckingLemmas.{number-within}
use Rattle.redo_core.proofs.EnqueueLemmas.{taken-in}
use Rattle.redo_core.proofs.LookLemmas.{drawn-state, drawn-there}
use Rattle.redo_core.proofs.LookSteps.{fits, look-after, look-after_entries, look-is, look-many, look-moved, look-queue, look-reached}
use Rattle.redo_core.proofs.LookSteps.{look-sound, look-table}
use Rattle.redo_core.proofs.table.Table.look.Goals as goal
use Rattle.redo_core.proofs.table.Table.look.Goals.{After-take_out-held, in-Some+in_ok-path-in-Some+in_ok-ask-in-Some, in-None+in_ok-keep-in-None}

pub take_out-held-requires : goal.take_out-held-requires
take_out-held-requires c = drawn-there c.args.build.now c.requires.0 c.args.self.now c.args.at c.requires.1

-- the table from which the check was taken out
may : (c : After-take_out-held) → MayLook c.args.build.now c.take_out-held.new.self c.args.at c.take_out-held.result
may c = record { whole = c.requires.0; drawn = c.args.self.now; is_drawn = c.requires.1; taken = c.take_out-held.ensures }

pub next-requires : goal.next-requires
next-requires c =
    let d = (goal.at-next-requires c).After-take_out-held in
    let within = number-within c.args.build.now _ _ (fits c.args.build.now c.take_out-held.new.self c.args.at c.take_out-held.result (may d)).is_due.in_check in
    let P : InCheck → GivenView → Type 0 = λ h g. h.check.number < length g.past.book in
    let A : InCheck → Type 0 = λ h. P h c.given.result.now in
    let B : GivenView → Type 0 = λ g. P c.take_out-held.result.value g in
    subst A (sym c.deref.ensures) (subst B (sym c.given.ensures) within)

pub returns-in_err-ask-in-Some-clause-too_many : goal.returns-in_err-ask-in-Some-clause-too_many
returns-in_err-ask-in-Some-clause-too_many c = λ is.
    let d = (goal.at-returns-in_err-ask-in-Some-clause-too_many c).After-take_out-held in
    let made = rw is at c.from_residual-in_err-ask-in-Some.ensures in
    let err = c.in_err-ask-in-Some.was ∙ ap Err (sym made.1) in
    look-many c.args.build.now c.take_out-held.new.self c.args.at c.take_out-held.result (may d) (c.ask.ensures.too_many err)

pub returns-clause-ok : goal.returns-clause-ok
unfolding may
returns-clause-ok c =
    let d = (goal.at-returns-clause-ok c).After-take_out-held in
    let given = c.args.build.now in
    let u = c.take_out-held.new.self in
    let at = c.args.at in
    let held = c.take_out-held.result in
    let put : IsPutBackThere given (state_after given Check u at) u c.match-next.self =
    elim c.match-next.branch [
      | in-Some+in_ok-path-in-Some+in_ok-ask-in-Some w ↦ rw w.self-is w.in_ok-ask-in-Some.ensures.ok
      | in-None+in_ok-keep-in-None w ↦ rw w.self-is w.in_ok-keep-in-None.ensures
    ] in
    let taken = taken-in given given.request (state_after given Check u at) (look-moved given u at held (may d)) u c.match-next.self c.enqueue.new.self
    (look-table given u at held (may d)) (look-queue given u at held (may d)) (look-sound given u at held (may d)).standing (look-after given u at held (may d)) (look-after_entries given u at held (may d)) put c.in_ok-enqueue.ensures in
    let R : State → Type 0 = IsReached (rules_for given) given.request in
    record {
      at_rest = record { reached = subst R (sym taken.state) (look-reached given u at held (may d)); table = taken.table; resting = taken.resting };
      state = taken.state ∙ look-is given u at held (may d) ∙ ap (looked_once (rules_for given)) (sym (drawn-state given c.requires.0 c.args.self.now at c.requires.1));
    }
