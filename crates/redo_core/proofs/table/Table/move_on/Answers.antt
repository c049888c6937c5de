use Rattle.std.proofs.Common.{Result, Ok, Err, OnOk, ap, sym, ◌∙◌}
use Rattle.redo_build.specs.Schedule.Phase.{Script}
use Rattle.redo_core.specs.inside.Slots.{state_after}
use Rattle.redo_core.proofs.HandInLemmas.{moved-on, taken-in-rest, too-many-taken}
use Rattle.redo_core.proofs.table.Table.move_on.Goals as goal

on_ok-both : {T E P Q S : Type 0} (r : Result T E) → (P → Q → S) → OnOk r P → OnOk r Q → OnOk r S
on_ok-both (Ok v) f p q = f p q
on_ok-both (Err e) f p q = tt

pub returns-in_err-take_in-clause-too_many : goal.returns-in_err-take_in-clause-too_many
returns-in_err-take_in-clause-too_many c = λ is.
    let made = rw is at c.from_residual.ensures in
    let err = c.in_err-take_in.was ∙ ap Err (sym made.1) in
    too-many-taken c.args.build.now c.args.self.now c.args.at c.args.end c.requires (c.take_in.ensures.too_many err)

pub look_ahead-requires : goal.look_ahead-requires
look_ahead-requires c =
    taken-in-rest c.args.build.now c.args.self.now c.args.at c.args.end c.requires c.take_in.new.self c.in_ok-take_in.ensures.ok

pub returns-clause-ok : goal.returns-clause-ok
returns-clause-ok c =
    let after = state_after c.args.build.now Script c.args.self.now c.args.at in
    on_ok-both c.look_ahead.result
    (λ ahead none. moved-on c.args.build.now after c.take_in.new.self c.look_ahead.new.self c.in_ok-take_in.ensures.ok ahead none)
    c.look_ahead.ensures.ok c.look_ahead.ensures.none_due
