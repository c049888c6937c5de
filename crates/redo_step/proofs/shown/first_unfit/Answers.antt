use Rattle.std.proofs.Common.{rules}
use Rattle.redo_which.specs.Views.{arguments_view}
use Rattle.redo_step.specs.Setting.{value_in}
use Rattle.redo_step.specs.Value.{value_bound}
use Rattle.redo_step.proofs.BlameLemmas.{unfit_next, unfit_here}
use Rattle.redo_step.proofs.ComesLemmas.{if_ok_map}
use Rattle.std.proofs.Common.{◌∙◌}
use Rattle.redo_step.proofs.shown.first_unfit.Goals as goal

pub returns-in-Some : goal.returns-in-Some
returns-in-Some c =
    let here = unfit_here (value_in (arguments_view c.args.args.now)) (value_bound c.args.bound.now) c.args.parts.now c.loop-part.part-index c.part-item.result _ c.loop-part-test.true c.part-item.is c.loop-part.invariant c.in-Some.text (search rules) in
    if_ok_map c.from_slice.result (λ value is. is ∙ (c.bytes.ensures ∙ here)) c.from_slice.ensures

pub loop-part-preserved : goal.loop-part-preserved
loop-part-preserved c =
    unfit_next (value_in (arguments_view c.args.args.now)) (value_bound c.args.bound.now) c.args.parts.now c.loop-part.part-index c.part-item.result _ c.loop-part-test.true c.part-item.is c.loop-part.invariant (search rules)
