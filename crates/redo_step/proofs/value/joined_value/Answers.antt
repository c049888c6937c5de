use Rattle.std.proofs.Common.{rules}
use Rattle.redo_which.specs.Views.{arguments_view}
use Rattle.redo_step.specs.Setting.{value_in}
use Rattle.redo_step.specs.Value.{value_bound}
use Rattle.redo_step.proofs.ValueLemmas.{adds}
use Rattle.redo_step.proofs.value.joined_value.Goals as goal

pub loop-part-preserved : goal.loop-part-preserved
loop-part-preserved c =
    adds (value_in (arguments_view c.args.args.now)) (value_bound c.args.bound.now) c.args.parts.now c.loop-part.part-index c.part-item.result c.loop-part.value.items _ c.loop-part-test.true c.part-item.is c.loop-part.invariant c.in-Some.text _ (search rules) (search rules)
