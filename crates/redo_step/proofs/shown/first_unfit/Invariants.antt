use Rattle.std.proofs.Common.{◌≡◌, drop}
use Rattle.redo_script.specs.View.{symbols_of}
use Rattle.redo_which.specs.Views.{arguments_view}
use Rattle.redo_step.specs.Setting.{value_in}
use Rattle.redo_step.specs.Value.{value_bound}
use Rattle.redo_step.specs.Operands.{first_unfit}
use Rattle.redo_step.proofs.shown.first_unfit.Given as goal

abbrev pub invariant-loop-part : goal.invariant-loop-part
invariant-loop-part l = first_unfit (value_in (arguments_view l.args)) (value_bound l.bound) (symbols_of (drop l.part-index l.parts)) ≡ first_unfit (value_in (arguments_view l.args)) (value_bound l.bound) (symbols_of l.parts)
