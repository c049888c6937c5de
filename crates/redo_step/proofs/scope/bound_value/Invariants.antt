use Rattle.std.proofs.Common.{◌≡◌, drop}
use Rattle.redo_step.specs.Value.{value_bound}
use Rattle.redo_step.proofs.scope.bound_value.Given as goal

abbrev pub invariant-loop-binding : goal.invariant-loop-binding
invariant-loop-binding l = value_bound (drop l.binding-index l.bound) l.name ≡ value_bound l.bound l.name
