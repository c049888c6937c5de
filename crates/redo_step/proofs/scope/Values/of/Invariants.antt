use Rattle.std.proofs.Common.{◌≡◌, ◌++◌, drop}
use Rattle.redo_step.proofs.scope.Values.of.Given as goal

abbrev pub invariant-loop-text : goal.invariant-loop-text
invariant-loop-text l = l.values.items ++ drop l.text-index l.texts ≡ l.texts
