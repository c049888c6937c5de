use Rattle.std.proofs.Common.{◌≡◌, drop}
use Rattle.redo_step.specs.inside.Waiting.{any_failure}
use Rattle.redo_step.proofs.wait.is_any_failed.Given as goal

abbrev pub invariant-loop-path : goal.invariant-loop-path
invariant-loop-path g l = any_failure (g.A.Answers.ask l.answers) (drop l.path-index l.targets) ≡ any_failure (g.A.Answers.ask l.answers) l.targets
