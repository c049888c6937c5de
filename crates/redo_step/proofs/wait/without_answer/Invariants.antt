use Rattle.std.proofs.Common.{◌≡◌, [], drop}
use Rattle.redo_step.specs.inside.Waiting.{unanswered}
use Rattle.redo_step.proofs.wait.without_answer.Given as goal

abbrev pub invariant-loop-path : goal.invariant-loop-path
invariant-loop-path g l =
    unanswered (g.A.Answers.ask l.answers) l.found (drop l.path-index l.targets) ≡ unanswered (g.A.Answers.ask l.answers) [] l.targets
