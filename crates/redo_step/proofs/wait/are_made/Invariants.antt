use Rattle.std.proofs.Common.{◌≡◌, [], drop}
use Rattle.redo_step.specs.inside.Waiting.{any_failure, unanswered}
use Rattle.redo_step.proofs.wait.are_made.Given as goal

-- those so far were made
abbrev pub invariant-loop-path : goal.invariant-loop-path
invariant-loop-path g l = record {
  answered : unanswered (g.A.Answers.ask l.answers) [] (drop l.path-index l.targets) ≡ unanswered (g.A.Answers.ask l.answers) [] l.targets;
  good : any_failure (g.A.Answers.ask l.answers) (drop l.path-index l.targets) ≡ any_failure (g.A.Answers.ask l.answers) l.targets;
}
