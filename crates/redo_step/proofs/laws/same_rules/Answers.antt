use Rattle.redo_step.proofs.SameRuleLemmas.{same_rule, settings_alike}
use Rattle.redo_step.proofs.laws.same_rules.Goals as goal

pub returns : goal.returns
returns c = record {
  rule = λ one two target do_file missing arguments found ruled none there.
      same_rule one two target do_file missing arguments found ruled none there;
  settings = λ one two limit target arguments. settings_alike one two limit target arguments;
}
