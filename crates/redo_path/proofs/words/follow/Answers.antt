use Rattle.std.proofs.Common.{◌≡◌, sym, subst, false, arith}
use Rattle.std.proofs.lemmas.Grind.{common_steps}
use Rattle.std.specs.Str.{bytes_eq}
use Rattle.redo_path.proofs.StepLemmas.{IsPlain, Leads-enter, names-enter}
use Rattle.redo_path.proofs.words.follow.Goals as goal

plain : (c : goal.After-enter) → IsPlain c.args.part.now
plain c = record {
  nonempty = grind (arith, common_steps);
  not_here = subst (λ t. bytes_eq c.args.part.now t ≡ false) c.as_slice.ensures (sym c.if-eq.ensures);
  not_parent = subst (λ t. bytes_eq c.args.part.now t ≡ false) c.as_slice-2.ensures (sym c.if-eq-2.ensures);
  short = c.if-part-gt-LONGEST_NAME.false;
}

pub returns-clause-step : goal.returns-clause-step
returns-clause-step c = Leads-enter c.enter.result _ _ _ (plain c) c.requires.part c.enter.ensures.entered c.enter.ensures.memory

pub returns-clause-names : goal.returns-clause-names
returns-clause-names c = names-enter c.enter.result _ _ _ (plain c) c.requires.part c.requires.names c.enter.ensures.entered
