use Rattle.std.proofs.Common.{◌≡◌, ◌⊎◌, None, Some, arith, ap, subst, ◌∙◌}
use Rattle.redo_build.specs.Rules.{Ask}
use Rattle.redo_core.specs.inside.Slots.{IsToldBy}
use Rattle.redo_core.specs.Views.{told_by}
use Rattle.redo_core.specs.inside.Works.{told_in}
use Rattle.redo_table.proofs.TargetLemmas.{index-there}
use Rattle.redo_core.proofs.GainSteps.{gains-step}
use Rattle.redo_core.proofs.table.Table.gain.Goals as goal

pub loop-at-preserved : goal.loop-at-preserved
loop-at-preserved c =
    gains-step c.args.self.now c.args.operands.now c.reserve.new.self c.loop-at.facts c.gain_one.new.facts c.loop-at.at-index _
    (index-there c.args.operands.now c.loop-at.at-index 0 c.loop-at-test.true) c.loop-at.invariant c.in_ok-gain_one.ensures

pub returns : goal.returns
returns c =
    let same : told_in c.reserve.new.self ≡ told_in c.args.facts.now = ap told_by c.reserve.ensures.known in
    record {
      asked = c.loop-at.invariant.asked ∙ c.reserve.ensures.asked;
      kept = λ q none.
          let P : Ask → Type 0 = λ ask. ask q ≡ None in
          subst P same (c.loop-at.invariant.kept q none);
      origin = λ q o told.
          let P : Ask → Type 0 = λ ask. (ask q ≡ Some o) ⊎ IsToldBy c.args.self.now c.args.operands.now q o in
          subst P same (c.loop-at.invariant.origin q o told);
      known = λ k n fact below. c.loop-at.invariant.known k n fact (omega (arith, below));
    }
