use Rattle.std.proofs.Common.{◌≡◌, ◌<◌, inl, inr, length, slice_get, slice_index_or, Some, arith, sym, ap, subst, ◌∙◌}
use Rattle.std.proofs.lemmas.Bool.{cases_lt}
use Rattle.redo_table.specs.inside.Targets.{stages_of}
use Rattle.redo_table.specs.Schedule.StageView.{Decided}
use Rattle.redo_table.proofs.TargetLemmas.{read-there, stage-there, decided-is, index-there}
use Rattle.redo_table.proofs.waits.next_lacking.Goals as goal

pub bounds-targets-at : goal.bounds-targets-at
bounds-targets-at c =
    let below : c.loop-i.i < length c.args.on.now = omega arith in
    let here = c.requires c.loop-i.i (slice_index_or c.args.on.now c.loop-i.i 0) (index-there c.args.on.now c.loop-i.i 0 below) in
    omega (arith, here)

pub returns-then-not-is_decided-clause-found : goal.returns-then-not-is_decided-clause-found
returns-then-not-is_decided-clause-found c =
    let below : c.loop-i.i < length c.args.on.now = omega arith in
    let n = slice_index_or c.args.on.now c.loop-i.i 0 in
    let here = c.requires c.loop-i.i n (index-there c.args.on.now c.loop-i.i 0 below) in
    record {
      target = c.index-targets-at.result;
      after = omega arith;
      before = c.loop-i.invariant;
      number = index-there c.args.on.now c.loop-i.i 0 below;
      there = read-there c.args.targets.now n c.index-targets-at.result here c.index-targets-at.is;
      undecided = sym (c.if-not-is_decided.ensures);
    }

pub loop-i-preserved : goal.loop-i-preserved
loop-i-preserved c = λ k m after' before' at.
    elim (cases_lt k c.loop-i.i) [
      | inl earlier ↦ c.loop-i.invariant k m after' earlier at
      | inr now ↦
          let same : k ≡ c.loop-i.i = omega arith in
          let below : c.loop-i.i < length c.args.on.now = omega arith in
          let n = slice_index_or c.args.on.now c.loop-i.i 0 in
          let there = index-there c.args.on.now c.loop-i.i 0 below in
          let here = c.requires c.loop-i.i n there in
          let both : Some m ≡ Some n = sym (subst (λ j. slice_get c.args.on.now j ≡ Some m) same at) ∙ there in
          let is : n ≡ m = cc in
          subst (λ j. slice_get (stages_of c.args.targets.now) j ≡ Some Decided) is
          (stage-there c.args.targets.now n c.index-targets-at.result (read-there c.args.targets.now n c.index-targets-at.result here c.index-targets-at.is)
          ∙ ap Some (decided-is _ (sym c.if-not-is_decided.ensures)))
    ]

pub returns-clause-none : goal.returns-clause-none
returns-clause-none c = λ k n after' below at. c.loop-i.invariant k n after' (omega arith) at
