use Rattle.std.proofs.Common.{rules, refl}
use Rattle.redo_step.proofs.WaitingLemmas.{set_goes, some_goes}
use Rattle.redo_step.proofs.wait.without_answer.Goals as goal
use Rattle.redo_step.proofs.wait.without_answer.Goals.{then-is_none+in_ok-clone+in_ok-insert, else-is_none}

pub loop-path-preserved : goal.loop-path-preserved
loop-path-preserved g c = elim c.if-is_none.branch [
  | then-is_none+in_ok-clone+in_ok-insert w ↦
      let inserts = rw w.in_ok-clone.ensures.cases at w.in_ok-insert.ensures.paths in
      rw w.found-is (set_goes (g.A.Answers.ask c.args.answers.now) c.args.targets.now c.loop-path.path-index c.path-item.result c.loop-path-test.true c.path-item.is c.loop-path.found _ c.loop-path.invariant _ (search rules) inserts)
  | else-is_none w ↦
      rw w.found-is (some_goes (g.A.Answers.ask c.args.answers.now) c.args.targets.now c.loop-path.path-index c.path-item.result c.loop-path-test.true c.path-item.is c.loop-path.found _ c.loop-path.invariant _ (search rules) refl)
]
