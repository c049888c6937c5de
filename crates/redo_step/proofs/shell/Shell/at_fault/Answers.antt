use Rattle.std.proofs.Common.{◌≡◌, true, false, rules}
use Rattle.redo_step.specs.Ends.{Brings}
use Rattle.redo_step.specs.Runs.{end_of}
use Rattle.redo_step.specs.inside.Operands.{operand_of}
use Rattle.redo_step.specs.inside.Scene.{scene_setting}
use Rattle.redo_step.proofs.BlameLemmas.{none_here, first_here}
use Rattle.redo_step.proofs.shell.Shell.at_fault.Goals as goal

pub returns-then-branch : goal.returns-then-branch
returns-then-branch g c =
    let is = rw c.if-branch.true at c.in_ok-brings.ensures in
    let P = Brings (scene_setting c.args.self.now.scene) (g.A.Answers.ask c.args.self.now.answers.now) c.args.line c.args.declared.now (end_of c.args.end) in
    (operand_of c.index-operands-index.result, first_here P c.args.operands.now c.loop-index.index c.index-operands-index.result c.loop-index-test.true c.index-operands-index.is c.loop-index.invariant (is.0 (search rules)), c.in_ok-shown.ensures)

pub loop-index-preserved : goal.loop-index-preserved
loop-index-preserved g c =
    let is = rw c.if-branch.false at c.in_ok-brings.ensures in
    let P = Brings (scene_setting c.args.self.now.scene) (g.A.Answers.ask c.args.self.now.answers.now) c.args.line c.args.declared.now (end_of c.args.end) in
    none_here P c.args.operands.now c.loop-index.index c.index-operands-index.result c.loop-index-test.true c.index-operands-index.is c.loop-index.invariant (λ so. let bad : false ≡ true = is.1 so in cc)
