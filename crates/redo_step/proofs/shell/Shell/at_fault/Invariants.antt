use Rattle.redo_step.specs.Ends.{NoneWithin, Brings}
use Rattle.redo_step.specs.Runs.{end_of}
use Rattle.redo_step.specs.inside.Operands.{seen}
use Rattle.redo_step.specs.inside.Scene.{scene_setting}
use Rattle.redo_step.proofs.shell.Shell.at_fault.Given as goal

abbrev pub invariant-loop-index : goal.invariant-loop-index
invariant-loop-index g l = NoneWithin (Brings (scene_setting l.self.scene) (g.A.Answers.ask l.self.answers.now) l.line l.declared (end_of l.end)) (seen l.operands) l.index
