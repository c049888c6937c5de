use Rattle.std.proofs.Common.{drop}
use Rattle.redo_step.specs.Files.{contents_of}
use Rattle.redo_step.specs.inside.Scene.{scene_setting}
use Rattle.redo_step.proofs.RoundLemmas.{Catted}
use Rattle.redo_step.proofs.shell.Shell.cat.Given as goal

abbrev pub invariant-loop-text : goal.invariant-loop-text
invariant-loop-text g l =
    Catted (scene_setting l.self.scene) (g.A.Answers.ask l.self.answers.now) l.declared l.line (drop l.text-index l.texts) (contents_of (scene_setting l.self.scene) (g.A.Answers.ask l.self.answers.now) l.declared l.line l.texts) l.initial.sink l.sink
