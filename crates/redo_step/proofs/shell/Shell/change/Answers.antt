use Rattle.std.proofs.Common.{rules, refl}
use Rattle.redo_script.specs.View.{words_of}
use Rattle.redo_step.specs.inside.Machine.{state_of}
use Rattle.redo_step.specs.inside.Scene.{scene_setting}
use Rattle.redo_step.proofs.WaitingLemmas.{changed_runs, changed_keeps}
use Rattle.redo_step.proofs.shell.Shell.change.Goals as goal

pub returns-clause-run : goal.returns-clause-run
returns-clause-run g c =
    changed_runs (scene_setting c.args.self.now.scene) (g.A.Answers.ask c.args.self.now.answers.now) c.args.line (words_of c.args.words.now) c.in_ok-paths.paths.items _ (state_of c.args.effects.now) _ c.go_on.result (search rules) (search rules) (search rules) (c.go_on.ensures.run _)

pub returns-clause-keeps : goal.returns-clause-keeps
returns-clause-keeps g c =
    changed_keeps (scene_setting c.args.self.now.scene) (g.A.Answers.ask c.args.self.now.answers.now) c.args.line (words_of c.args.words.now) c.in_ok-paths.paths.items _ (state_of c.args.effects.now) _ c.go_on.result (search rules) refl (search rules) (search rules) c.go_on.ensures.keeps
