use Rattle.std.proofs.Common.{None, Some}
use Rattle.std.specs.Prelude.{option_map}
use Rattle.redo_script.specs.View.{writer_of, redirection_of}
use Rattle.redo_step.specs.inside.Machine.{state_of}
use Rattle.redo_step.specs.inside.Scene.{scene_setting}
use Rattle.redo_step.specs.inside.Writing.{writing_of}
use Rattle.redo_step.proofs.WriteLemmas.{writes}
use Rattle.redo_step.proofs.shell.Shell.write.Goals as goal

pub returns-in-None-clause-run : goal.returns-in-None-clause-run
returns-in-None-clause-run g c =
    writes (scene_setting c.args.self.now.scene) (g.A.Answers.ask c.args.self.now.answers.now) c.args.line (writer_of c.args.writer.now) (option_map redirection_of c.args.redirection.now) (state_of c.args.effects.now) (writing_of c.in_ok-writing.writing) None c.in_ok-writing.ensures.texts (rw c.in-None.is at c.in_ok-goal.ensures.goal) c.write_output.result _ c.write_output.ensures.run

pub returns-clause-run : goal.returns-clause-run
returns-clause-run g c =
    writes (scene_setting c.args.self.now.scene) (g.A.Answers.ask c.args.self.now.answers.now) c.args.line (writer_of c.args.writer.now) (option_map redirection_of c.args.redirection.now) (state_of c.args.effects.now) (writing_of c.in_ok-writing.writing) (Some c.in-Some.appends) c.in_ok-writing.ensures.texts (rw c.in-Some.is at c.in_ok-goal.ensures.goal) c.write_third.result _ c.write_third.ensures.run
