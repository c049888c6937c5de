use Rattle.std.proofs.Common.{◌∙◌, sym}
use Rattle.redo_step.specs.inside.Scene.{scene_setting}
use Rattle.redo_step.proofs.LoopLemmas.{none_before, paths_each}
use Rattle.redo_step.proofs.scene.Scene.paths.Goals as goal

pub loop-text-init : goal.loop-text-init
loop-text-init c = rw c.in_ok-paths.ensures.items (none_before _ ∙ sym (paths_each (scene_setting c.args.self.now) c.args.line c.args.texts.now))
