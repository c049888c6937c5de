use Rattle.std.proofs.Common.{◌∙◌, sym}
use Rattle.redo_step.specs.inside.Scene.{scene_setting}
use Rattle.redo_step.proofs.LoopLemmas.{none_before, texts_each}
use Rattle.redo_step.proofs.scene.Scene.texts.Goals as goal

pub loop-word-init : goal.loop-word-init
loop-word-init c = rw c.in_ok-texts.ensures.items (none_before _ ∙ sym (texts_each (scene_setting c.args.self.now) c.args.line c.args.words.now))
