use Rattle.std.proofs.Common.{◌≡◌, drop}
use Rattle.redo_step.specs.Words.{paths_of}
use Rattle.redo_step.specs.inside.Scene.{scene_setting}
use Rattle.redo_step.proofs.LoopLemmas.{after_front, each_of, text_path}
use Rattle.redo_step.proofs.scene.Scene.paths.Given as goal

abbrev pub invariant-loop-text : goal.invariant-loop-text
invariant-loop-text l =
    after_front l.paths.items (each_of (text_path (scene_setting l.self) l.line) (drop l.text-index l.texts)) ≡ paths_of (scene_setting l.self) l.line l.texts
