use Rattle.std.proofs.Common.{◌≡◌, drop}
use Rattle.redo_step.specs.Declaring.{obstacle}
use Rattle.redo_step.specs.inside.Scene.{scene_setting}
use Rattle.redo_step.proofs.scene.Scene.check_free.Given as goal

abbrev pub invariant-loop-path : goal.invariant-loop-path
invariant-loop-path l = obstacle (scene_setting l.self) l.line (drop l.path-index l.paths) ≡ obstacle (scene_setting l.self) l.line l.paths
