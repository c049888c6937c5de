-- What contracts see of a scene, and of the job that it is for.
use Rattle.std.specs.Arc.{arc_value}
use Rattle.redo_which.specs.Views.{arguments_view}
use Rattle.redo_step.specs.declared.job.JobInputs.{JobInputs}
use Rattle.redo_step.specs.declared.scene.Scene.{Scene}
use Rattle.redo_step.specs.Setting.{Setting, setting_of}

-- the setting of a target's script, before any loop
abbrev pub job_inputs_setting : JobInputs → Setting
job_inputs_setting j = setting_of (arc_value j.tree) j.limits.file_bytes j.target (arguments_view j.rule.args)

-- the setting that commands see
abbrev pub scene_setting : Scene → Setting
scene_setting s =
    record (setting_of s.tree.now s.limit s.target.now (arguments_view s.args.now)) { bound = s.bound.items }
