-- The setting of a script, from what it is given.
use Rattle.redo_which.specs.Views.{arguments_view}
use Rattle.redo_step.specs.declared.ends.ScriptInputs.{ScriptInputs}
use Rattle.redo_step.specs.Setting.{Setting, setting_of}

-- the setting, before any loop
abbrev pub inputs_setting : ScriptInputs → Setting
inputs_setting i = setting_of i.tree.now i.limits.file_bytes i.target.now (arguments_view i.args.now)
