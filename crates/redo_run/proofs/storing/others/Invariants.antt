use Rattle.std.proofs.Common.{◌≡◌, take}
use Rattle.redo_run.specs.Storing.{others_from}
use Rattle.redo_run.proofs.storing.others.Given as goal

-- of those that were looked at, the changed ones
abbrev pub invariant-loop-file : goal.invariant-loop-file
invariant-loop-file l = l.others.items ≡ others_from l.tree (take l.file-index l.files)
