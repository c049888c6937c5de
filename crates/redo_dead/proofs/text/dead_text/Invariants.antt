use Rattle.std.proofs.Common.{◌≡◌, take}
use Rattle.std.specs.Prelude.{flat_map}
use Rattle.redo_dead.specs.Dead.{file_line}
use Rattle.redo_dead.proofs.text.dead_text.Given as goal

-- the lines of the files so far
abbrev pub invariant-loop-file : goal.invariant-loop-file
invariant-loop-file l = l.text.items ≡ flat_map file_line (take l.file-index l.plan.generated.items)
