use Rattle.std.proofs.Common.{take}
use Rattle.std.specs.List.{AllByRecursion}
use Rattle.redo_dir.specs.inside.Contents.{WasAnswered}
use Rattle.redo_dir.proofs.loading.check_read.Given as goal

-- no file was refused at the first places
abbrev pub invariant-loop-place : goal.invariant-loop-place
invariant-loop-place l = AllByRecursion WasAnswered (take l.place-index l.places)
