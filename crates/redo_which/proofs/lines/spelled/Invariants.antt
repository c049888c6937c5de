use Rattle.std.proofs.Common.{◌≡◌, ◌++◌, take}
use Rattle.std.specs.Iterator.Adapters.{take_count, take_source}
use Rattle.redo_which.specs.Lines.{lines_of}
use Rattle.redo_which.proofs.lines.spelled.Given as goal

-- the lines so far, with those that are left, are all
abbrev pub invariant-loop-candidate : goal.invariant-loop-candidate
invariant-loop-candidate l = l.text.items ++ lines_of l.front (take (take_count l.candidate-iterator) (take_source l.candidate-iterator)) ≡ lines_of l.front l.rest
