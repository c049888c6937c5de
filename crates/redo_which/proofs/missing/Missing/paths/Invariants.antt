use Rattle.std.proofs.Common.{◌≡◌, ◌++◌, map, take}
use Rattle.std.specs.Iterator.Adapters.{take_count, take_source}
use Rattle.redo_which.proofs.missing.Missing.paths.Given as goal

-- the paths so far, with those that are left, are all
abbrev pub invariant-loop-candidate : goal.invariant-loop-candidate
invariant-loop-candidate l = l.paths.items ++ map (λ p. p.do_file) (take (take_count l.candidate-iterator) (take_source l.candidate-iterator)) ≡ l.self
