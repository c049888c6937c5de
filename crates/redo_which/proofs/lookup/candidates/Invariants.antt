use Rattle.std.proofs.Common.{◌≡◌, ◌++◌, map}
use Rattle.redo_which.specs.Candidates.{candidates_of}
use Rattle.redo_which.specs.Views.{place_of}
use Rattle.redo_which.proofs.lookup.candidates.Given as goal

-- the candidates so far, with those that are left, are all
abbrev pub invariant-loop-candidate : goal.invariant-loop-candidate
invariant-loop-candidate l = map place_of l.list.items ++ l.candidate-iterator ≡ candidates_of l.target
