use Rattle.std.proofs.Common.{◌≡◌}
use Rattle.redo_tree.proofs.digests.keep_fours.Given as goal

-- what is contained so far is what was contained
abbrev pub invariant-values : goal.invariant-values
invariant-values g l = l.values ≡ l.initial.values
