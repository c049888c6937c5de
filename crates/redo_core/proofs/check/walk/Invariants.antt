use Rattle.std.proofs.Common.{◌≤◌}
use Rattle.redo_rules.specs.Build.{sources_for}
use Rattle.redo_skip.specs.inside.Stood.{StandAlone}
use Rattle.redo_core.proofs.check.walk.Given as goal

-- the entries so far stand, whatever is known
abbrev pub invariant-loop-at : goal.invariant-loop-at
invariant-loop-at l = (l.fn.from ≤ l.at) × StandAlone (sources_for l.given) l.entries l.fn.from l.at
