use Rattle.std.proofs.Common.{◌≡◌, drop, bytes_eq}
use Rattle.std.specs.Map.{lookup}
use Rattle.redo_core.specs.inside.Works.{few_known}
use Rattle.redo_core.proofs.facts.told_of.Given as goal

-- the answer is that of the facts that are left
abbrev pub invariant-loop-fact : goal.invariant-loop-fact
invariant-loop-fact l = lookup (bytes_eq l.path) (few_known l.facts) ≡ lookup (bytes_eq l.path) (few_known (drop l.fact-index l.facts))
