use Rattle.std.proofs.Common.{◌≡◌, ◌+◌, drop}
use Rattle.redo_script.specs.inside.Parser.{loops_among}
use Rattle.redo_script.proofs.open.count_loops.Given as goal

abbrev pub invariant-loop-open : goal.invariant-loop-open
invariant-loop-open l = l.count + loops_among (drop l.open-index l.opens) ≡ loops_among l.fn.opens
