use Rattle.std.proofs.Common.{◌≡◌, drop}
use Rattle.redo_script.specs.inside.Parser.{bound_among}
use Rattle.redo_script.proofs.open.binds.Given as goal

abbrev pub invariant-loop-open : goal.invariant-loop-open
invariant-loop-open l = bound_among l.fn.name (drop l.open-index l.opens) ≡ bound_among l.fn.name l.fn.opens
