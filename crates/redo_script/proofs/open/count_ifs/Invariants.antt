use Rattle.std.proofs.Common.{◌≡◌, ◌+◌, drop}
use Rattle.redo_script.specs.inside.Parser.{ifs_among}
use Rattle.redo_script.proofs.open.count_ifs.Given as goal

abbrev pub invariant-loop-open : goal.invariant-loop-open
invariant-loop-open l = l.count + ifs_among (drop l.open-index l.opens) ≡ ifs_among l.fn.opens
