use Rattle.std.proofs.Common.{◌≡◌, true, take}
use Rattle.redo_script.specs.inside.Runs.{all_quotable}
use Rattle.redo_script.proofs.spans.quotable_len.Given as goal

abbrev pub invariant-loop-i : goal.invariant-loop-i
invariant-loop-i l = all_quotable (take l.i l.text) ≡ true
