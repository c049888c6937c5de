use Rattle.std.proofs.Common.{◌≡◌, true, take}
use Rattle.redo_script.specs.inside.Runs.{all_plain}
use Rattle.redo_script.proofs.spans.plain_len.Given as goal

abbrev pub invariant-loop-i : goal.invariant-loop-i
invariant-loop-i l = all_plain (take l.i l.text) ≡ true
