use Rattle.std.proofs.Common.{◌≡◌, ◌≤◌, ◌+◌, take}
use Rattle.redo_script.specs.Marks.{line_from}
use Rattle.redo_script.proofs.places.lines.line_start.Given as goal

abbrev pub invariant-loop-i : goal.invariant-loop-i
invariant-loop-i l = record {
  line : l.here ≡ line_from 1 (take l.i l.text);
  few : l.here ≤ l.i + 1;
  before : 1 ≤ l.line → l.here ≤ l.line;
}
