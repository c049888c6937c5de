use Rattle.std.proofs.Common.{◌≡◌, ◌≤◌, length}
use Rattle.redo_script.specs.declared.lexer.Mode.TheVariants as modes
use Rattle.redo_script.specs.Reading.{Reader, read_on}
use Rattle.redo_script.proofs.spans.past_comment.Given as goal

abbrev pub invariant-loop-left : goal.invariant-loop-left
invariant-loop-left l = record {
  reads : (r : Reader) → r.mode ≡ modes.Comment → read_on r l.left ≡ read_on r l.fn.text;
  within : length l.left ≤ length l.fn.text;
}

abbrev pub decreases-loop-left : goal.decreases-loop-left
decreases-loop-left l = length l.left
