use Rattle.std.proofs.Common.{◌≤◌, ◌+◌, length}
use Rattle.redo_script.specs.inside.Passes.{IsAt, IsHanded, script_by_tokens}
use Rattle.redo_script.proofs.reader.read_statements.Given as goal

abbrev pub invariant-loop-left : goal.invariant-loop-left
invariant-loop-left l = record {
  reads : IsAt l.passes l.left (script_by_tokens l.fn.text);
  handed : IsHanded l.passes;
  line : l.passes.lexer.line + length l.left ≤ length l.fn.text + 1;
}

abbrev pub decreases-loop-left : goal.decreases-loop-left
decreases-loop-left l = length l.left
