use Rattle.std.proofs.Common.{◌≡◌, ◌++◌, drop}
use Rattle.redo_query.specs.Answers.{entry_lines}
use Rattle.redo_query.proofs.text.entry_lines.Given as goal

-- the lines so far, with those that are left, are all
abbrev pub invariant-loop-entry : goal.invariant-loop-entry
invariant-loop-entry l = l.text.items ++ entry_lines (drop l.entry-index l.entries) ≡ entry_lines l.entries
