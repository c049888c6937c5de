use Rattle.std.proofs.Common.{◌≡◌, [], map, take}
use Rattle.redo_record.specs.Entries.{with_all}
use Rattle.redo_skip.specs.Checks.{shown}
use Rattle.redo_core.proofs.check.all_shown.Given as goal

-- the entries so far
abbrev pub invariant-loop-entry : goal.invariant-loop-entry
invariant-loop-entry l = l.deps ≡ with_all [] (map shown (take l.entry-index l.entries))
