use Rattle.std.proofs.Common.{◌≡◌, [], drop}
use Rattle.redo_record.specs.Entries.{with_all}
use Rattle.redo_record.proofs.deps.copied.Given as goal

-- the entries so far, with those that are left, are all
abbrev pub invariant-loop-entry : goal.invariant-loop-entry
invariant-loop-entry l = with_all l.many (drop l.entry-index l.fn.entries) ≡ with_all [] l.fn.entries
