use Rattle.std.proofs.Common.{◌≡◌, drop}
use Rattle.redo_record.specs.Entries.{is_entered}
use Rattle.redo_record.proofs.deps.is_among.Given as goal

-- the entry is among all where it is among those that are left
abbrev pub invariant-loop-entry : goal.invariant-loop-entry
invariant-loop-entry l = is_entered (drop l.entry-index l.fn.entries) l.fn.dep.kind l.fn.dep.path ≡ is_entered l.fn.entries l.fn.dep.kind l.fn.dep.path
