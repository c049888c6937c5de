use Rattle.std.proofs.Common.{◌≡◌, drop}
use Rattle.redo_record.specs.Entries.{with_entries}
use Rattle.redo_step.proofs.declaring.declare.Given as goal

abbrev pub invariant-loop-path : goal.invariant-loop-path
invariant-loop-path l = with_entries l.deps l.kind (drop l.path-index l.paths) ≡ with_entries l.initial.deps l.kind l.paths
