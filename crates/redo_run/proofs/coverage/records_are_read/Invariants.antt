use Rattle.std.proofs.Common.{take}
use Rattle.std.specs.Prelude.{flat_map}
use Rattle.redo_book.specs.Book.{record_of}
use Rattle.redo_dir.specs.Loaded.{wants}
use Rattle.redo_reads.specs.Reads.{Covers, named_by}
use Rattle.redo_run.proofs.coverage.records_are_read.Given as goal

-- the first ones were read
abbrev pub invariant-loop-record : goal.invariant-loop-record
invariant-loop-record l = Covers (wants l.wanted) l.tree (flat_map (λ r. named_by (record_of r)) (take l.record-index l.records))
