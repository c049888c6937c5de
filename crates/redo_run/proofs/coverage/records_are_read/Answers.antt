use Rattle.std.proofs.Common.{◌≡◌, true, rules}
use Rattle.redo_dir.specs.Loaded.{wants}
use Rattle.redo_book.specs.Book.{record_of}
use Rattle.redo_book.specs.declared.book.BookRecord.{BookRecord}
use Rattle.redo_reads.specs.Reads.{named_by}
use Rattle.redo_run.proofs.CoverageLemmas.{covers-more}
use Rattle.redo_run.proofs.coverage.records_are_read.Goals as goal

pub loop-record-preserved : goal.loop-record-preserved
loop-record-preserved c =
    let yes : c.record_is_read.result ≡ true = search rules in
    covers-more (wants c.args.wanted.now) c.args.tree.now (λ (r : BookRecord). named_by (record_of r)) c.args.records.now c.loop-record.record-index
    c.record-item.result c.loop-record-test.true c.record-item.is c.loop-record.invariant (c.record_is_read.ensures yes)
