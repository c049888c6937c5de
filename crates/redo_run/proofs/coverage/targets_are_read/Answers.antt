use Rattle.std.proofs.Common.{◌≡◌, ◌∷◌, [], true, rules}
use Rattle.redo_book.specs.declared.book.BookRecord.{BookRecord}
use Rattle.redo_dir.specs.Loaded.{wants}
use Rattle.redo_run.proofs.CoverageLemmas.{covers-more, covers-one}
use Rattle.redo_run.proofs.coverage.targets_are_read.Goals as goal

pub loop-record-preserved : goal.loop-record-preserved
loop-record-preserved c =
    let yes : c.is_read.result ≡ true = search rules in
    let made : BookRecord = c.record-item.result in
    covers-more (wants c.args.wanted.now) c.args.tree.now (λ (r : BookRecord). r.target ∷ []) c.args.records.now
    c.loop-record.record-index made c.loop-record-test.true c.record-item.is c.loop-record.invariant
    (covers-one (wants c.args.wanted.now) c.args.tree.now made.target [] (c.is_read.ensures yes) (λ p m. absurd m))
