use Rattle.std.proofs.Common.{◌≡◌, true, rules}
use Rattle.redo_dir.specs.Loaded.{wants}
use Rattle.redo_reads.specs.Reads.{changed_in}
use Rattle.redo_run.proofs.CoverageLemmas.{covers-more}
use Rattle.redo_run.proofs.coverage.entries_are_read.Goals as goal

pub loop-entry-preserved : goal.loop-entry-preserved
loop-entry-preserved c =
    let yes : c.entry_is_read.result ≡ true = search rules in
    covers-more (wants c.args.wanted.now) c.args.tree.now changed_in c.args.entries.now c.loop-entry.entry-index c.entry-item.result
    c.loop-entry-test.true c.entry-item.is c.loop-entry.invariant (c.entry_is_read.ensures yes)
