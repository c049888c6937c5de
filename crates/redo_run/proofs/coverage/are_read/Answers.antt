use Rattle.std.proofs.Common.{◌≡◌, true, rules}
use Rattle.redo_dir.specs.Loaded.{wants}
use Rattle.redo_run.proofs.CoverageLemmas.{reads-more}
use Rattle.redo_run.proofs.coverage.are_read.Goals as goal

pub loop-dep-preserved : goal.loop-dep-preserved
loop-dep-preserved c =
    let yes : c.dep_is_read.result ≡ true = search rules in
    reads-more (wants c.args.wanted.now) c.args.tree.now c.args.deps.now c.loop-dep.dep-index c.dep-item.result
    c.loop-dep-test.true c.dep-item.is c.loop-dep.invariant (c.dep_is_read.ensures yes)
