use Rattle.std.proofs.Common.{◌≡◌, rules, true}
use Rattle.redo_dir.specs.Loaded.{wants}
use Rattle.redo_run.proofs.CoverageLemmas.{both-said}
use Rattle.redo_run.proofs.coverage.is_mending_read.Goals as goal

pub returns : goal.returns
returns c =
    let yes : c.in_ok-said_are_read.field-0 ≡ true = search rules in
    both-said (wants c.args.wanted.now) c.args.tree.now c.in_ok-journal.journal c.in_ok-book.book c.said_are_read-2.result
    c.in_ok-journal.ensures c.in_ok-book.ensures (c.in_ok-said_are_read.ensures.place yes)
    (c.in_ok-said_are_read.ensures.targets yes) c.said_are_read-2.ensures.place c.said_are_read-2.ensures.targets
