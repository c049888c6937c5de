use Rattle.redo_book.specs.Book.{targets_of}
use Rattle.redo_dir.specs.Loaded.{wants}
use Rattle.redo_run.proofs.CoverageLemmas.{covers-one}
use Rattle.redo_run.proofs.coverage.kept_are_read.Goals as goal

pub returns-then-is_read : goal.returns-then-is_read
returns-then-is_read c are =
    covers-one (wants c.args.wanted.now) c.args.tree.now c.args.place.now (targets_of c.args.book.now)
    (c.is_read.ensures c.if-is_read.true) (c.book_targets_are_read.ensures are)
