use Rattle.std.specs.Arc.{arc_value}
use Rattle.redo_past.proofs.PastLemmas.{with-book}
use Rattle.redo_past.proofs.past.Past.with_book_of.Goals as goal

pub invariant_of-result : goal.invariant_of-result
invariant_of-result c =
    with-book (arc_value c.in_ok-tree.tree) c.args.tree (arc_value c.in_ok-sources.sources) (arc_value c.in_ok-book.book) c.args.book
    c.in_ok-tree.ensures.ok c.in_ok-book.ensures.ok c.in_ok-sources.ensures c.requires.book

pub returns-clause-past : goal.returns-clause-past
returns-clause-past c =
    with-book (arc_value c.in_ok-tree.tree) c.args.tree (arc_value c.in_ok-sources.sources) (arc_value c.in_ok-book.book) c.args.book
    c.in_ok-tree.ensures.ok c.in_ok-book.ensures.ok c.in_ok-sources.ensures c.requires.book
