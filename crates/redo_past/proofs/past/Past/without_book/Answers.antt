use Rattle.std.proofs.Common.{◌≡◌, ◌∙◌, None, rules}
use Rattle.std.specs.Arc.{arc_value}
use Rattle.redo_tree.specs.Tree.{IsTree, file_at}
use Rattle.redo_which.specs.Candidates.{book_path}
use Rattle.redo_past.proofs.PastLemmas.{all-sources}
use Rattle.redo_past.proofs.past.Past.without_book.Goals as goal

pub invariant_of-result : goal.invariant_of-result
invariant_of-result c =
    let is : IsTree (arc_value c.in_ok-tree.tree) = search rules in
    let none : file_at (arc_value c.in_ok-tree.tree) book_path ≡ None = search rules in
    all-sources (arc_value c.in_ok-tree.tree) (arc_value c.in_ok-sources.sources) (arc_value c.in_ok-book.book) is none (search rules) (c.in_ok-book.ensures.ok ∙ c.new-2.ensures)

pub returns-clause-past : goal.returns-clause-past
returns-clause-past c =
    let is : IsTree (arc_value c.in_ok-tree.tree) = search rules in
    let none : file_at (arc_value c.in_ok-tree.tree) book_path ≡ None = search rules in
    all-sources (arc_value c.in_ok-tree.tree) (arc_value c.in_ok-sources.sources) (arc_value c.in_ok-book.book) is none (search rules) (c.in_ok-book.ensures.ok ∙ c.new-2.ensures)
