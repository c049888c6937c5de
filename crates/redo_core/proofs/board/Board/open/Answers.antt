use Rattle.std.proofs.Common.{rules, ◌≡◌, Err, ap, subst, ◌∙◌}
use Rattle.std.specs.Arc.{arc_value}
use Rattle.redo_rules.specs.Results.{NeedsTooMany}
use Rattle.redo_tree.specs.Tree.{Tree}
use Rattle.redo_core.proofs.GivenLemmas.{at-limit, no-book}
use Rattle.redo_core.proofs.board.Board.open.Goals as goal

-- a board that has stopped is no fault of a book
pub returns-in_err-over-clause-book : goal.returns-in_err-over-clause-book
returns-in_err-over-clause-book c = λ n is.
    let made = rw is at c.from_residual-in_err-over.ensures in
    absurd (no-book c.in_err-over.field-0.0 n made.1)

-- the past is that of the tree
pub returns-in_err-over-clause-too_many : goal.returns-in_err-over-clause-too_many
returns-in_err-over-clause-too_many c = λ is.
    let made = rw is at c.from_residual-in_err-over.ensures in
    let stop = at-limit c.in_err-over.field-0.0 made.1 in
    let P : Tree → Type 0 = λ t. NeedsTooMany t c.args.request.now c.args.limits in
    let same : c.in_ok-past.past.tree ≡ arc_value c.args.tree = search rules in
    subst P same (c.over.ensures.too_many (c.in_err-over.was ∙ ap Err stop))
