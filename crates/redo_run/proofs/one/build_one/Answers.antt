use Rattle.std.proofs.Common.{Err, ap, refl, sym, subst, ◌∙◌}
use Rattle.redo_report.specs.declared.report.Report.{Report}
use Rattle.redo_rules.specs.Results.{IsResult, NeedsTooMany}
use Rattle.redo_tree.specs.Tree.{Tree}
use Rattle.redo_run.proofs.OpenedLemmas.{never_book, result_of, runs, stopped_at_limit, too_many_of}
use Rattle.redo_run.proofs.one.build_one.Goals as goal

pub loop-board-init : goal.loop-board-init
loop-board-init c = (runs c.in_ok-board.board c.in_ok-board.ensures.ok.is, c.in_ok-board.ensures.none_out, refl)

pub returns-in_err-board-clause-book : goal.returns-in_err-board-clause-book
returns-in_err-board-clause-book c = λ n is.
    let made = rw is at c.from_residual-in_err-board.ensures in
    absurd (never_book c.in_err-board.field-0.0 n made.1)

pub returns-in_err-board-clause-too_many : goal.returns-in_err-board-clause-too_many
returns-in_err-board-clause-too_many c = λ is.
    let made = rw is at c.from_residual-in_err-board.ensures in
    let stop = stopped_at_limit c.in_err-board.field-0.0 made.1 in
    let P : Tree → Type 0 = λ t. NeedsTooMany t c.args.request.now c.args.limits in
    subst P c.in_ok-past.ensures.tree (c.over.ensures.too_many (c.in_err-board.was ∙ ap Err stop))

pub returns-in_err-board-clause-only_unsafe : goal.returns-in_err-board-clause-only_unsafe
returns-in_err-board-clause-only_unsafe c = λ is.
    c.keeping_is_sound.ensures.within c.args.tree c.args.request.now c.args.limits (returns-in_err-board-clause-too_many c is)

pub returns-in_err-advance_newest-clause-book : goal.returns-in_err-advance_newest-clause-book
returns-in_err-advance_newest-clause-book c = λ n is.
    let made = rw is at c.from_residual-in_err-advance_newest.ensures in
    absurd (never_book c.in_err-advance_newest.field-0.0 n made.1)

pub returns-in_err-advance_newest-clause-too_many : goal.returns-in_err-advance_newest-clause-too_many
returns-in_err-advance_newest-clause-too_many c = λ is.
    let made = rw is at c.from_residual-in_err-advance_newest.ensures in
    let stop = stopped_at_limit c.in_err-advance_newest.field-0.0 made.1 in
    too_many_of c.args.tree _ c.in_ok-past.ensures.tree c.args.request.now c.args.limits c.in_ok-board.board c.in_ok-board.ensures.ok
    c.loop-board.board c.loop-board.invariant.2 (c.advance_newest.ensures.too_many (c.in_err-advance_newest.was ∙ ap Err stop))

pub returns-in_err-advance_newest-clause-only_unsafe : goal.returns-in_err-advance_newest-clause-only_unsafe
returns-in_err-advance_newest-clause-only_unsafe c = λ is.
    c.keeping_is_sound.ensures.within c.args.tree c.args.request.now c.args.limits (returns-in_err-advance_newest-clause-too_many c is)

pub returns-clause-report : goal.returns-clause-report
returns-clause-report c =
    let P : Report → Type 0 = IsResult c.loop-board.board.given in
    result_of c.args.tree _ c.in_ok-past.ensures.tree c.args.request.now c.args.limits c.in_ok-board.board c.in_ok-board.ensures.ok
    c.loop-board.board c.loop-board.invariant.2 _ (subst P (sym c.in_ok-into_report.ensures) c.in_ok-finish.ensures)

-- where keeping is safe, it agrees with that of the sources
pub returns-clause-sound : goal.returns-clause-sound
returns-clause-sound c =
    c.keeping_is_sound.ensures.sound c.args.tree c.args.request.now c.args.limits _ c.is_tree.ensures (returns-clause-report c)
