use Rattle.std.proofs.Common.{◌≡◌, ◌≢◌, arith, false, rules, subst, sym, ◌∙◌}
use Rattle.std.proofs.lemmas.Result.{err_from_is_err_and}
use Rattle.std.specs.Prelude.{codes}
use Rattle.std.specs.Str.{bytes_eq}
use Rattle.redo_book.specs.Book.{IsText}
use Rattle.redo_book.specs.inside.Reading.{Reached, made_of}
use Rattle.redo_book.proofs.FaultLemmas.{never_both, not_end, number_small, reached_first, reached_next, reads_end, refused_behind}
use Rattle.redo_book.proofs.FaultLemmas.{refused_unfinished, refuses_all, refuses_line, some_left, none_left, shorter}
use Rattle.redo_book.proofs.TextLemmas.{one_book}
use Rattle.redo_book.proofs.WordLemmas.{same_bytes}
use Rattle.redo_book.proofs.reading.read_book.Goals as goal

pub returns-in_default-clause-first : goal.returns-in_default-clause-first
returns-in_default-clause-first c = refused_unfinished _ _ _ _ c.lines.invariant.reached c.in_default.ensures

pub returns-in_default-clause-none : goal.returns-in_default-clause-none
returns-in_default-clause-none c = λ rs h. never_both _ rs _ h (returns-in_default-clause-first c)

pub finish-requires : goal.finish-requires
finish-requires c =
    let end : c.as_slice.result.now ≡ codes "end" = search rules in
    let line : c.in-Some.line.now ≡ codes "end" = same_bytes _ _ (sym c.if-eq.ensures) ∙ end in
    (reads_end _ _ _ _ _ _ c.lines.invariant.reached c.in-Some.ensures line (none_left _ (sym c.if-is_empty.ensures))).ordered

pub returns-then-is_empty-clause-book : goal.returns-then-is_empty-clause-book
returns-then-is_empty-clause-book c =
    let end : c.as_slice.result.now ≡ codes "end" = search rules in
    let line : c.in-Some.line.now ≡ codes "end" = same_bytes _ _ (sym c.if-eq.ensures) ∙ end in
    subst (IsText c.args.text.now) (sym c.in_ok-finish.ensures)
    (reads_end _ _ _ _ _ _ c.lines.invariant.reached c.in-Some.ensures line (none_left _ (sym c.if-is_empty.ensures)))

pub returns-then-is_empty-clause-only : goal.returns-then-is_empty-clause-only
returns-then-is_empty-clause-only c = λ other h. one_book _ other _ h (returns-then-is_empty-clause-book c)

pub overflow_add-result : goal.overflow_add-result
overflow_add-result c =
    let small = number_small _ _ _ _ _ _ c.lines.invariant.reached c.in-Some.ensures in
    omega (arith, small)

pub returns-then-eq-clause-first : goal.returns-then-eq-clause-first
returns-then-eq-clause-first c =
    let end : c.as_slice.result.now ≡ codes "end" = search rules in
    let line : c.in-Some.line.now ≡ codes "end" = same_bytes _ _ (sym c.if-eq.ensures) ∙ end in
    refused_behind _ _ _ _ _ _ c.lines.invariant.reached c.in-Some.ensures line (some_left _ (sym c.if-is_empty.ensures))

pub returns-then-eq-clause-none : goal.returns-then-eq-clause-none
returns-then-eq-clause-none c = λ rs h. never_both _ rs _ h (returns-then-eq-clause-first c)

pub returns-in_err-add_line-clause-first : goal.returns-in_err-add_line-clause-first
returns-in_err-add_line-clause-first c =
    let end : c.as_slice.result.now ≡ codes "end" = search rules in
    let other : c.in-Some.line.now ≢ codes "end" = not_end _ (subst (λ e. bytes_eq c.in-Some.line.now e ≡ false) end (sym c.if-eq.ensures)) in
    let p = err_from_is_err_and c.from_residual-in_err-add_line.result c.from_residual-in_err-add_line.ensures.1 in
    rw (p.1, p.2) (refuses_line _ _ (made_of c.add_line.new.self) _ _ _ _ _ c.lines.invariant.reached c.in-Some.ensures other c.in_err-add_line.ensures.adds)

pub returns-in_err-add_line-clause-none : goal.returns-in_err-add_line-clause-none
returns-in_err-add_line-clause-none c =
    let end : c.as_slice.result.now ≡ codes "end" = search rules in
    let other : c.in-Some.line.now ≢ codes "end" = not_end _ (subst (λ e. bytes_eq c.in-Some.line.now e ≡ false) end (sym c.if-eq.ensures)) in
    let p = err_from_is_err_and c.from_residual-in_err-add_line.result c.from_residual-in_err-add_line.ensures.1 in
    rw (p.1, p.2) (refuses_all _ _ (refuses_line _ _ (made_of c.add_line.new.self) _ _ _ _ _ c.lines.invariant.reached c.in-Some.ensures other c.in_err-add_line.ensures.adds))

pub overflow_add-number : goal.overflow_add-number
overflow_add-number c =
    let small = number_small _ _ _ _ _ _ c.lines.invariant.reached c.in-Some.ensures in
    omega (arith, small)

pub lines-preserved : goal.lines-preserved
lines-preserved c = record {
  kept = c.in_ok-add_line.ensures.kept;
  reached = reached_next _ _ _ _ _ _ _ c.lines.invariant.reached c.in-Some.ensures c.in_ok-add_line.ensures.adds;
}

pub lines-smaller : goal.lines-smaller
lines-smaller c = shorter _ _ _ c.in-Some.ensures

pub lines-init : goal.lines-init
lines-init c = record {
  kept = c.new-made.ensures.kept;
  reached = subst (λ m. Reached c.args.text.now m 1 c.args.text.now) (sym c.new-made.ensures.made) (reached_first c.args.text.now);
}
