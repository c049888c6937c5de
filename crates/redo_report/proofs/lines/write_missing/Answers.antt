use Rattle.std.proofs.Common.{◌≡◌, ◌++◌, ◌∷◌, ◌∙◌, [], ap, rules, subst, sym}
use Rattle.std.proofs.lemmas.Result.{err_from_is_err_and}
use Rattle.redo_bundle.proofs.PieceLemmas.{Writes-then, Writes-cut}
use Rattle.redo_bundle.specs.Bundle.{Writes}
use Rattle.redo_which.specs.Lines.{lines_of}
use Rattle.redo_which.proofs.LineLemmas.{lines-split}
use Rattle.redo_report.proofs.lines.write_missing.Goals as goal

pub returns-in_err-write_line-clause-writes : goal.returns-in_err-write_line-clause-writes
returns-in_err-write_line-clause-writes g c =
    let front = c.front-front.result.now in
    let first = c.in-Some.first in
    let rest = c.in-Some.rest in
    let p = err_from_is_err_and c.from_residual.result c.from_residual.ensures.1 in
    rw (← c.front-front.ensures) (rw p.1 (Writes-cut c.in_err-write_line.field-0.0 p.0 _ _ (front ++ first.do_file ++ 10 ∷ []) (lines_of front rest) _
    (lines-split front first rest c.args.missing.now c.in-Some.ensures.some) c.in_err-write_line.ensures.writes))

pub returns-then-is_err-clause-writes : goal.returns-then-is_err-clause-writes
returns-then-is_err-clause-writes g c =
    let front = c.front-front.result.now in
    let first = c.in-Some.first in
    let rest = c.in-Some.rest in
    rw (← c.front-front.ensures) (subst (Writes _ _ c.write_each.result) (sym (lines-split front first rest c.args.missing.now c.in-Some.ensures.some))
    (Writes-then c.write_each.result _ _ _ (front ++ first.do_file ++ 10 ∷ []) (lines_of front rest) c.in_ok-write_line.ensures.writes c.write_each.ensures.writes))

pub returns-clause-writes : goal.returns-clause-writes
returns-clause-writes g c =
    let front = c.front-front.result.now in
    let first = c.in-Some.first in
    let rest = c.in-Some.rest in
    let held : c.keep.new.self.1 ≡ rest = search rules in
    let kept : c.text.result.now ≡ lines_of front rest =
    c.text.ensures ∙ ap (λ f. lines_of f c.keep.new.self.1) (c.keep.ensures.front ∙ sym c.front-front.ensures) ∙ ap (lines_of front) held in
    rw (← c.front-front.ensures) (subst (Writes _ _ c.write_all.result) (sym (lines-split front first rest c.args.missing.now c.in-Some.ensures.some))
    (Writes-then c.write_all.result _ _ _ (front ++ first.do_file ++ 10 ∷ []) (lines_of front rest) c.in_ok-write_line.ensures.writes (rw (← kept) c.write_all.ensures.writes)))
