use Rattle.std.proofs.Common.{◌≡◌, ◌∙◌, ◌+◌, ◌-◌, arith, drop, length, subst, sym, take}
use Rattle.std.proofs.lemmas.Grind.{common_steps}
use Rattle.redo_book.specs.inside.Reading.{IsCut}
use Rattle.redo_book.proofs.TextLemmas.{cut_at, none_found}
use Rattle.redo_book.proofs.reading.split_line.Goals as goal

pub returns-in_err-end : goal.returns-in_err-end
returns-in_err-end c = rw c.from_residual.ensures (none_found c.args.text.now (sym c.newline_at.ensures ∙ c.in_err-end.was))

pub returns : goal.returns
returns c =
    let text = c.args.text.now in
    let n = c.in_ok-end.end in
    let rest : take (length text - (n + 1)) (drop (n + 1) text) ≡ drop (n + 1) text = grind (arith, common_steps) in
    subst (IsCut text (take n text)) (sym rest) (cut_at text n (sym c.newline_at.ensures ∙ c.in_ok-end.was))
