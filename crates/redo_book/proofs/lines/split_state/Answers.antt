use Rattle.std.proofs.Common.{◌≡◌, ◌∙◌, drop, rules, sym, take}
use Rattle.redo_book.proofs.WordLemmas.{split_digest, split_short}
use Rattle.redo_book.proofs.lines.split_state.Goals as goal

pub returns-in_err-digits : goal.returns-in_err-digits
returns-in_err-digits c = rw c.from_residual.ensures (sym (split_short c.args.words.now c.in_default.ensures.cases c.in_err-digits.ensures.cases))

pub returns : goal.returns
returns c =
    let words = c.args.words.now in
    let digits : c.in_ok-digits.digits.now ≡ take 64 words = search rules in
    let rest : c.in_ok-digits.rest.now ≡ drop 64 words = search rules in
    let spelled = c.in_ok-word.ensures.cases in
    let is = sym c.from_hex.ensures.value ∙ c.in_ok-digest.was in
    sym (split_digest words _ _ _ c.in_ok-digest.digest c.in_default.ensures.cases digits rest spelled.0 spelled.1 is)
