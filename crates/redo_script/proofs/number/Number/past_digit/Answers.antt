use Rattle.std.proofs.Common.{◌≡◌, ◌+◌, ◌*◌, ◌-◌, ◌<◌, true, sym, ◌∙◌, arith}
use Rattle.redo_script.specs.Bytes.{is_digit}
use Rattle.redo_script.proofs.NumberLemmas.{too_large}
use Rattle.redo_script.proofs.number.Number.past_digit.Goals as goal

pub returns-in_err-checked_mul : goal.returns-in_err-checked_mul
returns-in_err-checked_mul c =
    let digit : is_digit c.args.byte ≡ true = sym c.is_ascii_digit.ensures.value ∙ c.if-not-is_ascii_digit.false in
    let large : 255 < 10 * c.args.self.value + (c.args.byte - 48) = omega (arith, c.in_err-checked_mul.ensures) in
    rw c.from_residual.ensures (λ w. too_large c.args.self.digits c.args.self.value c.args.byte w digit large)

pub returns-in_err-value : goal.returns-in_err-value
returns-in_err-value c =
    let digit : is_digit c.args.byte ≡ true = sym c.is_ascii_digit.ensures.value ∙ c.if-not-is_ascii_digit.false in
    let large : 255 < 10 * c.args.self.value + (c.args.byte - 48) = omega (arith, c.in_err-value.ensures, c.in_ok-checked_mul.ensures) in
    rw c.from_residual-in_err-value.ensures (λ w. too_large c.args.self.digits c.args.self.value c.args.byte w digit large)
