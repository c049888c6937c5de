-- Numbers that are too large.
use Rattle.std.proofs.Common.{◌≡◌, ℕ, ◌+◌, ◌*◌, ◌-◌, ◌<◌, Bool, true, false, if◌then◌else◌, [], ◌∷◌, Option, None}
use Rattle.std.proofs.Common.{refl, arith, inl, inr}
use Rattle.std.specs.Prelude.{nat_le}
use Rattle.std.proofs.lemmas.Bool.{cases_Bool}
use Rattle.std.proofs.lemmas.Bool.Decides.{nat_tests}
use Rattle.redo_script.specs.Bytes.{is_digit}
use Rattle.redo_script.specs.Syntax.{byte, quoted, bare, named_quoted, named_bare, Word}
use Rattle.redo_script.specs.Forms.{at_most, digits_value}
use Rattle.redo_script.specs.inside.Parser.{status_on}

not_le : (n : ℕ) → 255 < n → nat_le n 255 ≡ false
not_le n h = grind (arith, nat_tests)

stays_large : (n : ℕ) (w : Word) → 255 < n → at_most 255 (digits_value n w) ≡ None
stays_large n [] h = rw (not_le n h) refl
stays_large n (byte b ∷ w) h = elim (cases_Bool (is_digit b)) [
  | inl e ↦ rw e (stays_large (10 * n + (b - 48)) w (omega arith))
  | inr e ↦ rw e refl
]
stays_large n (quoted p ∷ w) h = refl
stays_large n (bare p ∷ w) h = refl
stays_large n (named_quoted k ∷ w) h = refl
stays_large n (named_bare k ∷ w) h = refl

either_none : (b : Bool) (o : Option ℕ) → o ≡ None → (if b then o else None) ≡ None
either_none true o e = e
either_none false o e = refl

-- a digit that makes the number too large
pub too_large : (digits n b : ℕ) (w : Word) → is_digit b ≡ true → 255 < 10 * n + (b - 48) → status_on digits n (byte b ∷ w) ≡ None
too_large digits n b w e h = either_none _ (at_most 255 (digits_value n (byte b ∷ w))) (rw e (stays_large (10 * n + (b - 48)) w h))
