-- Whether bytes are UTF-8.
use Rattle.std.proofs.Common.{◌≡◌, ℕ, List, sym, inl, inr}
use Rattle.std.proofs.lemmas.Bool.{cases_Bool}
use Rattle.std.proofs.lemmas.Str.{IsUtf8-from_is_utf8, is_utf8-from_IsUtf8}
use Rattle.std.specs.Prelude.{Result, Ok, Err, MatchResult, is_ok}
use Rattle.std.specs.Str.{IsUtf8, is_utf8}

-- what a check for UTF-8 says
pub tells : {A E : Type 0} (P : A → Type 0) (Q : E → Type 0) (r : Result A E) (bytes : List ℕ) →
    MatchResult r (λ s. P s × IsUtf8 bytes) (λ e. ¬ (IsUtf8 bytes) × Q e) → is_ok r ≡ is_utf8 bytes
tells P Q (Ok s) bytes h = sym (is_utf8-from_IsUtf8 bytes h.1)
tells P Q (Err e) bytes h = elim (cases_Bool (is_utf8 bytes)) [
  | inl t ↦ absurd (h.0 (IsUtf8-from_is_utf8 bytes t))
  | inr f ↦ sym f
]
