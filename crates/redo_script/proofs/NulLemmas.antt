-- Looking for a byte 0.
use Rattle.std.proofs.Common.{◌≡◌, ℕ, ◌<◌, ◌+◌, Bool, true, false, not, ◌&&◌, ◌||◌, ◌==◌, if◌then◌else◌, List, [], ◌∷◌}
use Rattle.std.proofs.Common.{length, drop, get_or, Ok, refl, inl, inr, add-one}
use Rattle.std.proofs.Math.Seq.{drop-cons}
use Rattle.std.proofs.lemmas.Bool.{cases_Bool, both_ways}
use Rattle.redo_script.specs.Tokens.{line_after}
use Rattle.redo_script.specs.Texts.{has_no_nul, nul_from}

pub no_nul : (line : ℕ) (text : List ℕ) → has_no_nul text ≡ true → nul_from line text ≡ Ok []
no_nul line [] h = refl
no_nul line (b ∷ bs) h = elim (cases_Bool (b == 0)) [
  | inl e ↦ absurd (both_ways (has_no_nul (b ∷ bs)) (rw e refl) h)
  | inr e ↦ rw e (no_nul (line_after line b) bs (rw e at h))
]

-- one byte more
pub nul_here : (text : List ℕ) (i : ℕ) (found : Bool) → i < length text → (not (found || (get_or text i 0 == 0)) && has_no_nul (drop (i + 1) text)) ≡ (not found && has_no_nul (drop i text))
nul_here text i found lt = rw (add-one, drop-cons text i 0 lt) (by_cases found (get_or text i 0 == 0) _)
  where
    by_cases : (found here : Bool) (rest : Bool) → (not (found || here) && rest) ≡ (not found && (if here then false else rest))
    by_cases true here rest = refl
    by_cases false true rest = refl
    by_cases false false rest = refl
