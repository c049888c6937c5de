-- What each thread has sent and heard of the bell.
use Rattle.std.specs.Prelude.{◌≡◌, ℕ, ◌+◌, List, [], ◌∷◌, length}
use Rattle.redo_crew.specs.declared.bell.Tally.{Tally}
use Rattle.redo_crew.specs.declared.bell.Ring.{Ring}

abbrev pub tally : ℕ → ℕ → Tally
tally sent heard = record { sent = sent; heard = heard }

abbrev pub total : (Tally → ℕ) → List Tally → ℕ
total f [] = 0
total f (v ∷ vs) = f v + total f vs

-- each ring that was sent lies in the channel or was heard
abbrev pub IsEven : List Ring → List Tally → Type 0
IsEven items views = total (λ v. v.sent) views ≡ length items + total (λ v. v.heard) views
