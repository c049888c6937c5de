-- Worked examples of the definitions.
use Rattle.std.proofs.Common.{◌≡◌, true, [], ◌∷◌, refl, arith, nat_eq}
use Rattle.std.specs.Prelude.{codes}
use Rattle.redo_sync.specs.Relay.{Pair, RelayId, SharesOut, taken_by}

-- the target `a` at the turns 0 and 1, and the target `b` at the turn 0
abbrev a_0 : Pair
a_0 = (codes "a", 0)

abbrev a_1 : Pair
a_1 = (codes "a", 1)

abbrev b_0 : Pair
b_0 = (codes "b", 0)

one_taker_after_another : (r : RelayId) → taken_by (record { relay = r; taken = b_0 ∷ [] } ∷ record { relay = r; taken = a_0 ∷ a_1 ∷ [] } ∷ []) ≡ b_0 ∷ a_0 ∷ a_1 ∷ []
one_taker_after_another r = refl

each_is_taken_or_left : SharesOut (a_0 ∷ b_0 ∷ []) (b_0 ∷ []) (a_0 ∷ [])
each_is_taken_or_left p = omega arith

none_is_lost : SharesOut (a_0 ∷ b_0 ∷ []) (b_0 ∷ []) [] → ⊥
none_is_lost out = let all = out (λ _. true) in absurd (omega (arith, all))

none_is_taken_twice : SharesOut (a_0 ∷ []) (a_0 ∷ a_0 ∷ []) [] → ⊥
none_is_taken_twice out = let all = out (λ _. true) in absurd (omega (arith, all))

none_is_exchanged : SharesOut (a_0 ∷ []) (a_1 ∷ []) [] → ⊥
none_is_exchanged out = let last = out (λ x. nat_eq x.1 1) in absurd (omega (arith, last))
