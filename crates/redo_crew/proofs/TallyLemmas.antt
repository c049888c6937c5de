-- Each step of the bell keeps its rule.
use Rattle.std.proofs.Common.{◌≡◌, ℕ, ◌+◌, zero, suc, List, [], ◌∷◌, ◌++◌, length, set, sym, refl, ap, arith}
use mathlib.Core.Option.{some, some-injective, some-ne-none}
use lib.ListN.{get_elem?}
use Rattle.crossbeam_channel.specs.Fifo.{Pushes, Pops, Forks}
use Rattle.redo_crew.specs.declared.bell.Tally.{Tally}
use Rattle.redo_crew.specs.declared.bell.Ring.{Ring}
use Rattle.redo_crew.specs.Tally.{IsEven, tally, total}

total_set : (f : Tally → ℕ) (views : List Tally) (port : ℕ) (v w : Tally) → get_elem? views port ≡ some v →
    total f (set views port w) + f v ≡ total f views + f w
total_set f [] port v w at = absurd (some-ne-none v (sym at))
total_set f (x ∷ xs) zero v w at = let same : f x ≡ f v = ap f (some-injective x v at) in omega (arith, same)
total_set f (x ∷ xs) (suc port) v w at = let rest = total_set f xs port v w at in omega (arith, rest)

total_snoc : (f : Tally → ℕ) (views : List Tally) (w : Tally) → total f (views ++ w ∷ []) ≡ total f views + f w
total_snoc f [] w = omega arith
total_snoc f (x ∷ xs) w = let rest = total_snoc f xs w in omega (arith, rest)

length_snoc : (items : List Ring) (x : Ring) → length (items ++ x ∷ []) ≡ length items + 1
length_snoc [] x = refl
length_snoc (y ∷ ys) x = let rest = length_snoc ys x in omega (arith, rest)

pub begins : IsEven [] (tally 0 0 ∷ [])
begins = refl

pub sends : (n port : ℕ) (v : Tally) (x : Ring) → Pushes IsEven n port v x (λ w. w ≡ tally (v.sent + 1) v.heard)
sends n port v x items views room even at =
    let w : Tally = tally (v.sent + 1) v.heard in
    let s = total_set (λ u. u.sent) views port v w at in
    let h = total_set (λ u. u.heard) views port v w at in
    let l = length_snoc items x in
    (w, omega (arith, even, s, h, l), refl)

pub hears : (port : ℕ) (v : Tally) → Pops IsEven port v (λ x w. w ≡ tally v.sent (v.heard + 1))
hears port v x items views even at =
    let w : Tally = tally v.sent (v.heard + 1) in
    let s = total_set (λ u. u.sent) views port v w at in
    let h = total_set (λ u. u.heard) views port v w at in
    (w, omega (arith, even, s, h), refl)

pub forks : (port : ℕ) (v : Tally) → Forks IsEven port v v (tally 0 0)
forks port v items views even at =
    let w : Tally = tally 0 0 in
    let s = total_set (λ u. u.sent) views port v v at in
    let h = total_set (λ u. u.heard) views port v v at in
    let s2 = total_snoc (λ u. u.sent) (set views port v) w in
    let h2 = total_snoc (λ u. u.heard) (set views port v) w in
    omega (arith, even, s, h, s2, h2)
