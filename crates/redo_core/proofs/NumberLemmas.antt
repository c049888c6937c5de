-- Numbers of paths.
use Rattle.std.proofs.Common.{slice_get, ◌≡◌, ℕ, zero, suc, List, [], ◌∷◌, ◌++◌, Some, refl, subst, Option, sym, ◌∙◌}
use Rattle.redo_build.specs.Rules.{Rules}
use Rattle.redo_table.specs.Schedule.{StageView}
use Rattle.redo_core.specs.inside.Slots.{Agrees, AreNumbers, Stage, Checking, Waiting}
use Rattle.redo_core.specs.inside.Works.{waited_by}

-- what was read twice is one
pub same-some : {X : Type 0} (o : Option X) (x y : X) → o ≡ Some x → o ≡ Some y → x ≡ y
same-some o x y here there = let both : Some x ≡ Some y = sym here ∙ there in cc

module _ (ps : List (List ℕ)) where
  -- the path of a number
  pub numbers-number : (ns : List ℕ) (qs : List (List ℕ)) (k n : ℕ) → AreNumbers ps ns qs → slice_get ns k ≡ Some n → (q : List ℕ) × (slice_get qs k ≡ Some q) × (slice_get ps n ≡ Some q)
  numbers-number [] [] k n h g = cc
  numbers-number (m ∷ ns) (q ∷ qs) zero n h g =
      let same : m ≡ n = cc in
      let P : ℕ → Type 0 = λ x. slice_get ps x ≡ Some q in
      (q, refl, subst P same h.0)
  numbers-number (m ∷ ns) (q ∷ qs) (suc k) n h g = numbers-number ns qs k n h.1 g
  numbers-number _ _ k n h g = absurd h

  -- the number of a path
  pub numbers-path : (ns : List ℕ) (qs : List (List ℕ)) (k : ℕ) (q : List ℕ) → AreNumbers ps ns qs → slice_get qs k ≡ Some q → (n : ℕ) × (slice_get ns k ≡ Some n) × (slice_get ps n ≡ Some q)
  numbers-path [] [] k q h g = cc
  numbers-path (m ∷ ns) (x ∷ qs) zero q h g =
      let same : x ≡ q = cc in
      let P : List ℕ → Type 0 = λ y. slice_get ps m ≡ Some y in
      (m, refl, subst P same h.0)
  numbers-path (m ∷ ns) (x ∷ qs) (suc k) q h g = numbers-path ns qs k q h.1 g
  numbers-path _ _ k q h g = absurd h

  pub numbers-push : (ns : List ℕ) (qs : List (List ℕ)) (n : ℕ) (q : List ℕ) → AreNumbers ps ns qs → slice_get ps n ≡ Some q → AreNumbers ps (ns ++ n ∷ []) (qs ++ q ∷ [])
  numbers-push [] [] n q h g = (g, tt)
  numbers-push (m ∷ ns) (x ∷ qs) n q h g = (h.0, numbers-push ns qs n q h.1 g)
  numbers-push _ _ n q h g = absurd h

  module _ (us : List (List ℕ)) (kept : (k : ℕ) (p : List ℕ) → slice_get ps k ≡ Some p → slice_get us k ≡ Some p) where
    pub numbers-kept : (ns : List ℕ) (qs : List (List ℕ)) → AreNumbers ps ns qs → AreNumbers us ns qs
    numbers-kept [] [] h = tt
    numbers-kept (n ∷ ns) (q ∷ qs) h = (kept n q h.0, numbers-kept ns qs h.1)
    numbers-kept _ _ h = absurd h

    -- with more paths a stage agrees as it did
    pub agrees-kept : (r : Rules) (stage : Stage) (s : StageView) → Agrees r ps stage s → Agrees r us stage s
    agrees-kept r (Checking awaiting) s h = (h.0, h.1, kept h.0 awaiting.path h.2)
    agrees-kept r (Waiting begun) s h = (h.0, h.1, numbers-kept h.0 (waited_by r begun.value) h.2)
    agrees-kept r _ s h = h
