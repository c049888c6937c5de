-- Places, noted for numbers.
use Rattle.std.proofs.Common.{◌≡◌, ◌∙◌, ◌<◌, ◌≤◌, ◌+◌, inl, inr, ℕ, List, [], ◌∷◌, ◌++◌, Option, None, sym, subst, length, set, take, get_or}
use Rattle.std.proofs.lemmas.Bool.{cases_eq}
use Rattle.std.proofs.lemmas.List.{get_or-set_same, get_or-set_other, take_more}
use Rattle.redo_rings.specs.inside.Walks.{IsIn, place_at}
use Rattle.redo_rings.proofs.WalkLemmas.{in-index, in-last, in-left, in-right}

module _ (places : List (Option ℕ)) (ns : List ℕ) (place : Option ℕ) where
  -- one number more
  pub noted-more : (i : ℕ) → i < length ns → get_or ns i 0 < length places →
      ((n : ℕ) → IsIn (take i ns) n → place_at places n ≡ place) → (n : ℕ) → IsIn (take (i + 1) ns) n →
      place_at (set places (get_or ns i 0) place) n ≡ place
  noted-more i under within before n is =
      let here = get_or ns i 0 in
      elim (cases_eq n here) [
        | inl same ↦ subst (λ k. place_at (set places here place) k ≡ place) (sym same) (get_or-set_same places here place None within)
        | inr other ↦
            get_or-set_other places here n place None other
            ∙ elim (in-last (take i ns) here n (subst (λ ms. IsIn ms n) (take_more ns i 0 under) is)) [
              | inl old ↦ before n old
              | inr same ↦ absurd (other (sym same))
            ]
      ]

  pub others-more : (old : List (Option ℕ)) (i : ℕ) → i < length ns →
      ((n : ℕ) → (IsIn (take i ns) n → ⊥) → place_at places n ≡ place_at old n) → (n : ℕ) →
      (IsIn (take (i + 1) ns) n → ⊥) → place_at (set places (get_or ns i 0) place) n ≡ place_at old n
  others-more old i under before n absent =
      let here = get_or ns i 0 in
      let more = λ (m : ℕ) (is : IsIn (take i ns ++ here ∷ []) m). subst (λ ms. IsIn ms m) (sym (take_more ns i 0 under)) is in
      get_or-set_other places here n place None (λ same. absent (more n (in-right (take i ns) (here ∷ []) n (inl (sym same)))))
      ∙ before n (λ is. absent (more n (in-left (take i ns) (here ∷ []) n is)))

-- the least by places is the least
pub least-in : (ns : List ℕ) (i : ℕ) → ((k : ℕ) → k < length ns → get_or ns i 0 ≤ get_or ns k 0) → (n : ℕ) → IsIn ns n → get_or ns i 0 ≤ n
least-in ns i least n is =
    let at = in-index ns n is in
    let le = least at.0 at.1 in
    subst (λ m. get_or ns i 0 ≤ m) at.2 le
