-- One more number of a walk.
use Rattle.std.proofs.Common.{◌≡◌, ◌∙◌, ◌<◌, ◌⊎◌, inl, inr, ℕ, Bool, true, false, List, [], ◌∷◌, ◌++◌, Option, Some, refl, sym, subst, arith, length, set, true≢false}
use Rattle.std.proofs.lemmas.Bool.{cases_Bool, cases_eq}
use Rattle.std.proofs.lemmas.List.{get_or-set_same, get_or-set_other, length-set}
use Rattle.redo_rings.specs.inside.Walks.{IsGraph, IsIn, IsWay, next_at, seen_at}
use Rattle.redo_rings.proofs.WalkLemmas.{goes-push, in-last, in-left, in-right, once-last}

pub marked-here : (seen : List Bool) (n : ℕ) → n < length seen → seen_at (set seen n true) n ≡ true
marked-here seen n under = get_or-set_same seen n true false under

pub marked-still : (seen : List Bool) (n m : ℕ) → n < length seen → seen_at seen m ≡ true → seen_at (set seen n true) m ≡ true
marked-still seen n m under is = elim (cases_eq m n) [
  | inl same ↦ subst (λ k. seen_at (set seen n true) k ≡ true) (sym same) (marked-here seen n under)
  | inr other ↦ get_or-set_other seen n m true false other ∙ is
]

pub marked-before : (seen : List Bool) (n m : ℕ) → n < length seen → seen_at (set seen n true) m ≡ true → (m ≡ n) ⊎ (seen_at seen m ≡ true)
marked-before seen n m under is = elim (cases_eq m n) [
  | inl same ↦ inl same
  | inr other ↦ inr (sym (get_or-set_other seen n m true false other) ∙ is)
]

module _ (next : List (Option ℕ)) (before seen : List Bool) (start : Option ℕ) (ns : List ℕ) (here : ℕ) where
  pub way-step : IsWay next before seen start ns (Some here) → IsGraph next → length before ≡ length next →
      seen_at seen here ≡ false → IsWay next before (set seen here true) start (ns ++ here ∷ []) (next_at next here)
  way-step way graph size new =
      let within : here < length next = way.inside here refl in
      let under : here < length seen = omega (arith, way.size, size, within) in
      let absent = λ (is : IsIn ns here). true≢false (sym (way.marked here is) ∙ new) in
      record {
        goes = goes-push next start ns here way.goes;
        once = once-last ns here way.once absent;
        fresh = λ n is. elim (in-last ns here n is) [
          | inl old ↦ way.fresh n old
          | inr same ↦ subst (λ k. seen_at before k ≡ false) same (elim (cases_Bool (seen_at before here)) [
            | inl was ↦ absurd (true≢false (sym (way.kept here was) ∙ new))
            | inr not ↦ not
          ])
        ];
        within = λ n is. elim (in-last ns here n is) [
          | inl old ↦ way.within n old
          | inr same ↦ subst (λ k. k < length next) same within
        ];
        size = length-set seen here true ∙ way.size;
        kept = λ n is. marked-still seen here n under (way.kept n is);
        marked = λ n is. elim (in-last ns here n is) [
          | inl old ↦ marked-still seen here n under (way.marked n old)
          | inr same ↦ subst (λ k. seen_at (set seen here true) k ≡ true) same (marked-here seen here under)
        ];
        inside = λ n is. graph here n is;
        no_more = λ n is. elim (marked-before seen here n under is) [
          | inl same ↦ inr (in-right ns (here ∷ []) n (inl (sym same)))
          | inr old ↦ elim (way.no_more n old) [
            | inl b ↦ inl b
            | inr i ↦ inr (in-left ns (here ∷ []) n i)
          ]
        ];
      }

  pub began-step : (first : ℕ) → here < length seen → (Some here ≡ Some first) ⊎ (seen_at seen first ≡ true) → seen_at (set seen here true) first ≡ true
  began-step first under (inl same) = let is : here ≡ first = cc in subst (λ k. seen_at (set seen here true) k ≡ true) is (marked-here seen here under)
  began-step first under (inr old) = marked-still seen here first under old
