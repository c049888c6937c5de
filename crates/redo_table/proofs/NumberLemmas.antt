-- How often a number stands in a list.
use Rattle.std.proofs.Common.{◌≡◌, inl, inr, ℕ, zero, suc, ◌+◌, ◌<◌, ◌≤◌, cond, List, [], ◌∷◌, ◌++◌}
use Rattle.std.proofs.Common.{Option, Some, None, length, slice_get, slice_index_or, refl, sym, ap, subst, ◌∙◌, arith, nat_eq, remove, ◌-◌, option_to_list, length-append}
use Rattle.std.specs.BTreeSet.{insert_key}
use Rattle.std.specs.Ordering.{nat_cmp, match_ordering}
use Rattle.std.specs.declared.cmp.Ordering.{Ordering}
use Rattle.std.specs.declared.cmp.Ordering.TheVariants.{Less, Equal, Greater}
use Rattle.std.specs.Prelude.{IsPermutation}
use Rattle.std.proofs.lemmas.Bool.{eq-eqb, eqb-true, cases_Bool, both_ways}
use Rattle.std.proofs.lemmas.List.Sums.{sum_by-cons, sum_by-append, sum_by-remove}
use Rattle.std.proofs.lemmas.List.Sorted.{sum_by-IsPermutation}
use Rattle.std.proofs.lemmas.Map.Lookups.{exact_unsigned}
use Rattle.std.proofs.lemmas.Option.{slice_get_within}
use Rattle.redo_table.specs.Schedule.{times}

-- one at a number, zero elsewhere
pub at : ℕ → ℕ → ℕ
at k x = cond (nat_eq k x) 1 0

pub at-same : (k x : ℕ) → k ≡ x → at k x ≡ 1
unfolding at
at-same k x e = ap {B = ℕ} (λ b. cond b 1 0) (eq-eqb k x e)

pub at-other : (k x : ℕ) → (k ≡ x → ⊥) → at k x ≡ 0
unfolding at
at-other k x n = elim (cases_Bool (nat_eq k x)) [
  | inl t ↦ absurd (n (eqb-true k x t))
  | inr f ↦ ap {B = ℕ} (λ b. cond b 1 0) f
]

pub times-nil : (k : ℕ) → times k [] ≡ 0
times-nil k = refl

pub times-cons : (k x : ℕ) (xs : List ℕ) → times k (x ∷ xs) ≡ at k x + times k xs
unfolding at
times-cons k x xs = sum_by-cons (λ y. cond (nat_eq k y) 1 0) x xs

pub times-append : (k : ℕ) (xs ys : List ℕ) → times k (xs ++ ys) ≡ times k xs + times k ys
times-append k xs ys = sum_by-append (λ y. cond (nat_eq k y) 1 0) xs ys

pub times-push : (k x : ℕ) (xs : List ℕ) → times k (xs ++ x ∷ []) ≡ times k xs + at k x
times-push k x xs = omega (arith, times-append k xs (x ∷ []), times-cons k x [], times-nil k)

times-remove : (k : ℕ) (xs : List ℕ) (i d : ℕ) → i < length xs → times k (remove xs i) + at k (slice_index_or xs i d) ≡ times k xs
unfolding at
times-remove k xs i d lt = sum_by-remove (λ y. cond (nat_eq k y) 1 0) xs i d lt

pub index-is : (xs : List ℕ) (i k d : ℕ) → slice_get xs i ≡ Some k → slice_index_or xs i d ≡ k
index-is (x ∷ xs) (suc i) k d h = index-is xs i k d h
index-is _ _ k d h = cc

-- the number at an index is taken out
pub times-taken : (j : ℕ) (xs : List ℕ) (i k : ℕ) → slice_get xs i ≡ Some k → times j (remove xs i) + at j k ≡ times j xs
times-taken j xs i k h =
    let is = index-is xs i k 0 h in
    subst (λ x. times j (remove xs i) + at j x ≡ times j xs) is (times-remove j xs i 0 (slice_get_within xs i k h))

pub times-shuffled : (k : ℕ) (xs ys : List ℕ) → IsPermutation xs ys → times k ys ≡ times k xs
times-shuffled k xs ys p = sum_by-IsPermutation (λ y. cond (nat_eq k y) 1 0) xs ys p

pub times-there : (xs : List ℕ) (i k : ℕ) → slice_get xs i ≡ Some k → 0 < times k xs
times-there [] i k h = cc
times-there (x ∷ xs) zero k h = let same : x ≡ k = cc in omega (arith, times-cons k x xs, at-same k x (sym same))
times-there (x ∷ xs) (suc i) k h = omega (arith, times-cons k x xs, times-there xs i k h)

-- a number that stands in a list has an index there
pub times-index : (xs : List ℕ) (k : ℕ) → 0 < times k xs → (i : ℕ) × (slice_get xs i ≡ Some k)
times-index [] k h = absurd (omega (arith, h, times-nil k))
times-index (x ∷ xs) k h = elim (cases_Bool (nat_eq k x)) [
  | inl t ↦ (0, let same : k ≡ x = eqb-true k x t in ap Some (sym same))
  | inr f ↦
      let apart : k ≡ x → ⊥ = λ e. both_ways _ f (eq-eqb k x e) in
      let later = times-index xs k (omega (arith, h, times-cons k x xs, at-other k x apart)) in
      (suc later.0, later.1)
]

-- a set of numbers with one more
pub times-insert : (k : ℕ) (ks : List ℕ) (p : ℕ) → times p ks ≡ 0 → times k (insert_key nat_cmp ks p) ≡ times k ks + at k p
times-insert k [] p none = omega (arith, times-cons k p [], times-nil k)
times-insert k (x ∷ ks) p none =
    let later : times p ks ≡ 0 = omega (arith, none, times-cons p x ks) in
    let here : at p x ≡ 0 = omega (arith, none, times-cons p x ks) in
    (elim (nat_cmp p x) as (λ (v : Ordering). nat_cmp p x ≡ v →
    times k (match_ordering v (p ∷ x ∷ ks) (x ∷ ks) (x ∷ insert_key nat_cmp ks p)) ≡ times k (x ∷ ks) + at k p) [
      | Less ↦ λ e. omega (arith, times-cons k p (x ∷ ks))
      | Equal ↦ λ e. absurd (omega (arith, here, at-same p x (exact_unsigned p x e)))
      | Greater ↦ λ e. omega (arith, times-cons k x (insert_key nat_cmp ks p), times-cons k x ks, times-insert k ks p later)
    ]) refl

last-is : (ys : List ℕ) (x d n : ℕ) → n ≡ length ys → slice_index_or (ys ++ x ∷ []) n d ≡ x
last-is [] x d zero h = refl
last-is (y ∷ ys) x d (suc n) h = last-is ys x d n (omega (arith, h))
last-is _ x d _ h = absurd (omega (arith, h))

-- the numbers that are left when the last one is taken off
pub popped : (xs ys : List ℕ) (r : Option ℕ) (n last : ℕ) → xs ≡ ys ++ option_to_list r → n ≡ length xs - 1 → last ≡ slice_index_or xs n last →
    (k : ℕ) → (last ≡ k → ⊥) → 0 < times k xs → 0 < times k ys
popped xs ys None n last is len at' k apart h = omega (arith, h, ap (times k) is, times-append k ys [], times-nil k)
popped xs ys (Some x) n last is len at' k apart h =
    let long = length-append ys (x ∷ []) in
    let read : slice_index_or xs n last ≡ x =
    ap (λ zs. slice_index_or zs n last) is ∙ last-is ys x last n (omega (arith, len, ap length is, long)) in
    omega (arith, h, ap (times k) is, times-push k x ys, at-other k x (λ e. apart (at' ∙ read ∙ sym e)))

-- a number at two places stands in the list twice
pub times-twice : (xs : List ℕ) (i j k : ℕ) → i < j → slice_get xs i ≡ Some k → slice_get xs j ≡ Some k → 2 ≤ times k xs
times-twice [] i j k lt a b = cc
times-twice (x ∷ xs) i zero k lt a b = absurd (omega (arith, lt))
times-twice (x ∷ xs) zero (suc j) k lt a b =
    let same : x ≡ k = cc in omega (arith, times-cons k x xs, at-same k x (sym same), times-there xs j k b)
times-twice (x ∷ xs) (suc i) (suc j) k lt a b = omega (arith, times-cons k x xs, times-twice xs i j k (omega (arith, lt)) a b)
