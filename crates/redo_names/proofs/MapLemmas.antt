-- Maps from paths: two lists side by side, as one list of pairs.
use Rattle.std.proofs.Common.{◌≡◌, ◌<◌, ◌++◌, ◌∷◌, ℕ, Bool, zero, suc, true, false, cond, List, [], Option, Some, None, refl, sym, ap, subst, ◌∙◌, inl, inr, length, set, slice_get, arith}
use Rattle.std.specs.Cmp.Lexicographic.{bytes_decides, nat_list_eq_equiv}
use Rattle.std.specs.List.{zip}
use Rattle.std.specs.Map.{lookup}
use Rattle.std.specs.Prelude.{bytes_eq, is_some, option_map, IfSome, MatchOption}
use Rattle.std.proofs.lemmas.Option.{slice_get_within}
use Rattle.redo_names.specs.Paths.{AreDistinct, IsAmong}
use Rattle.redo_names.proofs.PathLemmas.{place-among}

-- ---- paths that are compared

apart : (p q : List ℕ) → (p ≡ q → ⊥) → bytes_eq p q ≡ false
apart p q none = elim (bytes_eq p q) as (λ b. bytes_eq p q ≡ b → bytes_eq p q ≡ false) [
  | true ↦ λ e. absurd (none ((bytes_decides p q).0 e))
  | false ↦ λ e. e
] refl

same : (p q : List ℕ) → p ≡ q → bytes_eq p q ≡ true
same p q e = (bytes_decides p q).1 e

subst-among : (ks : List (List ℕ)) (p k : List ℕ) → p ≡ k → IsAmong ks p → IsAmong ks k
subst-among ks p k e m = subst (IsAmong ks) e m

module _ {T : Type 0} where
  pub length-zip : (ks : List (List ℕ)) (vs : List T) → length ks ≡ length vs → length (zip ks vs) ≡ length vs
  length-zip [] [] h = refl
  length-zip [] (v ∷ vs) h = absurd (omega arith)
  length-zip (k ∷ ks) [] h = refl
  length-zip (k ∷ ks) (v ∷ vs) h = ap suc (length-zip ks vs (omega arith))

  pub zip-at : (ks : List (List ℕ)) (vs : List T) (n : ℕ) (p : List ℕ) (v : T) → slice_get ks n ≡ Some p → slice_get vs n ≡ Some v → slice_get (zip ks vs) n ≡ Some (p, v)
  zip-at [] vs n p v here value = cc
  zip-at (k ∷ ks) [] n p v here value = cc
  zip-at (k ∷ ks) (w ∷ vs) zero p v here value = let e : k ≡ p = cc in let f : w ≡ v = cc in λ i. Some (e i, f i)
  zip-at (k ∷ ks) (w ∷ vs) (suc n) p v here value = zip-at ks vs n p v here value

  pub found-at : (ks : List (List ℕ)) (vs : List T) (n : ℕ) (p : List ℕ) (v : T) → AreDistinct ks → slice_get ks n ≡ Some p → slice_get vs n ≡ Some v → lookup (bytes_eq p) (zip ks vs) ≡ Some v
  found-at [] vs n p v d here value = cc
  found-at (k ∷ ks) [] n p v d here value = cc
  found-at (k ∷ ks) (w ∷ vs) zero p v d here value = let e : p ≡ k = cc in ap (λ b. cond b (Some w) (lookup (bytes_eq p) (zip ks vs))) (same p k e) ∙ value
  found-at (k ∷ ks) (w ∷ vs) (suc n) p v d here value =
      let other = apart p k (λ e. d.0 (subst-among ks p k e (place-among ks n p here))) in
      ap (λ b. cond b (Some w) (lookup (bytes_eq p) (zip ks vs))) other ∙ found-at ks vs n p v d.1 here value

  pub none-found : (ks : List (List ℕ)) (vs : List T) (p : List ℕ) → (IsAmong ks p → ⊥) → lookup (bytes_eq p) (zip ks vs) ≡ None
  none-found [] vs p none = refl
  none-found (k ∷ ks) [] p none = refl
  none-found (k ∷ ks) (w ∷ vs) p none =
      ap (λ b. cond b (Some w) (lookup (bytes_eq p) (zip ks vs))) (apart p k (λ e. none (inl (sym e)))) ∙ none-found ks vs p (λ m. none (inr m))

  -- ---- a pair behind the others

  pub zip-last : (ks : List (List ℕ)) (vs : List T) (p : List ℕ) (v : T) → length ks ≡ length vs → zip (ks ++ p ∷ []) (vs ++ v ∷ []) ≡ zip ks vs ++ (p, v) ∷ []
  zip-last [] [] p v h = refl
  zip-last [] (w ∷ vs) p v h = absurd (omega arith)
  zip-last (k ∷ ks) [] p v h = absurd (omega arith)
  zip-last (k ∷ ks) (w ∷ vs) p v h = ap (λ es. (k, w) ∷ es) (zip-last ks vs p v (omega arith))

  tail-last : (b c : Bool) (v w : T) (r s : Option T) → (b ≡ true → c ≡ false) → s ≡ cond c (Some v) r → cond b (Some w) s ≡ cond c (Some v) (cond b (Some w) r)
  tail-last true c v w r s none h = ap (λ x. cond x (Some v) (Some w)) (sym (none refl))
  tail-last false c v w r s none h = h

  pub lookup-last : (ks : List (List ℕ)) (vs : List T) (p : List ℕ) (v : T) (q : List ℕ) → (IsAmong ks p → ⊥) → lookup (bytes_eq q) (zip ks vs ++ (p, v) ∷ []) ≡ cond (bytes_eq p q) (Some v) (lookup (bytes_eq q) (zip ks vs))
  lookup-last [] vs p v q none = ap (λ b. cond b (Some v) None) (nat_list_eq_equiv.symm q p)
  lookup-last (k ∷ ks) [] p v q none = ap (λ b. cond b (Some v) None) (nat_list_eq_equiv.symm q p)
  lookup-last (k ∷ ks) (w ∷ vs) p v q none =
      tail-last (bytes_eq q k) (bytes_eq p q) v w (lookup (bytes_eq q) (zip ks vs)) (lookup (bytes_eq q) (zip ks vs ++ (p, v) ∷ []))
      (λ e. apart p q (λ f. none (inl (sym (f ∙ (bytes_decides q k).0 e)))))
      (lookup-last ks vs p v q (λ m. none (inr m)))

  -- ---- a value in the place of another

  instead : (b c : Bool) (v u : T) (r : Option T) → b ≡ c → cond b (Some v) r ≡ cond c (Some v) (cond b (Some u) r)
  instead true c v u r e = ap (λ x. cond x (Some v) (Some u)) e
  instead false c v u r e = ap (λ x. cond x (Some v) r) e

  pub lookup-set : (ks : List (List ℕ)) (vs : List T) (n : ℕ) (p : List ℕ) (v : T) (q : List ℕ) → AreDistinct ks → slice_get ks n ≡ Some p → n < length vs → lookup (bytes_eq q) (zip ks (set vs n v)) ≡ cond (bytes_eq p q) (Some v) (lookup (bytes_eq q) (zip ks vs))
  lookup-set [] vs n p v q d here inside = cc
  lookup-set (k ∷ ks) [] n p v q d here inside = absurd (omega arith)
  lookup-set (k ∷ ks) (w ∷ vs) zero p v q d here inside =
      let e : k ≡ p = cc in
      instead (bytes_eq q k) (bytes_eq p q) v w (lookup (bytes_eq q) (zip ks vs)) (ap (bytes_eq q) e ∙ nat_list_eq_equiv.symm q p)
  lookup-set (k ∷ ks) (w ∷ vs) (suc n) p v q d here inside =
      tail-last (bytes_eq q k) (bytes_eq p q) v w (lookup (bytes_eq q) (zip ks vs)) (lookup (bytes_eq q) (zip ks (set vs n v)))
      (λ e. apart p q (λ f. d.0 (subst-among ks p k (f ∙ (bytes_decides q k).0 e) (place-among ks n p here))))
      (lookup-set ks vs n p v q d.1 here (omega arith))

  -- ---- what a look-up finds

  value-at : (vs : List T) (n : ℕ) → n < length vs → (v : T) × (slice_get vs n ≡ Some v)
  value-at [] n h = absurd (omega arith)
  value-at (w ∷ vs) zero h = (w, refl)
  value-at (w ∷ vs) (suc n) h = value-at vs n (omega arith)

  pub told-found : (ks : List (List ℕ)) (vs : List T) (p : List ℕ) (o : Option ℕ) → length ks ≡ length vs → AreDistinct ks → MatchOption o (IsAmong ks p → ⊥) (λ n. slice_get ks n ≡ Some p) → is_some o ≡ is_some (lookup (bytes_eq p) (zip ks vs))
  told-found ks vs p None h d told = ap is_some (sym (none-found ks vs p told))
  told-found ks vs p (Some n) h d told =
      let inside = slice_get_within ks n p told in
      let value = value-at vs n (omega arith) in
      ap is_some (sym (found-at ks vs n p value.0 d told value.1))

  pub told-within : (ks : List (List ℕ)) (vs : List T) (p : List ℕ) (o : Option ℕ) → length ks ≡ length vs → MatchOption o (IsAmong ks p → ⊥) (λ n. slice_get ks n ≡ Some p) → IfSome o (λ n. n < length (zip ks vs))
  told-within ks vs p None h told = tt
  told-within ks vs p (Some n) h told =
      let inside = slice_get_within ks n p told in
      let size = length-zip ks vs h in
      omega arith

  pub told-value : (ks : List (List ℕ)) (vs : List T) (p : List ℕ) (o : Option ℕ) → length ks ≡ length vs → AreDistinct ks → MatchOption o (IsAmong ks p → ⊥) (λ n. slice_get ks n ≡ Some p) → IfSome o (λ n. option_map (λ e. e.1) (slice_get (zip ks vs) n) ≡ lookup (bytes_eq p) (zip ks vs))
  told-value ks vs p None h d told = tt
  told-value ks vs p (Some n) h d told =
      let inside = slice_get_within ks n p told in
      let value = value-at vs n (omega arith) in
      ap (option_map (λ e. e.1)) (zip-at ks vs n p value.0 told value.1) ∙ sym (found-at ks vs n p value.0 d told value.1)
