-- A record is found by its target.
use Rattle.std.proofs.Common.{◌≡◌, ℕ, zero, suc, ◌<◌, ◌≤◌, true, false, List, [], ◌∷◌, refl, sym, ap, subst}
use Rattle.std.proofs.Common.{◌∙◌, inl, inr, Some, None, length, map, arith, slice_index_or}
use Rattle.std.proofs.lemmas.Bool.{cases_lt}
use Rattle.std.proofs.lemmas.Map.Text.{is_eq-slice_cmp}
use Rattle.std.proofs.lemmas.Option.{slice_get-get_or, slice_get-map}
use Rattle.std.specs.Cmp.Lexicographic.{nat_list_cmp_total, slice_cmp}
use Rattle.std.specs.List.{AllByRecursion}
use Rattle.std.specs.List.Sorted.{IsBinarySearchResult, IsNonDecreasingBy, IsStrictlySortedBy}
use Rattle.std.specs.Ordering.{is_eq, nat_cmp, ordering_index, ordering_reverse}
use Rattle.std.specs.Prelude.{Err, option_map, slice_get}
use Rattle.std.specs.Str.{bytes_eq}
use Rattle.std.specs.declared.cmp.Ordering.{Ordering}
use Rattle.std.specs.declared.cmp.Ordering.TheVariants.{Less, Equal, Greater}
use Rattle.redo_book.specs.declared.book.BookRecord.{BookRecord}
use Rattle.redo_book.specs.Book.{record_at, record_of, targets_of}
use Rattle.redo_book.proofs.WordLemmas.{same_bytes}

abbrev order : List ℕ → List ℕ → Ordering
order = slice_cmp nat_cmp

-- what stands behind compares no less
order_rises : (v w t : List ℕ) → order v w ≡ Less → ordering_index (order v t) ≤ ordering_index (order w t)
order_rises v w t h =
    elim (order v t) as (λ o. order v t ≡ o → ordering_index o ≤ ordering_index (order w t)) [
      | Less ↦ λ e. omega arith
      | Equal ↦ λ e.
          let less : order t w ≡ Less = sym (nat_list_cmp_total.congr v t w e) ∙ h in
          let greater : order w t ≡ Greater = nat_list_cmp_total.antisymm w t ∙ ap ordering_reverse less in
          rw greater (omega arith)
      | Greater ↦ λ e.
          let before : order t v ≡ Less = nat_list_cmp_total.antisymm t v ∙ ap ordering_reverse e in
          let less : order t w ≡ Less = nat_list_cmp_total.trans t v w before h in
          let greater : order w t ≡ Greater = nat_list_cmp_total.antisymm w t ∙ ap ordering_reverse less in
          rw greater (omega arith)
    ] refl

at_all : (v : List ℕ) (rs : List BookRecord) (j : ℕ) (d : BookRecord) → AllByRecursion (λ w. order v w ≡ Less) (targets_of (map record_of rs)) → j < length rs → order v (slice_index_or rs j d).target ≡ Less
at_all v [] j d h l = absurd (omega arith)
at_all v (r ∷ rs) zero d h l = h.0
at_all v (r ∷ rs) (suc j) d h l = at_all v rs j d h.1 (omega arith)

-- a search among the records is one in order
rising : (t : List ℕ) (rs : List BookRecord) → IsStrictlySortedBy (slice_cmp nat_cmp) (targets_of (map record_of rs)) → IsNonDecreasingBy (λ r. ordering_index (order r.target t)) rs
unfolding IsStrictlySortedBy
rising t [] h i j d le l = absurd (omega arith)
rising t (r ∷ rs) h zero zero d le l = omega arith
rising t (r ∷ rs) h zero (suc j) d le l = order_rises r.target (slice_index_or rs j d).target t (at_all r.target rs j d h.0 (omega arith))
rising t (r ∷ rs) h (suc i) zero d le l = absurd (omega arith)
rising t (r ∷ rs) h (suc i) (suc j) d le l = rising t rs h.1 i j d (omega arith) (omega arith)

no_target : (rs : List BookRecord) (t : List ℕ) → ((k : ℕ) (d : BookRecord) → k < length rs → bytes_eq (slice_index_or rs k d).target t ≡ false) → record_at (map record_of rs) t ≡ None
no_target [] t h = refl
no_target (r ∷ rs) t h = rw (h zero r (omega arith)) (no_target rs t (λ k d l. h (suc k) d (omega arith)))

other_less : (v t : List ℕ) → order v t ≡ Less → bytes_eq v t ≡ false
other_less v t h = sym (is_eq-slice_cmp v t) ∙ ap is_eq h

other_greater : (v t : List ℕ) → order v t ≡ Greater → bytes_eq v t ≡ false
other_greater v t h = sym (is_eq-slice_cmp v t) ∙ ap is_eq h

-- where the search finds no place there is no record
pub not_found : (rs : List BookRecord) (t : List ℕ) (n : ℕ) → IsStrictlySortedBy (slice_cmp nat_cmp) (targets_of (map record_of rs)) → IsBinarySearchResult (λ r. slice_cmp nat_cmp r.target t) rs (Err n) → record_at (map record_of rs) t ≡ None
not_found rs t n h s =
    let both = s (rising t rs h) in
    no_target rs t (λ k d l. elim (cases_lt k n) [
      | inl lt ↦ other_less (slice_index_or rs k d).target t (both.0 k d (omega arith) lt)
      | inr ge ↦ other_greater (slice_index_or rs k d).target t (both.1 k d (omega arith) l)
    ])

-- and where it finds one, the record there is that of the target
was_found : (rs : List BookRecord) (t : List ℕ) (n : ℕ) (d : BookRecord) → IsStrictlySortedBy (slice_cmp nat_cmp) (targets_of (map record_of rs)) → order (slice_index_or rs n d).target t ≡ Equal → n < length rs → record_at (map record_of rs) t ≡ Some (record_of (slice_index_or rs n d))
unfolding IsStrictlySortedBy
was_found [] t n d h e l = absurd (omega arith)
was_found (r ∷ rs) t zero d h e l = let same : bytes_eq r.target t ≡ true = sym (is_eq-slice_cmp r.target t) ∙ ap is_eq e in rw same refl
was_found (r ∷ rs) t (suc n) d h e l =
    let it = slice_index_or rs n d in
    let same : it.target ≡ t = same_bytes it.target t (sym (is_eq-slice_cmp it.target t) ∙ ap is_eq e) in
    let less : order r.target t ≡ Less = subst (λ u. order r.target u ≡ Less) same (at_all r.target rs n d h.0 (omega arith)) in
    rw (other_less r.target t less) (was_found rs t n d h.1 e (omega arith))

-- the same by its number
pub at_place : (rs : List BookRecord) (t : List ℕ) (n : ℕ) → IsStrictlySortedBy (slice_cmp nat_cmp) (targets_of (map record_of rs)) → n < length rs → ((d : BookRecord) → order (slice_index_or rs n d).target t ≡ Equal) → slice_get (map record_of rs) n ≡ record_at (map record_of rs) t
at_place [] t n h l e = absurd (omega arith)
at_place (r ∷ rs) t n h l e =
    slice_get-map record_of (r ∷ rs) n ∙ ap (option_map record_of) (slice_get-get_or (r ∷ rs) n r l) ∙
    sym (was_found (r ∷ rs) t n r h (e r) l)
