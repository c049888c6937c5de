-- Paths of a set, in path order.
use Rattle.std.proofs.Common.{◌≡◌, ◌∙◌, false, inl, inr, ℕ, List, [], ◌∷◌, refl, sym, ap, subst}
use Rattle.std.proofs.lemmas.Bool.{false_from_ne_true}
use Rattle.std.proofs.lemmas.Bool.Decides.{Decides-like, same_from_decides}
use Rattle.std.proofs.lemmas.List.Kept.{IsStrictlySortedBy-dedup}
use Rattle.std.proofs.lemmas.List.Sorted.{Contains-permutation, IsPermutation-sym}
use Rattle.std.proofs.lemmas.Map.Keys.{IsDistinct-IsPermutation}
use Rattle.std.proofs.lemmas.Slice.Eq.{bytes_eq-Decides}
use Rattle.std.specs.Cmp.Lexicographic.{nat_list_cmp_total, slice_cmp, texts_ties}
use Rattle.std.specs.List.{AllByRecursion, IsDistinct, dedup, dedup_from}
use Rattle.std.specs.List.Sorted.{IsPermutation, IsSorted, IsStrictlySortedBy}
use Rattle.std.specs.Ordering.{nat_cmp}
use Rattle.std.specs.Prelude.{◌↔◌}
use Rattle.std.specs.Str.{bytes_eq}
use Rattle.redo_names.specs.Paths.{AreDistinct, IsAmong}
use Rattle.redo_past.proofs.ItemLemmas.{contained-item, item-contained}

moved : (ps qs : List (List ℕ)) (p : List ℕ) → IsPermutation ps qs → IsAmong ps p → IsAmong qs p
moved ps qs p same m =
    contained-item qs p (Contains-permutation ps qs p same (item-contained ps p m))

-- a list in another order has the same paths
pub same-among : (ps qs : List (List ℕ)) (p : List ℕ) → IsPermutation ps qs → IsAmong qs p ↔ IsAmong ps p
same-among ps qs p same = (moved qs ps p (IsPermutation-sym ps qs same), moved ps qs p same)

-- none twice

differs : (ps : List (List ℕ)) (p : List ℕ) → (IsAmong ps p → ⊥) → AllByRecursion (λ q. bytes_eq p q ≡ false) ps
differs [] p none = tt
differs (q ∷ ps) p none = (
  false_from_ne_true (bytes_eq p q) (λ t. none (inl (sym ((bytes_eq-Decides p q).0 t)))),
  differs ps p (λ m. none (inr m)),
)

distinct : (ps : List (List ℕ)) → AreDistinct ps → IsDistinct bytes_eq ps
unfolding IsDistinct
distinct [] once = tt
distinct (p ∷ ps) once = (differs ps p once.0, distinct ps once.1)

flips : (p q : List ℕ) → bytes_eq p q ≡ bytes_eq q p
flips p q =
    same_from_decides (bytes_eq p q) (bytes_eq q p) (bytes_eq-Decides p q)
    (Decides-like (bytes_eq q p) (λ e. sym e) (λ e. sym e) (bytes_eq-Decides q p))

undoubled-from : (p : List ℕ) (ps : List (List ℕ)) → AllByRecursion (λ q. bytes_eq p q ≡ false) ps → IsDistinct bytes_eq ps →
    dedup_from bytes_eq p ps ≡ p ∷ ps
unfolding IsDistinct
undoubled-from p [] other once = refl
undoubled-from p (q ∷ ps) other once =
    let apart : bytes_eq q p ≡ false = flips q p ∙ other.0 in
    rw apart (ap (λ qs. p ∷ qs) (undoubled-from q ps once.0 once.1))

undoubled : (ps : List (List ℕ)) → IsDistinct bytes_eq ps → dedup bytes_eq ps ≡ ps
unfolding IsDistinct
undoubled [] once = refl
undoubled (p ∷ ps) once = undoubled-from p ps once.0 once.1

-- paths of which none is there twice are in strict order once they are sorted
pub strictly : (ps qs : List (List ℕ)) → AreDistinct ps → IsPermutation ps qs → IsSorted (slice_cmp nat_cmp) qs →
    IsStrictlySortedBy (slice_cmp nat_cmp) qs
strictly ps qs once same sorted =
    subst (IsStrictlySortedBy (slice_cmp nat_cmp))
    (undoubled qs (IsDistinct-IsPermutation bytes_eq flips ps qs same (distinct ps once)))
    (IsStrictlySortedBy-dedup nat_list_cmp_total texts_ties qs sorted)
