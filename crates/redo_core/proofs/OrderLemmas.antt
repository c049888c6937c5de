-- Paths in path order.
use Rattle.std.proofs.Common.{◌≡◌, ℕ, inl, inr, List, [], ◌∷◌, refl, subst}
use Rattle.std.proofs.lemmas.Cmp.{nat_list_cmp_total}
use Rattle.std.specs.Cmp.Lexicographic.{slice_cmp}
use Rattle.std.specs.Ordering.{nat_cmp}
use Rattle.std.specs.declared.cmp.Ordering.TheVariants.{Less}
use Rattle.redo_record.specs.Paths.{IsAmong}
use Rattle.redo_report.specs.Reports.{AreAscending}

-- the path stands before all of these
abbrev pub IsBefore : List ℕ → List (List ℕ) → Type 0
IsBefore p qs = (q : List ℕ) → IsAmong qs q → slice_cmp nat_cmp p q ≡ Less

-- each path stands before all that follow
abbrev pub AreSorted : List (List ℕ) → Type 0
AreSorted [] = Unit {0}
AreSorted (p ∷ ps) = IsBefore p ps × AreSorted ps

pub sorted-ascending : (ps : List (List ℕ)) → AreSorted ps → AreAscending ps
sorted-ascending (p ∷ q ∷ ps) s = (s.0 q (inl refl), sorted-ascending (q ∷ ps) s.1)
sorted-ascending _ s = tt

before-each : (p q : List ℕ) (qs : List (List ℕ)) → slice_cmp nat_cmp p q ≡ Less → IsBefore q qs → IsBefore p (q ∷ qs)
before-each p q qs e before x m = elim m [
  | inl here ↦ let P : List ℕ → Type 0 = λ y. slice_cmp nat_cmp p y ≡ Less in subst P here e
  | inr later ↦ nat_list_cmp_total.trans p q x e (before x later)
]

pub ascending-sorted : (ps : List (List ℕ)) → AreAscending ps → AreSorted ps
ascending-sorted [] s = tt
ascending-sorted (p ∷ []) s = (λ q m. absurd m, tt)
ascending-sorted (p ∷ q ∷ ps) s =
    let rest = ascending-sorted (q ∷ ps) s.1 in (before-each p q ps s.0 rest.0, rest)
