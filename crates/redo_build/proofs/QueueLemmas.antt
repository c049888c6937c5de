-- Lemmas on the lists of paths that are ready and out.
use Rattle.std.proofs.Common.{◌≡◌, ℕ, zero, suc, ◌<◌, Bool, true, ◌⊎◌, inl, inr, List, [], ◌∷◌, ◌++◌, length, filter}
use Rattle.std.proofs.Common.{Some, remove, slice_get, refl, sym, ap, ◌∙◌, arith, bytes_eq}
use Rattle.std.proofs.lemmas.Bool.{cases_Bool}
use Rattle.std.proofs.lemmas.Slice.Eq.{bytes_eq-Decides}
use Rattle.redo_names.proofs.ListLemmas.{IsAmong-append, IsAmong-same}
use Rattle.redo_names.proofs.PathLemmas.{place-among}
use Rattle.redo_record.specs.Paths.{IsAmong, AreDistinct}
use Rattle.redo_build.specs.Schedule.{Entry, paths_of, entry_of}
use Rattle.redo_build.proofs.SeenLemmas.{entry_of-among}

pub slice_get-below : (ps : List (List ℕ)) (i : ℕ) → i < length ps → (p : List ℕ) × (slice_get ps i ≡ Some p)
slice_get-below [] i h = absurd (omega arith)
slice_get-below (x ∷ ps) zero h = (x, refl)
slice_get-below (x ∷ ps) (suc i) h = slice_get-below ps i (omega arith)

pub remove-cases : (ps : List (List ℕ)) (i : ℕ) (p q : List ℕ) → slice_get ps i ≡ Some p → IsAmong ps q →
    (p ≡ q) ⊎ IsAmong (remove ps i) q
remove-cases [] i p q h m = absurd m
remove-cases (x ∷ ps) zero p q h m = elim m [ inl here ↦ inl (cc) | inr later ↦ inr later ]
remove-cases (x ∷ ps) (suc i) p q h m = elim m [
  | inl here ↦ inr (inl here)
  | inr later ↦ elim (remove-cases ps i p q h later) [ inl same ↦ inl same | inr rest ↦ inr (inr rest) ]
]

pub remove-from : (ps : List (List ℕ)) (i : ℕ) (q : List ℕ) → IsAmong (remove ps i) q → IsAmong ps q
remove-from [] zero q m = m
remove-from [] (suc i) q m = m
remove-from (x ∷ ps) zero q m = inr m
remove-from (x ∷ ps) (suc i) q m = elim m [ inl here ↦ inl here | inr later ↦ inr (remove-from ps i q later) ]

pub remove-distinct : (ps : List (List ℕ)) (i : ℕ) → AreDistinct ps → AreDistinct (remove ps i)
remove-distinct [] zero d = tt
remove-distinct [] (suc i) d = tt
remove-distinct (x ∷ ps) zero d = d.1
remove-distinct (x ∷ ps) (suc i) d = (λ m. d.0 (remove-from ps i x m), remove-distinct ps i d.1)

pub remove-gone : (ps : List (List ℕ)) (i : ℕ) (p : List ℕ) → AreDistinct ps → slice_get ps i ≡ Some p → IsAmong (remove ps i) p → ⊥
remove-gone [] i p d h m = cc
remove-gone (x ∷ ps) zero p d h m = let e : x ≡ p = cc in d.0 (IsAmong-same ps p x (sym e) m)
remove-gone (x ∷ ps) (suc i) p d h m = elim m [
  | inl here ↦ d.0 (IsAmong-same ps p x (sym here) (place-among ps i p h))
  | inr later ↦ remove-gone ps i p d.1 h later
]

pub filter-keeps : (f : List ℕ → Bool) (ps : List (List ℕ)) (p : List ℕ) → IsAmong ps p → f p ≡ true → IsAmong (filter f ps) p
filter-keeps f [] p m t = absurd m
filter-keeps f (x ∷ ps) p m t = elim m [
  | inl here ↦ let now : f x ≡ true = ap f here ∙ t in rw now (inl here)
  | inr later ↦ elim (cases_Bool (f x)) [
    | inl y ↦ rw y (inr (filter-keeps f ps p later t))
    | inr n ↦ rw n (filter-keeps f ps p later t)
  ]
]

pub AreDistinct-append : (ps qs : List (List ℕ)) → AreDistinct ps → AreDistinct qs →
    ((p : List ℕ) → IsAmong ps p → IsAmong qs p → ⊥) → AreDistinct (ps ++ qs)
AreDistinct-append [] qs d e apart = e
AreDistinct-append (p ∷ ps) qs d e apart = (
  λ m. elim (IsAmong-append ps qs p m) [ inl l ↦ d.0 l | inr r ↦ apart p (inl refl) r ],
  AreDistinct-append ps qs d.1 e (λ q l r. apart q (inr l) r),
)

-- the paths of the entries that pass a test
pub paths_of-filter_among : (f : Entry → Bool) (es : List Entry) (p : List ℕ) → IsAmong (paths_of (filter f es)) p → IsAmong (paths_of es) p
paths_of-filter_among f [] p m = m
paths_of-filter_among f (x ∷ es) p m = elim (cases_Bool (f x)) [
  | inl t ↦ elim (rw t at m) as (λ _. IsAmong (paths_of (x ∷ es)) p) [
    | inl here ↦ inl here
    | inr later ↦ inr (paths_of-filter_among f es p later)
  ]
  | inr n ↦ inr (paths_of-filter_among f es p (rw n at m))
]

pub paths_of-filter_from : (f : Entry → Bool) (es : List Entry) (p : List ℕ) → AreDistinct (paths_of es) →
    IsAmong (paths_of (filter f es)) p → (e : Entry) × (entry_of es p ≡ Some e) × (f e ≡ true)
paths_of-filter_from f [] p d m = absurd m
paths_of-filter_from f (x ∷ es) p d m = elim (cases_Bool (f x)) [
  | inl t ↦ elim (rw t at m) as (λ _. (e : Entry) × (entry_of (x ∷ es) p ≡ Some e) × (f e ≡ true)) [
    | inl here ↦ (x, (let same = (bytes_eq-Decides x.path p).1 here in rw same refl), t)
    | inr later ↦ behind (paths_of-filter_from f es p d.1 later)
  ]
  | inr n ↦ behind (paths_of-filter_from f es p d.1 (rw n at m))
]
  where
    behind : ((e : Entry) × (entry_of es p ≡ Some e) × (f e ≡ true)) → (e : Entry) × (entry_of (x ∷ es) p ≡ Some e) × (f e ≡ true)
    behind found = elim (cases_Bool (bytes_eq x.path p)) [
      | inl s ↦ absurd (d.0 (IsAmong-same (paths_of es) p x.path (sym ((bytes_eq-Decides x.path p).0 s)) (entry_of-among es p found.0 found.1)))
      | inr s ↦ (found.0, rw s found.1, found.2)
    ]

pub paths_of-filter_to : (f : Entry → Bool) (es : List Entry) (p : List ℕ) (e : Entry) → entry_of es p ≡ Some e → f e ≡ true →
    IsAmong (paths_of (filter f es)) p
paths_of-filter_to f [] p e h t = cc
paths_of-filter_to f (x ∷ es) p e h t = elim (cases_Bool (bytes_eq x.path p)) [
  | inl s ↦
      let same : x ≡ e = let now = rw s at h in cc in
      let passes : f x ≡ true = ap f same ∙ t in
      rw passes (inl ((bytes_eq-Decides x.path p).0 s))
  | inr s ↦
      let rest = paths_of-filter_to f es p e (rw s at h) t in
      elim (cases_Bool (f x)) [ inl y ↦ rw y (inr rest) | inr n ↦ rw n rest ]
]

pub paths_of-filter_distinct : (f : Entry → Bool) (es : List Entry) → AreDistinct (paths_of es) → AreDistinct (paths_of (filter f es))
paths_of-filter_distinct f [] d = tt
paths_of-filter_distinct f (x ∷ es) d = elim (cases_Bool (f x)) [
  | inl y ↦ rw y (λ m. d.0 (paths_of-filter_among f es x.path m), paths_of-filter_distinct f es d.1)
  | inr n ↦ rw n (paths_of-filter_distinct f es d.1)
]
