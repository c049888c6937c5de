-- Who names a path, and who needs it.
use Rattle.std.proofs.Common.{◌≡◌, ◌∙◌, ◌||◌, ◌⊎◌, ℕ, zero, suc, Bool, true, false, List, [], ◌∷◌, Some, None, refl, sym, ap, subst}
use Rattle.std.proofs.Common.{inl, inr, true≢false, filter, slice_get}
use Rattle.std.proofs.lemmas.Bool.{cases_Bool}
use Rattle.std.proofs.lemmas.Slice.Eq.{bytes_eq-Decides}
use Rattle.std.specs.Cmp.Lexicographic.{slice_cmp}
use Rattle.std.specs.List.{AllByRecursion, list_any}
use Rattle.std.specs.List.Sorted.{IsStrictlySortedBy}
use Rattle.std.specs.Ordering.{nat_cmp}
use Rattle.std.specs.Str.{bytes_eq}
use Rattle.std.specs.declared.cmp.Ordering.TheVariants.{Less}
use Rattle.redo_names.specs.Paths.{IsAmong, is_among}
use Rattle.redo_names.proofs.PathLemmas.{among-told, told-among}
use Rattle.redo_book.specs.Book.{IsBook, Record, targets_of}
use Rattle.redo_book.specs.declared.book.BookEntry.{BookEntry}
use Rattle.redo_book.specs.declared.book.BookEntry.TheVariants.{Change, Create, Always}
use Rattle.redo_query.specs.Names.{AreNeeding, Needs, Itself, Through, is_of, names, path_in, users}
use Rattle.redo_query.specs.inside.Found.{AllNeed, IsClosed, NeedsBy, names_one}

-- ---- entries

pub of-some : (p : List ℕ) (e : BookEntry) (x : List ℕ) → path_in e ≡ Some x → is_of p e ≡ bytes_eq x p
of-some p (Change s y) x h = let same : y ≡ x = cc in ap (λ z. bytes_eq z p) same
of-some p (Create y) x h = let same : y ≡ x = cc in ap (λ z. bytes_eq z p) same
of-some p Always x h = cc

pub of-none : (p : List ℕ) (e : BookEntry) → path_in e ≡ None → is_of p e ≡ false
of-none p (Change s y) h = cc
of-none p (Create y) h = cc
of-none p Always h = refl

same-bytes : (x : List ℕ) → bytes_eq x x ≡ true
same-bytes x = (bytes_eq-Decides x x).1 refl

or-left : (a b : Bool) → a ≡ true → (a || b) ≡ true
or-left a b h = rw h refl

or-right : (a b : Bool) → b ≡ true → (a || b) ≡ true
or-right true b h = refl
or-right false b h = h

one-found : (found : List (List ℕ)) (e : BookEntry) → names_one found e ≡ true → (mid : List ℕ) × IsAmong found mid × (is_of mid e ≡ true)
one-found found (Change s x) h = (x, among-told found x h, same-bytes x)
one-found found (Create x) h = (x, among-told found x h, same-bytes x)
one-found found Always h = cc

found-one : (found : List (List ℕ)) (e : BookEntry) (mid : List ℕ) → IsAmong found mid → is_of mid e ≡ true → names_one found e ≡ true
found-one found (Change s x) mid m h = ap (is_among found) ((bytes_eq-Decides x mid).0 h) ∙ told-among found mid m
found-one found (Create x) mid m h = ap (is_among found) ((bytes_eq-Decides x mid).0 h) ∙ told-among found mid m
found-one found Always mid m h = cc

any-found : (found : List (List ℕ)) (es : List BookEntry) → list_any (names_one found) es ≡ true → (mid : List ℕ) × IsAmong found mid × (list_any (is_of mid) es ≡ true)
any-found found [] h = cc
any-found found (e ∷ es) h = elim (cases_Bool (names_one found e)) [
  | inl t ↦ let o = one-found found e t in (o.0, o.1, or-left (is_of o.0 e) (list_any (is_of o.0) es) o.2)
  | inr f ↦
      let rest : list_any (names_one found) es ≡ true = sym (ap (λ b. b || list_any (names_one found) es) f) ∙ h in
      let o = any-found found es rest in
      (o.0, o.1, or-right (is_of o.0 e) (list_any (is_of o.0) es) o.2)
]

found-any : (found : List (List ℕ)) (es : List BookEntry) (mid : List ℕ) → IsAmong found mid → list_any (is_of mid) es ≡ true → list_any (names_one found) es ≡ true
found-any found [] mid m h = cc
found-any found (e ∷ es) mid m h = elim (cases_Bool (is_of mid e)) [
  | inl t ↦ or-left (names_one found e) (list_any (names_one found) es) (found-one found e mid m t)
  | inr f ↦
      let rest : list_any (is_of mid) es ≡ true = sym (ap (λ b. b || list_any (is_of mid) es) f) ∙ h in
      or-right (names_one found e) (list_any (names_one found) es) (found-any found es mid m rest)
]

-- a record that doesn't name the path needs it by what it names of those that were found
pub needs-told : (found : List (List ℕ)) (path : List ℕ) (r : Record) → names path r ≡ false → list_any (names_one found) r.entries ≡ true → NeedsBy found path r
needs-told found path r f h = inr (any-found found r.entries h)

pub told-needs : (found : List (List ℕ)) (path : List ℕ) (r : Record) → names path r ≡ false → NeedsBy found path r → list_any (names_one found) r.entries ≡ true
told-needs found path r f (inl t) = absurd (true≢false (sym t ∙ f))
told-needs found path r f (inr o) = found-any found r.entries o.0 o.1 o.2

-- ---- records

-- a record of the book that names a path is one of those that do
pub user-at : (book : List Record) (path : List ℕ) (n : ℕ) (r : Record) → slice_get book n ≡ Some r → names path r ≡ true → IsAmong (users book path) r.target
user-at [] path n r h t = cc
user-at (q ∷ qs) path zero r h t =
    let same : q ≡ r = cc in
    let told : names path q ≡ true = ap (names path) same ∙ t in
    rw told (inl (ap (λ x. x.target) same))
user-at (q ∷ qs) path (suc n) r h t = elim (cases_Bool (names path q)) [
  | inl told ↦ rw told (inr (user-at qs path n r h t))
  | inr other ↦ rw other (user-at qs path n r h t)
]

pub first-need : (book : List Record) (path : List ℕ) (old new : List (List ℕ)) → old ≡ [] → ((t : List ℕ) → IsAmong new t → IsAmong old t ⊎ IsAmong (users book path) t) → AllNeed book path new
first-need book path old new none only t m = elim (only t m) [
  | inl there ↦ absurd (subst (λ ps. IsAmong ps t) none there)
  | inr u ↦ Itself u
]

pub more-need : (book : List Record) (path mid : List ℕ) (old new : List (List ℕ)) → AllNeed book path old → IsAmong old mid → ((t : List ℕ) → IsAmong new t → IsAmong old t ⊎ IsAmong (users book mid) t) → AllNeed book path new
more-need book path mid old new all there only t m = elim (only t m) [
  | inl o ↦ all t o
  | inr u ↦ Through (all mid there) u
]

needs-by : (book : List Record) (path : List ℕ) (found : List (List ℕ)) (n : ℕ) (r : Record) → slice_get book n ≡ Some r → AllNeed book path found → NeedsBy found path r → Needs book path r.target
needs-by book path found n r at all (inl t) = Itself (user-at book path n r at t)
needs-by book path found n r at all (inr o) = Through (all o.0 o.1) (user-at book o.0 n r at o.2)

-- a record that was visited
pub visit-need : (book : List Record) (path : List ℕ) (old new : List (List ℕ)) (n : ℕ) (r : Record) → slice_get book n ≡ Some r → ((t : List ℕ) → IsAmong new t → IsAmong old t ⊎ (NeedsBy old path r × (r.target ≡ t))) → AllNeed book path old → AllNeed book path new
visit-need book path old new n r at only all t m = elim (only t m) [
  | inl o ↦ all t o
  | inr o ↦ subst (Needs book path) o.1 (needs-by book path old n r at all o.0)
]

-- ---- those that were found, in order

closed-at : (rs : List Record) (path mid : List ℕ) (found : List (List ℕ)) (t : List ℕ) → IsClosed rs path found → (path ≡ mid) ⊎ IsAmong found mid → IsAmong (users rs mid) t → IsAmong found t
closed-at [] path mid found t all by u = absurd u
closed-at (r ∷ rs) path mid found t all by u = elim (cases_Bool (names mid r)) [
  | inl told ↦
      let here : (r.target ≡ t) ⊎ IsAmong (users rs mid) t = rw told at u in
      elim here [
        | inl same ↦ subst (IsAmong found) same (all.0 (elim by [
          | inl e ↦ inl (ap (λ p. names p r) e ∙ told)
          | inr m ↦ inr (mid, m, told)
        ]))
        | inr rest ↦ closed-at rs path mid found t all.1 by rest
      ]
  | inr other ↦ closed-at rs path mid found t all.1 by (rw other at u)
]

needed : (book : List Record) (path : List ℕ) (found : List (List ℕ)) → IsClosed book path found → {t : List ℕ} → Needs book path t → IsAmong found t
needed book path found all {t} (Itself u) = closed-at book path path found t all (inl refl) u
needed book path found all {t} (Through {mid = mid} n u) = closed-at book path mid found t all (inr (needed book path found all n)) u

abbrev pub found_in : List (List ℕ) → List Record → List (List ℕ)
found_in found rs = targets_of (filter (λ r. is_among found r.target) rs)

behind : (r : Record) (rs : List Record) (found : List (List ℕ)) (t : List ℕ) → IsAmong (found_in found rs) t → IsAmong (found_in found (r ∷ rs)) t
behind r rs found t m = elim (cases_Bool (is_among found r.target)) [
  | inl is ↦ rw is (inr m)
  | inr other ↦ rw other m
]

in-order-at : (rs : List Record) (mid : List ℕ) (found : List (List ℕ)) (t : List ℕ) → IsAmong (users rs mid) t → IsAmong found t → IsAmong (found_in found rs) t
in-order-at [] mid found t u m = absurd u
in-order-at (r ∷ rs) mid found t u m = elim (cases_Bool (names mid r)) [
  | inl told ↦
      let here : (r.target ≡ t) ⊎ IsAmong (users rs mid) t = rw told at u in
      elim here [
        | inl same ↦
            let is : is_among found r.target ≡ true = ap (is_among found) same ∙ told-among found t m in
            rw is (inl same)
        | inr rest ↦ behind r rs found t (in-order-at rs mid found t rest m)
      ]
  | inr other ↦ behind r rs found t (in-order-at rs mid found t (rw other at u) m)
]

was-found : (rs : List Record) (found : List (List ℕ)) (t : List ℕ) → IsAmong (found_in found rs) t → IsAmong found t
was-found [] found t m = absurd m
was-found (r ∷ rs) found t m = elim (cases_Bool (is_among found r.target)) [
  | inl is ↦
      let here : (r.target ≡ t) ⊎ IsAmong (found_in found rs) t = rw is at m in
      elim here [
        | inl same ↦ subst (IsAmong found) same (among-told found r.target is)
        | inr rest ↦ was-found rs found t rest
      ]
  | inr other ↦ was-found rs found t (rw other at m)
]

user-of : (book : List Record) (path : List ℕ) {t : List ℕ} → Needs book path t → (mid : List ℕ) × IsAmong (users book mid) t
user-of book path (Itself u) = (path, u)
user-of book path (Through {mid = mid} n u) = (mid, u)

all-found : (p : Record → Bool) (Q : List ℕ → Type 0) (rs : List Record) → AllByRecursion Q (targets_of rs) → AllByRecursion Q (targets_of (filter p rs))
all-found p Q [] h = tt
all-found p Q (r ∷ rs) h = elim (cases_Bool (p r)) [
  | inl t ↦ rw t (h.0, all-found p Q rs h.1)
  | inr f ↦ rw f (all-found p Q rs h.1)
]

found-sorted : (p : Record → Bool) (rs : List Record) → IsStrictlySortedBy (slice_cmp nat_cmp) (targets_of rs) → IsStrictlySortedBy (slice_cmp nat_cmp) (targets_of (filter p rs))
unfolding IsStrictlySortedBy
found-sorted p [] h = tt
found-sorted p (r ∷ rs) h = elim (cases_Bool (p r)) [
  | inl t ↦ rw t (all-found p (λ k. slice_cmp nat_cmp r.target k ≡ Less) rs h.0, found-sorted p rs h.1)
  | inr f ↦ rw f (found-sorted p rs h.1)
]

pub are-needing : (book : List Record) (path : List ℕ) (found targets : List (List ℕ)) → IsBook book → AllNeed book path found → IsClosed book path found → targets ≡ found_in found book → AreNeeding book path targets
are-needing book path found targets is need closed same = subst (AreNeeding book path) (sym same) (record {
  each = λ t m. need t (was-found book found t m);
  all = λ t n. let u = user-of book path n in in-order-at book u.0 found t u.1 (needed book path found closed n);
  sorted = found-sorted (λ r. is_among found r.target) book is.sorted;
})
