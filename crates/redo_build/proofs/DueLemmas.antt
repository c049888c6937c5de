-- The first entry that passes a test: it stands at its path; where there is none, no entry passes.
use Rattle.std.proofs.Common.{◌≡◌, ℕ, Bool, true, false, inl, inr, List, [], ◌∷◌, Some, None, find, refl, subst}
use Rattle.std.proofs.Common.{bytes_eq, sym}
use Rattle.std.proofs.lemmas.Bool.{cases_Bool, both_ways}
use Rattle.std.proofs.lemmas.Slice.Eq.{bytes_eq-Decides}
use Rattle.redo_record.specs.Paths.{AreDistinct}
use Rattle.redo_build.specs.Rules.{Rules}
use Rattle.redo_build.specs.Schedule.{Entry, State, paths_of, entry_of, is_due}
use Rattle.redo_build.specs.Looking.{first_due, NoneDue}
use Rattle.redo_build.proofs.DepthLemmas.{cases_Option}
use Rattle.redo_build.proofs.SeenLemmas.{entry_of-among}

unfound : (test : Entry → Bool) (es : List Entry) → find test es ≡ None → (p : List ℕ) (e : Entry) →
    entry_of es p ≡ Some e → test e ≡ false
unfound test [] none p e h = cc
unfound test (x ∷ es) none p e h = elim (cases_Bool (test x)) [
  | inl t ↦ absurd (let now = rw t at none in cc)
  | inr f ↦ elim (cases_Bool (bytes_eq x.path p)) [
    | inl same ↦
        let is : x ≡ e = let now = rw same at h in cc in
        let P : Entry → Type 0 = λ y. test y ≡ false in
        subst P is f
    | inr other ↦ unfound test es (rw f at none) p e (rw other at h)
  ]
]

found : (test : Entry → Bool) (es : List Entry) → AreDistinct (paths_of es) → (e : Entry) → find test es ≡ Some e →
    (entry_of es e.path ≡ Some e) × (test e ≡ true)
found test [] distinct e h = cc
found test (x ∷ es) distinct e h = elim (cases_Bool (test x)) [
  | inl t ↦
      let is : x ≡ e = let now = rw t at h in cc in
      let P : Entry → Type 0 = λ y. (entry_of (x ∷ es) y.path ≡ Some y) × (test y ≡ true) in
      subst P is (let own = (bytes_eq-Decides x.path x.path).1 refl in rw own refl, t)
  | inr f ↦
      let there = found test es distinct.1 e (rw f at h) in
      elim (cases_Bool (bytes_eq x.path e.path)) [
        | inl same ↦ absurd (
            let P : List ℕ → Type 0 = λ q. entry_of es q ≡ Some e in
            let before = subst P (sym ((bytes_eq-Decides x.path e.path).0 same)) there.0 in
            distinct.0 (entry_of-among es x.path e before))
        | inr other ↦ (rw other there.0, there.1)
      ]
]

-- where none is due, no entry that was seen is
pub none-due : (r : Rules) (s : State) → NoneDue r s → (p : List ℕ) (e : Entry) → entry_of s.entries p ≡ Some e →
    is_due r s e ≡ false
none-due r s none p e h = unfound (is_due r s) s.entries none p e h

-- the first that is due stands at its path
pub due-first : (r : Rules) (s : State) → AreDistinct (paths_of s.entries) → (e : Entry) → first_due r s ≡ Some e →
    (entry_of s.entries e.path ≡ Some e) × (is_due r s e ≡ true)
due-first r s distinct e h = found (is_due r s) s.entries distinct e h

pub none-due-from : (r : Rules) (s : State) → AreDistinct (paths_of s.entries) →
    ((p : List ℕ) (e : Entry) → entry_of s.entries p ≡ Some e → is_due r s e ≡ false) → NoneDue r s
none-due-from r s distinct none = elim (cases_Option (first_due r s)) [
  | inl gone ↦ gone
  | inr some ↦ absurd (
      let there = due-first r s distinct some.0 some.1 in
      both_ways _ (none some.0.path some.0 there.0) there.1)
]
