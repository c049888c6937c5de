-- What stands among entries.
use Rattle.std.proofs.Common.{◌≡◌, Bool, true, false, ◌&&◌, ◌⊎◌, inl, inr, List, [], ◌∷◌, ◌++◌, refl, sym}
use Rattle.std.proofs.lemmas.Bool.{cases_Bool, or_cases, or_left, or_right}
use Rattle.redo_record.specs.declared.deps.DepKind.{DepKind}
use Rattle.redo_record.specs.declared.deps.DepKind.TheVariants as kinds
use Rattle.std.specs.Str.{bytes_eq}
use lib.Pointwise.{bytes_decides}
use Rattle.redo_record.specs.Paths.{Path}
use Rattle.redo_record.specs.Entries.{same_kind, is_entered, with_entry}
use Rattle.redo_record.specs.declared.deps.Dep.{Dep}

pub bytes_eq-true : (p q : Path) → bytes_eq p q ≡ true → p ≡ q
bytes_eq-true p q e = (bytes_decides p q).0 e

pub same_kind-true : (j k : DepKind) → same_kind j k ≡ true → j ≡ k
same_kind-true kinds.Change kinds.Change e = refl
same_kind-true kinds.Create kinds.Create e = refl
same_kind-true kinds.Always kinds.Always e = refl
same_kind-true kinds.Change kinds.Create e = absurd cc
same_kind-true kinds.Change kinds.Always e = absurd cc
same_kind-true kinds.Create kinds.Change e = absurd cc
same_kind-true kinds.Create kinds.Always e = absurd cc
same_kind-true kinds.Always kinds.Change e = absurd cc
same_kind-true kinds.Always kinds.Create e = absurd cc

and_parts : (a b : Bool) → (a && b) ≡ true → (a ≡ true) × (b ≡ true)
and_parts true b e = (refl, e)
and_parts false b e = absurd cc

-- what stands in a list with one more entry
pub is_entered-append : (es more : List Dep) (k : DepKind) (p : Path) → is_entered (es ++ more) k p ≡ true → (is_entered es k p ≡ true) ⊎ (is_entered more k p ≡ true)
is_entered-append [] more k p h = inr h
is_entered-append (e ∷ es) more k p h = elim (or_cases (same_kind k e.kind && bytes_eq p e.path) (is_entered (es ++ more) k p) h) [
  | inl here ↦ inl (or_left _ _ here)
  | inr later ↦ elim (is_entered-append es more k p later) [ inl old ↦ inl (or_right _ _ old) | inr new ↦ inr new ]
]

pub is_entered-one : (e : Dep) (k : DepKind) (p : Path) → is_entered (e ∷ []) k p ≡ true → (e.kind ≡ k) × (e.path ≡ p)
is_entered-one e k p h = elim (or_cases (same_kind k e.kind && bytes_eq p e.path) false h) [
  | inl here ↦ let parts = and_parts (same_kind k e.kind) (bytes_eq p e.path) here in (sym (same_kind-true k e.kind parts.0), sym (bytes_eq-true p e.path parts.1))
  | inr never ↦ absurd cc
]

pub entered_cases : (es : List Dep) (j k : DepKind) (q p : Path) → is_entered (with_entry es j q) k p ≡ true → (is_entered es k p ≡ true) ⊎ ((j ≡ k) × (q ≡ p))
entered_cases es j k q p h = elim (cases_Bool (is_entered es j q)) [
  | inl t ↦ inl (rw t at h)
  | inr f ↦ elim (is_entered-append es (record { kind = j; path = q } ∷ []) k p (rw f at h)) [
    | inl old ↦ inl old
    | inr new ↦ inr (is_entered-one (record { kind = j; path = q }) k p new)
  ]
]
