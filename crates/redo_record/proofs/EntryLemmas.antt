-- Laws of entries.
use Rattle.std.proofs.Common.{◌≡◌, Bool, true, false, ◌&&◌, ◌||◌, cond, List, [], ◌∷◌, ◌++◌, refl}
use lib.Pointwise.{bytes_decides}
use Rattle.redo_record.specs.declared.deps.DepKind.{DepKind}
use Rattle.redo_record.specs.declared.deps.DepKind.TheVariants as kinds
use Rattle.std.specs.Str.{bytes_eq}
use Rattle.redo_record.specs.Paths.{Path}
use Rattle.redo_record.specs.Entries.{same_kind, is_entered, with_entry, with_entries, Extends}
use Rattle.redo_record.specs.declared.deps.Dep.{Dep}

pub Extends-refl : (es : List Dep) → Extends es es
Extends-refl es = record { still = λ k p h. h }

pub Extends-trans : (a b c : List Dep) → Extends a b → Extends b c → Extends a c
Extends-trans a b c x y = record { still = λ k p h. y.still k p (x.still k p h) }

pub bytes_eq-refl : (p : Path) → bytes_eq p p ≡ true
bytes_eq-refl p = (bytes_decides p p).1 refl

pub same_kind-refl : (k : DepKind) → same_kind k k ≡ true
same_kind-refl kinds.Change = refl
same_kind-refl kinds.Create = refl
same_kind-refl kinds.Always = refl

or_true : (a : Bool) → (a || true) ≡ true
or_true true = refl
or_true false = refl

is_entered-front : (es more : List Dep) (k : DepKind) (p : Path) → is_entered es k p ≡ true → is_entered (es ++ more) k p ≡ true
is_entered-front [] more k p h = cc
is_entered-front (e ∷ es) more k p h =
    elim (same_kind k e.kind && bytes_eq p e.path) as (λ (v : Bool). (v || is_entered es k p) ≡ true → (v || is_entered (es ++ more) k p) ≡ true)
    [ true ↦ λ _. refl | false ↦ λ g. is_entered-front es more k p g ] h

is_entered-back : (es more : List Dep) (k : DepKind) (p : Path) → is_entered more k p ≡ true → is_entered (es ++ more) k p ≡ true
is_entered-back [] more k p h = h
is_entered-back (e ∷ es) more k p h = rw (is_entered-back es more k p h) (or_true (same_kind k e.kind && bytes_eq p e.path))

is_entered-one : (k : DepKind) (p : Path) → is_entered (record { kind = k; path = p } ∷ []) k p ≡ true
is_entered-one k p = rw (same_kind-refl k, bytes_eq-refl p) refl

pub Extends-with_entry : (es : List Dep) (k : DepKind) (p : Path) → Extends es (with_entry es k p)
Extends-with_entry es k p =
    elim (is_entered es k p) as (λ (v : Bool). Extends es (cond v es (es ++ record { kind = k; path = p } ∷ [])))
    [ true ↦ Extends-refl es | false ↦ record { still = λ j q h. is_entered-front es (record { kind = k; path = p } ∷ []) j q h } ]

pub is_entered-with_entry : (es : List Dep) (k : DepKind) (p : Path) → is_entered (with_entry es k p) k p ≡ true
is_entered-with_entry es k p =
    (elim (is_entered es k p) as (λ (v : Bool). is_entered es k p ≡ v → is_entered (cond v es (es ++ record { kind = k; path = p } ∷ [])) k p ≡ true)
    [ true ↦ λ h. h | false ↦ λ h. is_entered-back es (record { kind = k; path = p } ∷ []) k p (is_entered-one k p) ]) refl

pub Extends-with_entries : (es : List Dep) (k : DepKind) (ps : List Path) → Extends es (with_entries es k ps)
Extends-with_entries es k [] = Extends-refl es
Extends-with_entries es k (p ∷ ps) =
    Extends-trans es (with_entry es k p) (with_entries (with_entry es k p) k ps) (Extends-with_entry es k p) (Extends-with_entries (with_entry es k p) k ps)

abbrev pub AllEntered : List Dep → DepKind → List Path → Type 0
AllEntered es k [] = Unit {0}
AllEntered es k (p ∷ ps) = (is_entered es k p ≡ true) × AllEntered es k ps

pub AllEntered-with_entries : (es : List Dep) (k : DepKind) (ps : List Path) → AllEntered (with_entries es k ps) k ps
AllEntered-with_entries es k [] = tt
AllEntered-with_entries es k (p ∷ ps) =
    ((Extends-with_entries (with_entry es k p) k ps).still k p (is_entered-with_entry es k p), AllEntered-with_entries (with_entry es k p) k ps)

pub with_entries-entered : (es : List Dep) (k : DepKind) (ps : List Path) → AllEntered es k ps → with_entries es k ps ≡ es
with_entries-entered es k [] h = refl
with_entries-entered es k (p ∷ ps) h = rw h.0 (with_entries-entered es k ps h.1)

-- declaring again changes nothing
pub with_entries-again : (es : List Dep) (k : DepKind) (ps : List Path) → with_entries (with_entries es k ps) k ps ≡ with_entries es k ps
with_entries-again es k ps = with_entries-entered (with_entries es k ps) k ps (AllEntered-with_entries es k ps)
