-- What a record waits for.
use Rattle.std.proofs.Common.{◌≡◌, Bool, true, false, ◌&&◌, ◌||◌, not, ◌⊎◌, inl, inr, List, [], ◌∷◌, ◌++◌, filter, refl}
use Rattle.std.proofs.Common.{sym, ap, ◌∙◌}
use Rattle.std.specs.List.{cons_option}
use Rattle.std.specs.Str.{bytes_eq}
use Rattle.std.proofs.lemmas.Bool.{cases_Bool, or_cases, or_left, or_right, both_ways}
use Rattle.std.proofs.lemmas.List.Elements.{filter_map-append}
use Rattle.redo_names.proofs.ListLemmas.{filter-from}
use Rattle.redo_names.proofs.PathLemmas.{distinct-last}
use Rattle.redo_record.specs.declared.deps.Dep.{Dep}
use Rattle.redo_record.specs.declared.deps.DepKind.{DepKind}
use Rattle.redo_record.specs.declared.deps.DepKind.TheVariants.{Change, Create, Always}
use Rattle.redo_record.specs.Paths.{Path, IsAmong, AreDistinct}
use Rattle.redo_record.specs.Entries.{same_kind, is_entered, with_entry, with_entries, with_all}
use Rattle.redo_record.specs.Progress.{changed, changes, operands}
use Rattle.redo_record.proofs.EntryLemmas.{bytes_eq-refl, Extends-with_entry, is_entered-with_entry}
use Rattle.redo_record.proofs.FoundLemmas.{bytes_eq-true, same_kind-true, entered_cases}

pub among-changes : (ds : List Dep) (q : Path) → IsAmong (changes ds) q → is_entered ds Change q ≡ true
among-changes [] q m = absurd m
among-changes (d ∷ ds) q m =
    (elim (d.kind) as (λ (k : DepKind). IsAmong (cons_option (changed k d.path) (changes ds)) q → ((same_kind Change k && bytes_eq q d.path) || is_entered ds Change q) ≡ true) [
      | Change ↦ λ n. elim n [
        | inl here ↦ let is : bytes_eq q d.path ≡ true = (let same : d.path ≡ q = here in rw same (bytes_eq-refl q)) in or_left _ _ is
        | inr later ↦ or_right _ _ (among-changes ds q later)
      ]
      | Create ↦ λ n. among-changes ds q n
      | Always ↦ λ n. among-changes ds q n
    ]) m

pub among-entered : (ds : List Dep) (q : Path) → is_entered ds Change q ≡ true → IsAmong (changes ds) q
among-entered [] q h = absurd cc
among-entered (d ∷ ds) q h =
    (elim (d.kind) as (λ (k : DepKind). ((same_kind Change k && bytes_eq q d.path) || is_entered ds Change q) ≡ true → IsAmong (cons_option (changed k d.path) (changes ds)) q) [
      | Change ↦ λ n. elim (or_cases (bytes_eq q d.path) (is_entered ds Change q) n) [
        | inl here ↦ inl (sym (bytes_eq-true q d.path here))
        | inr later ↦ inr (among-entered ds q later)
      ]
      | Create ↦ λ n. among-entered ds q n
      | Always ↦ λ n. among-entered ds q n
    ]) h

here_too : (k : DepKind) (p : Path) → (same_kind k k && bytes_eq p p) ≡ true
here_too Change p = bytes_eq-refl p
here_too Create p = bytes_eq-refl p
here_too Always p = bytes_eq-refl p

append_nil : (ps : List Path) → ps ++ [] ≡ ps
append_nil [] = refl
append_nil (p ∷ ps) = ap (λ (xs : List Path). p ∷ xs) (append_nil ps)

-- a pair stands in the first entries or in the further ones
pub all_cases : (ds es : List Dep) (k : DepKind) (p : Path) → is_entered (with_all ds es) k p ≡ true → (is_entered ds k p ≡ true) ⊎ (is_entered es k p ≡ true)
all_cases ds [] k p h = inl h
all_cases ds (e ∷ es) k p h = elim (all_cases (with_entry ds e.kind e.path) es k p h) [
  | inl first ↦ elim (entered_cases ds e.kind k e.path p first) [
    | inl old ↦ inl old
    | inr new ↦ let kind : e.kind ≡ k = new.0 in let path : e.path ≡ p = new.1 in let is : (same_kind k e.kind && bytes_eq p e.path) ≡ true = rw (kind, path) (here_too k p) in inr (or_left _ _ is)
  ]
  | inr later ↦ inr (or_right _ _ later)
]

pub all_first : (ds es : List Dep) (k : DepKind) (p : Path) → is_entered ds k p ≡ true → is_entered (with_all ds es) k p ≡ true
all_first ds [] k p h = h
all_first ds (e ∷ es) k p h = all_first (with_entry ds e.kind e.path) es k p ((Extends-with_entry ds e.kind e.path).still k p h)

and_parts : (a b : Bool) → (a && b) ≡ true → (a ≡ true) × (b ≡ true)
and_parts true b e = (refl, e)
and_parts false b e = absurd cc

pub all_second : (ds es : List Dep) (k : DepKind) (p : Path) → is_entered es k p ≡ true → is_entered (with_all ds es) k p ≡ true
all_second ds [] k p h = absurd cc
all_second ds (e ∷ es) k p h = elim (or_cases (same_kind k e.kind && bytes_eq p e.path) (is_entered es k p) h) [
  | inl here ↦
      let parts = and_parts (same_kind k e.kind) (bytes_eq p e.path) here in
      let kind : e.kind ≡ k = sym (same_kind-true k e.kind parts.0) in
      let path : e.path ≡ p = sym (bytes_eq-true p e.path parts.1) in
      all_first (with_entry ds e.kind e.path) es k p (rw (kind, path) (is_entered-with_entry ds k p))
  | inr later ↦ all_second (with_entry ds e.kind e.path) es k p later
]

-- Each path once

changes-append : (ds : List Dep) (k : DepKind) (p : Path) → AreDistinct (changes ds) → is_entered ds k p ≡ false → AreDistinct (changes (ds ++ record { kind = k; path = p } ∷ []))
changes-append ds Change p d new = rw (filter_map-append (λ (e : Dep). changed e.kind e.path) ds (record { kind = Change; path = p } ∷ [])) (distinct-last (changes ds) p d (λ m. both_ways _ new (among-changes ds p m)))
changes-append ds Create p d new = rw (filter_map-append (λ (e : Dep). changed e.kind e.path) ds (record { kind = Create; path = p } ∷ [])) (rw (append_nil (changes ds)) d)
changes-append ds Always p d new = rw (filter_map-append (λ (e : Dep). changed e.kind e.path) ds (record { kind = Always; path = p } ∷ [])) (rw (append_nil (changes ds)) d)

distinct-entry : (ds : List Dep) (k : DepKind) (p : Path) → AreDistinct (changes ds) → AreDistinct (changes (with_entry ds k p))
distinct-entry ds k p d = elim (cases_Bool (is_entered ds k p)) [
  | inl old ↦ rw old d
  | inr new ↦ rw new (changes-append ds k p d new)
]

pub distinct-entries : (ds : List Dep) (k : DepKind) (ps : List Path) → AreDistinct (changes ds) → AreDistinct (changes (with_entries ds k ps))
distinct-entries ds k [] d = d
distinct-entries ds k (p ∷ ps) d = distinct-entries (with_entry ds k p) k ps (distinct-entry ds k p d)

pub distinct-all : (ds es : List Dep) → AreDistinct (changes ds) → AreDistinct (changes (with_all ds es))
distinct-all ds [] d = d
distinct-all ds (e ∷ es) d = distinct-all (with_entry ds e.kind e.path) es (distinct-entry ds e.kind e.path d)

filter-distinct : (f : Path → Bool) (ps : List Path) → AreDistinct ps → AreDistinct (filter f ps)
filter-distinct f [] d = tt
filter-distinct f (p ∷ ps) d = elim (cases_Bool (f p)) [
  | inl t ↦ rw t ((λ m. d.0 (filter-from f ps p m)), filter-distinct f ps d.1)
  | inr n ↦ rw n (filter-distinct f ps d.1)
]

pub distinct-operands : (is_source : Path → Bool) (ds : List Dep) → AreDistinct (changes ds) → AreDistinct (operands is_source ds)
distinct-operands is_source ds d = filter-distinct (λ p. not (is_source p)) (changes ds) d

-- Operands

among-filter : (f : Path → Bool) (ps : List Path) (p : Path) → f p ≡ true → IsAmong ps p → IsAmong (filter f ps) p
among-filter f [] p t m = m
among-filter f (q ∷ ps) p t m = elim (cases_Bool (f q)) [
  | inl yes' ↦ rw yes' (elim m [ inl here ↦ inl here | inr later ↦ inr (among-filter f ps p t later) ])
  | inr no' ↦ rw no' (elim m [ inl here ↦ absurd (let bad : f p ≡ false = ap f (sym here) ∙ no' in both_ways _ bad t) | inr later ↦ among-filter f ps p t later ])
]

pub operand-entered : (is_source : Path → Bool) (ds : List Dep) (q : Path) → IsAmong (operands is_source ds) q → is_entered ds Change q ≡ true
operand-entered is_source ds q m = among-changes ds q (filter-from (λ p. not (is_source p)) (changes ds) q m)

pub entered-operand : (is_source : Path → Bool) (ds : List Dep) (q : Path) → is_source q ≡ false → is_entered ds Change q ≡ true → IsAmong (operands is_source ds) q
entered-operand is_source ds q s h = among-filter (λ p. not (is_source p)) (changes ds) q (rw s refl) (among-entered ds q h)

pub none_among : (ps : List Path) → ((q : Path) → IsAmong ps q → ⊥) → ps ≡ []
none_among [] h = refl
none_among (p ∷ ps) h = absurd (h p (inl refl))
