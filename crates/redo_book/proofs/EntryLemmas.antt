-- Entries are looked up by their kind and path.
use Rattle.std.proofs.Common.{◌≡◌, ℕ, Bool, true, false, cond, not, ◌||◌, List, [], ◌∷◌, ◌++◌, refl, sym, ap, ◌∙◌}
use Rattle.std.proofs.Common.{Some, None, ◌≢◌, arith, length, length-append}
use Rattle.std.proofs.lemmas.List.Elements.{filter_map-append}
use Rattle.std.proofs.lemmas.List.Folds.{list_any-append}
use Rattle.std.specs.List.{filter_map, list_any}
use Rattle.std.specs.Str.{bytes_eq}
use Rattle.redo_path.proofs.ApartLemmas.{apart}
use Rattle.redo_record.specs.declared.deps.Dep.{Dep}
use Rattle.redo_record.specs.declared.deps.DepKind.TheVariants as kinds
use Rattle.redo_record.specs.Entries.{is_entered, with_entry as with_dep}
use Rattle.redo_book.specs.declared.book.BookEntry.{BookEntry}
use Rattle.redo_book.specs.declared.book.BookEntry.TheVariants.{Change, Create, Always}
use Rattle.redo_digest.specs.Digest.{State}
use Rattle.redo_book.specs.Book.{Record, same_entry}
use Rattle.redo_book.specs.inside.Reading.{dep_of, deps_of, new_entry, only_if, with_entry}

entered_change : (s : State) (p : List ℕ) (es : List BookEntry) → is_entered (deps_of es) kinds.Change p ≡ list_any (same_entry (Change s p)) es
entered_change s p [] = refl
entered_change s p (Change t q ∷ es) = ap (λ b. bytes_eq p q || b) (entered_change s p es)
entered_change s p (Create q ∷ es) = entered_change s p es
entered_change s p (Always ∷ es) = entered_change s p es

entered_create : (p : List ℕ) (es : List BookEntry) → is_entered (deps_of es) kinds.Create p ≡ list_any (same_entry (Create p)) es
entered_create p [] = refl
entered_create p (Change t q ∷ es) = entered_create p es
entered_create p (Create q ∷ es) = ap (λ b. bytes_eq p q || b) (entered_create p es)
entered_create p (Always ∷ es) = entered_create p es

-- an entry's dependency is there where an entry of its kind and path is
pub entered : (e : BookEntry) (d : Dep) (es : List BookEntry) → dep_of e ≡ Some d → is_entered (deps_of es) d.kind d.path ≡ list_any (same_entry e) es
entered (Change s p) d es h =
    let same : record { kind = kinds.Change; path = p } ≡ d = cc in
    ap (λ (d : Dep). is_entered (deps_of es) d.kind d.path) (sym same) ∙ entered_change s p es
entered (Create p) d es h =
    let same : record { kind = kinds.Create; path = p } ≡ d = cc in
    ap (λ (d : Dep). is_entered (deps_of es) d.kind d.path) (sym same) ∙ entered_create p es
entered Always d es h = apart cc

-- what has no dependency is `always`
pub no_dep : (e : BookEntry) → dep_of e ≡ None → Always ≡ e
no_dep (Change s p) h = apart cc
no_dep (Create p) h = apart cc
no_dep Always h = refl

not_always : (e : BookEntry) (d : Dep) → dep_of e ≡ Some d → same_entry Always e ≡ false
not_always (Change s p) d h = refl
not_always (Create p) d h = refl
not_always Always d h = apart cc

or_none : (b : Bool) → (b || false) ≡ b
or_none true = refl
or_none false = refl

pub always_more : (es : List BookEntry) (e : BookEntry) (d : Dep) → dep_of e ≡ Some d → list_any (same_entry Always) (es ++ e ∷ []) ≡ list_any (same_entry Always) es
always_more es e d h =
    list_any-append (same_entry Always) es (e ∷ []) ∙ ap (λ b. list_any (same_entry Always) es || (b || false)) (not_always e d h) ∙ or_none (list_any (same_entry Always) es)

or_true : (b : Bool) → (b || true) ≡ true
or_true true = refl
or_true false = refl

pub always_now : (es : List BookEntry) → list_any (same_entry Always) (es ++ Always ∷ []) ≡ true
always_now es = list_any-append (same_entry Always) es (Always ∷ []) ∙ or_true (list_any (same_entry Always) es)

pub deps_more : (es : List BookEntry) (e : BookEntry) (d : Dep) → dep_of e ≡ Some d → is_entered (deps_of es) d.kind d.path ≡ false → with_dep (deps_of es) d.kind d.path ≡ deps_of (es ++ e ∷ [])
deps_more es e d h new =
    let one : filter_map dep_of (e ∷ []) ≡ d ∷ [] = rw h refl in
    ap (λ b. cond b (deps_of es) (deps_of es ++ record { kind = d.kind; path = d.path } ∷ [])) new
    ∙ sym (filter_map-append dep_of es (e ∷ []) ∙ ap (λ ds. deps_of es ++ ds) one)

-- an entry was there if there are as many as before it was put in
pub not_put : (ds : List Dep) (d : Dep) → length (with_dep ds d.kind d.path) ≡ length ds → is_entered ds d.kind d.path ≡ true
not_put ds d =
    elim (is_entered ds d.kind d.path) as (λ b. length (cond b ds (ds ++ record { kind = d.kind; path = d.path } ∷ [])) ≡ length ds → b ≡ true) [
      | true ↦ λ h. refl
      | false ↦ λ h. absurd (let more = length-append ds (record { kind = d.kind; path = d.path } ∷ []) in omega arith)
    ]

-- and it wasn't if there are not
pub was_put : (ds : List Dep) (d : Dep) → length (with_dep ds d.kind d.path) ≢ length ds → is_entered ds d.kind d.path ≡ false
was_put ds d =
    elim (is_entered ds d.kind d.path) as (λ b. length (cond b ds (ds ++ record { kind = d.kind; path = d.path } ∷ [])) ≢ length ds → b ≡ false) [
      | true ↦ λ h. absurd (h refl)
      | false ↦ λ h. refl
    ]

pub deps_always : (es : List BookEntry) → deps_of (es ++ Always ∷ []) ≡ deps_of es
deps_always [] = refl
deps_always (Change t q ∷ es) = ap (λ ds. record { kind = kinds.Change; path = q } ∷ ds) (deps_always es)
deps_always (Create q ∷ es) = ap (λ ds. record { kind = kinds.Create; path = q } ∷ ds) (deps_always es)
deps_always (Always ∷ es) = deps_always es

-- a record with one more entry
abbrev pub grown : Record → BookEntry → Record
grown r e = record { target = r.target; state = r.state; entries = r.entries ++ e ∷ [] }

-- a record takes a new entry, and no other
pub takes_new : (r : Record) (e : BookEntry) → new_entry r.entries e ≡ Some tt → with_entry r e ≡ Some (grown r e)
takes_new r e h = elim (list_any (same_entry e) r.entries) as (λ b. only_if {A = Unit {0}} (not b) tt ≡ Some tt → only_if {A = Record} (not b) (grown r e) ≡ Some (grown r e)) [
  | true ↦ λ h. apart cc
  | false ↦ λ h. refl
] h

pub takes_none : (r : Record) (e : BookEntry) → new_entry r.entries e ≡ None → with_entry r e ≡ None
takes_none r e h = elim (list_any (same_entry e) r.entries) as (λ b. only_if {A = Unit {0}} (not b) tt ≡ None → only_if {A = Record} (not b) (grown r e) ≡ None) [
  | true ↦ λ h. refl
  | false ↦ λ h. apart cc
] h
