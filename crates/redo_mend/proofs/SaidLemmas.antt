-- The recovered book: which records it has.
use Rattle.std.proofs.Common.{◌≡◌, ◌&&◌, ℕ, Bool, true, false, not, ◌⊎◌, inl, inr, List, Some, None, filter}
use Rattle.std.proofs.Common.{is_some, refl, sym, ap, subst, ◌∙◌}
use Rattle.std.proofs.lemmas.Bool.{cases_Bool}
use Rattle.std.proofs.lemmas.List.Elements.{All-contains, All-contains_itself, All-weaker}
use Rattle.std.proofs.lemmas.Slice.Eq.{bytes_eq-Decides}
use Rattle.std.specs.Option.{option_eq, option_or}
use Rattle.std.specs.Prelude.{All, Contains, if◌then◌else◌, option_and_then}
use Rattle.std.specs.Str.{bytes_eq}
use Rattle.redo_path.proofs.ApartLemmas.{apart}
use Rattle.redo_digest.specs.Digest.{State, state_of}
use Rattle.redo_tree.specs.Tree.{Tree, file_at}
use Rattle.redo_book.specs.Book.{IsBook, IsRecord, Record, record_at}
use Rattle.redo_book.specs.Intact.{is_intact}
use Rattle.redo_past.proofs.CarryLemmas.{both, found-item, found-some, one-item, was-not}
use Rattle.redo_past.proofs.ItemLemmas.{IsItem, all-items, contained-item, item-contained, item-kept, kept-item, of-item}
use Rattle.redo_past.specs.inside.Books.{joined}
use Rattle.redo_past.proofs.JoinLemmas.{AreApart, AreSorted, item-of-built, item-of-old, joined-item, joined-sorted}
use Rattle.redo_past.proofs.OrderLemmas.{kept-sorted, same-list}
use Rattle.redo_mend.specs.Recovered.{IsRecovered, recovered_at, said_at}

abbrev pub key : Record → List ℕ
key r = r.target

-- the file at the target of a record is as the record says
abbrev pub is_as_said : Tree → Record → Bool
is_as_said tree r = is_intact (file_at tree) r

-- the records of the journal of which the file is as they say
abbrev pub said_of : Tree → List Record → List Record
said_of tree journal = filter (is_as_said tree) journal

-- and those of the old book of which it is, but for targets that the journal has such a record of
abbrev pub stays_of : Tree → List Record → Record → Bool
stays_of tree journal r = is_as_said tree r && not (is_some (record_at (said_of tree journal) r.target))

-- the recovered book
abbrev pub recovered : Tree → List Record → List Record → List Record
recovered tree journal old = joined (stays_of tree journal) (said_of tree journal) old

-- ---- files that are as a record says

same-state : (a b : State) → option_eq bytes_eq a b ≡ true → a ≡ b
same-state None None h = refl
same-state None (Some d) h = apart cc
same-state (Some c) None h = apart cc
same-state (Some c) (Some d) h = ap Some ((bytes_eq-Decides c d).0 h)

itself : (s : State) → option_eq bytes_eq s s ≡ true
itself None = refl
itself (Some d) = (bytes_eq-Decides d d).1 refl

pub said-same : (tree : Tree) (r : Record) → is_as_said tree r ≡ true → state_of (file_at tree r.target) ≡ r.state
said-same tree r h = same-state (state_of (file_at tree r.target)) r.state h

pub same-said : (tree : Tree) (r : Record) → state_of (file_at tree r.target) ≡ r.state → is_as_said tree r ≡ true
same-said tree r e =
    subst (λ s. option_eq bytes_eq (state_of (file_at tree r.target)) s ≡ true) e (itself (state_of (file_at tree r.target)))

-- ---- what is found

pub found-here : (book : List Record) (p : List ℕ) (r : Record) → AreSorted book → IsItem book r → r.target ≡ p → record_at book p ≡ Some r
found-here book p r s m e =
    (elim (record_at book p) as (λ o. record_at book p ≡ o → o ≡ Some r) [
      | None ↦ λ none.
          let bad : true ≡ false = sym (found-some key book p r m e) ∙ ap is_some none in
          apart cc
      | Some q ↦ λ some.
          let found = found-item key book p q some in
          ap Some (one-item key book q r s found.0 m (found.1 ∙ sym e))
    ]) refl

pub record Said (tree : Tree) (book : List Record) (p : List ℕ) (r : Record) : Type 0 where
  pub item : IsItem book r
  pub at : r.target ≡ p
  pub as_said : is_as_said tree r ≡ true

pub said-is : (tree : Tree) (book : List Record) (p : List ℕ) (r : Record) → said_at tree book p ≡ Some r → Said tree book p r
said-is tree book p r e =
    (elim (record_at book p) as (λ o. record_at book p ≡ o → option_and_then (λ (q : Record). if is_as_said tree q then Some q else None) o ≡ Some r → Said tree book p r) [
      | None ↦ λ none h. apart cc
      | Some q ↦ λ some h. elim (cases_Bool (is_as_said tree q)) [
        | inl t ↦
            let same : Some q ≡ Some r = rw t at h in
            let is : q ≡ r = cc in
            let found = found-item key book p q some in
            record {
              item = subst (IsItem book) is found.0;
              at = ap key (sym is) ∙ found.1;
              as_said = subst (λ x. is_as_said tree x ≡ true) is t;
            }
        | inr n ↦ let bad : None ≡ Some r = rw n at h in apart cc
      ]
    ]) refl e

pub said-found : (tree : Tree) (book : List Record) (p : List ℕ) (r : Record) → AreSorted book → Said tree book p r → said_at tree book p ≡ Some r
said-found tree book p r s h =
    let at : record_at book p ≡ Some r = found-here book p r s h.item h.at in
    let as_said = h.as_said in
    rw (at, as_said) refl

pub recovered-is : (tree : Tree) (journal old : List Record) (p : List ℕ) (r : Record) → recovered_at tree journal old p ≡ Some r → (said_at tree journal p ≡ Some r) ⊎ (said_at tree old p ≡ Some r)
recovered-is tree journal old p r e =
    (elim (said_at tree journal p) as (λ o. said_at tree journal p ≡ o → option_or o (said_at tree old p) ≡ Some r → (said_at tree journal p ≡ Some r) ⊎ (said_at tree old p ≡ Some r)) [
      | None ↦ λ none h. inr h
      | Some q ↦ λ some h. inl (some ∙ h)
    ]) refl e

-- where either book tells of the path, recovery has a record of it
pub recovered-some : (tree : Tree) (journal old : List Record) (p : List ℕ) (r : Record) → (said_at tree journal p ≡ Some r) ⊎ (said_at tree old p ≡ Some r) → (x : Record) × (recovered_at tree journal old p ≡ Some x)
recovered-some tree journal old p r e =
    (elim (said_at tree journal p) as (λ o. said_at tree journal p ≡ o → (x : Record) × (option_or o (said_at tree old p) ≡ Some x)) [
      | Some q ↦ λ some. (q, refl)
      | None ↦ λ none. elim e [
        | inl here ↦ let bad : None ≡ Some r = sym none ∙ here in apart cc
        | inr there ↦ (r, there)
      ]
    ]) refl

record-said : (tree : Tree) (book : List Record) (p : List ℕ) (r : Record) → said_at tree book p ≡ Some r → record_at book p ≡ Some r
record-said tree book p r e =
    (elim (record_at book p) as (λ o. option_and_then (λ (q : Record). if is_as_said tree q then Some q else None) o ≡ Some r → o ≡ Some r) [
      | None ↦ λ h. apart cc
      | Some q ↦ λ h. elim (cases_Bool (is_as_said tree q)) [
        | inl t ↦ rw t at h
        | inr n ↦ let bad : None ≡ Some r = rw n at h in apart cc
      ]
    ]) e

-- each of its records is one of the two books
pub from-both : (tree : Tree) (journal old : List Record) (p : List ℕ) (r : Record) → recovered_at tree journal old p ≡ Some r → (record_at journal p ≡ Some r) ⊎ (record_at old p ≡ Some r)
from-both tree journal old p r e = elim (recovered-is tree journal old p r e) [
  | inl here ↦ inl (record-said tree journal p r here)
  | inr there ↦ inr (record-said tree old p r there)
]

-- so what holds of each record of both holds of each of it
pub all-recovered : (P : Record → Type 0) (tree : Tree) (journal old book : List Record) → IsRecovered tree journal old book → All P journal → All P old → All P book
all-recovered P tree journal old book is here there =
    All-weaker (Contains book) P (λ r c.
    let at : record_at book r.target ≡ Some r = found-here book r.target r is.ordered.sorted (contained-item book r c) refl in
    elim (recovered-is tree journal old r.target r (sym (is.records r.target) ∙ at)) [
      | inl j ↦ All-contains P journal r here (item-contained journal r (said-is tree journal r.target r j).item)
      | inr o ↦ All-contains P old r there (item-contained old r (said-is tree old r.target r o).item)
    ]) book (All-contains_itself book)

-- ---- there is one

pub one-recovered : (tree : Tree) (journal old book other : List Record) → IsRecovered tree journal old book → IsRecovered tree journal old other → book ≡ other
one-recovered tree journal old book other is also =
    same-list key book other is.ordered.sorted also.ordered.sorted
    (λ r m. (found-item key other r.target r (also.records r.target ∙ sym (is.records r.target) ∙ found-here book r.target r is.ordered.sorted m refl)).0)
    (λ r m. (found-item key book r.target r (is.records r.target ∙ sym (also.records r.target) ∙ found-here other r.target r also.ordered.sorted m refl)).0)

module _ (tree : Tree) (journal old : List Record) (jb : IsBook journal) (ob : IsBook old) where
  abbrev said : List Record
  said = said_of tree journal

  abbrev stays : Record → Bool
  stays = stays_of tree journal

  abbrev all : List Record
  all = recovered tree journal old

  said-sorted : AreSorted said
  said-sorted = kept-sorted key (is_as_said tree) journal jb.sorted

  apart-both : AreApart stays said old
  apart-both b r m n k e =
      let kept = both (is_as_said tree r) (not (is_some (record_at said r.target))) k in
      let none : is_some (record_at said r.target) ≡ false = was-not (is_some (record_at said r.target)) kept.1 in
      let bad : true ≡ false = sym (found-some key said r.target b m (sym e)) ∙ none in
      apart cc

  all-sorted : AreSorted all
  all-sorted = joined-sorted stays said old said-sorted ob.sorted apart-both

  item-record : (r : Record) → IsItem all r → IsRecord r
  item-record r m = elim (joined-item stays said old r m) [
    | inl of ↦ of-item IsRecord journal r jb.records (kept-item (is_as_said tree) journal r of).0
    | inr kept ↦ of-item IsRecord old r ob.records kept.0
  ]

  -- whatever it has is said by one of the books
  item-said : (p : List ℕ) (r : Record) → IsItem all r → r.target ≡ p → (said_at tree journal p ≡ Some r) ⊎ (said_at tree old p ≡ Some r)
  item-said p r m e = elim (joined-item stays said old r m) [
    | inl of ↦
        let kept = kept-item (is_as_said tree) journal r of in
        inl (said-found tree journal p r jb.sorted (record { item = kept.0; at = e; as_said = kept.1 }))
    | inr kept ↦
        let first = both (is_as_said tree r) (not (is_some (record_at said r.target))) kept.1 in
        inr (said-found tree old p r ob.sorted (record { item = kept.0; at = e; as_said = first.0 }))
  ]

  -- where the journal says nothing of a path, no record that is kept of it is in the way
  none-said : (p : List ℕ) → said_at tree journal p ≡ None → is_some (record_at said p) ≡ false
  none-said p none =
      (elim (record_at said p) as (λ o. record_at said p ≡ o → is_some o ≡ false) [
        | None ↦ λ e. refl
        | Some x ↦ λ e.
            let found = found-item key said p x e in
            let kept = kept-item (is_as_said tree) journal x found.0 in
            let some = said-found tree journal p x jb.sorted (record { item = kept.0; at = found.1; as_said = kept.1 }) in
            let bad : None ≡ Some x = sym none ∙ some in
            apart cc
      ]) refl

  at-journal : (p : List ℕ) (r : Record) → said_at tree journal p ≡ Some r → record_at all p ≡ Some r
  at-journal p r e =
      let is = said-is tree journal p r e in
      found-here all p r all-sorted (item-of-built stays said old r (item-kept (is_as_said tree) journal r is.item is.as_said)) is.at

  at-old : (p : List ℕ) (r : Record) → said_at tree journal p ≡ None → said_at tree old p ≡ Some r → record_at all p ≡ Some r
  at-old p r none e =
      let is = said-is tree old p r e in
      let no : is_some (record_at said r.target) ≡ false = ap (λ q. is_some (record_at said q)) is.at ∙ none-said p none in
      let as_said = is.as_said in
      let keeps : stays r ≡ true = rw (as_said, no) refl in
      found-here all p r all-sorted (item-of-old stays said old r is.item keeps) is.at

  at-none : (p : List ℕ) → said_at tree journal p ≡ None → said_at tree old p ≡ None → record_at all p ≡ None
  at-none p none also =
      (elim (record_at all p) as (λ o. record_at all p ≡ o → o ≡ None) [
        | None ↦ λ e. refl
        | Some x ↦ λ e.
            let found = found-item key all p x e in
            elim (item-said p x found.0 found.1) [
              | inl here ↦ let bad : None ≡ Some x = sym none ∙ here in apart cc
              | inr there ↦ let bad : None ≡ Some x = sym also ∙ there in apart cc
            ]
      ]) refl

  at-each : (p : List ℕ) → record_at all p ≡ recovered_at tree journal old p
  at-each p =
      (elim (said_at tree journal p) as (λ o. said_at tree journal p ≡ o → record_at all p ≡ option_or o (said_at tree old p)) [
        | Some r ↦ λ e. at-journal p r e
        | None ↦ λ none. (elim (said_at tree old p) as (λ u. said_at tree old p ≡ u → record_at all p ≡ u) [
          | Some r ↦ λ e. at-old p r none e
          | None ↦ λ also. at-none p none also
        ]) refl
      ]) refl

  pub is-recovered : IsRecovered tree journal old (recovered tree journal old)
  is-recovered = record {
    ordered = record { records = all-items IsRecord all item-record; sorted = all-sorted };
    records = at-each;
  }
