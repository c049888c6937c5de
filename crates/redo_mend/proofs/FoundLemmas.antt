-- Records that are put into a map by the paths of their targets.
use Rattle.std.proofs.Common.{Bor, Bool, true, false, cond, List, [], ◌∷◌, Option, Some, None, map, refl, ap, sym, subst, ◌∙◌, ◌≡◌, ℕ}
use Rattle.std.proofs.Common.{inl, inr, ◌++◌, append_assoc}
use Rattle.std.proofs.lemmas.Grind.{flat_map-append}
use Rattle.std.proofs.lemmas.Bool.{cases_Bool}
use Rattle.std.proofs.lemmas.Map.Text.{is_eq-slice_cmp}
use Rattle.std.specs.BTreeMap.{insert_entry, is_at}
use Rattle.std.specs.Cmp.Lexicographic.{nat_list_cmp_total, nat_list_eq_equiv, same_text, slice_cmp, texts_ties}
use Rattle.std.specs.FinMap.Entries.{by_order, find-put, put}
use Rattle.std.specs.List.{AllByRecursion}
use Rattle.std.specs.List.Sorted.{IsStrictlySortedBy}
use Rattle.std.specs.Map.{keys_of, lookup, values_of}
use Rattle.std.specs.Option.{option_or}
use Rattle.std.specs.Ordering.{is_eq, match_ordering, nat_cmp}
use Rattle.std.specs.Prelude.{codes, find, flat_map, if◌then◌else◌, option_and_then}
use Rattle.std.specs.Str.{bytes_eq}
use Rattle.std.specs.declared.cmp.Ordering.TheVariants.{Less, Equal, Greater}
use Rattle.redo_path.proofs.ApartLemmas.{apart}
use Rattle.redo_tree.specs.Tree.{Tree, file_at}
use Rattle.redo_book.specs.declared.book.BookRecord.{BookRecord}
use Rattle.redo_book.specs.Book.{IsBook, IsRecord, Record, book_lines, record_at, record_lines, record_of, targets_of, text_of}
use Rattle.redo_book.specs.Intact.{is_intact}
use Rattle.redo_past.proofs.JoinLemmas.{rest-book}
use Rattle.redo_past.proofs.OrderLemmas.{IsBefore, order, other_path, same_order, same_path}
use Rattle.redo_mend.specs.Recovered.{IsRecovered, said_at}
use Rattle.redo_mend.specs.inside.Found.{AreFound, found_at}

-- the map's entries, as contracts see them
abbrev pub seen : List (Bor (List ℕ) × Bor BookRecord) → List (List ℕ × Record)
seen es = map (λ e. (e.0.now, record_of e.1.now)) es

pub seen-insert : (es : List (Bor (List ℕ) × Bor BookRecord)) (path : Bor (List ℕ)) (made : Bor BookRecord) → seen (insert_entry (λ x y. slice_cmp nat_cmp x.now y.now) es path made) ≡ insert_entry (slice_cmp nat_cmp) (seen es) path.now (record_of made.now)
seen-insert [] path made = refl
seen-insert (e ∷ es) path made =
    elim (slice_cmp nat_cmp path.now e.0.now) as (λ o.
    seen (match_ordering {X = List (Bor (List ℕ) × Bor BookRecord)} o ((path, made) ∷ e ∷ es) ((e.0, made) ∷ es) (e ∷ insert_entry (λ x y. slice_cmp nat_cmp x.now y.now) es path made))
    ≡ match_ordering {X = List (List ℕ × Record)} o ((path.now, record_of made.now) ∷ seen (e ∷ es)) ((e.0.now, record_of made.now) ∷ seen es) ((e.0.now, record_of e.1.now) ∷ insert_entry (slice_cmp nat_cmp) (seen es) path.now (record_of made.now))) [
      | Less ↦ refl
      | Equal ↦ refl
      | Greater ↦ ap (λ rest. (e.0.now, record_of e.1.now) ∷ rest) (seen-insert es path made)
    ]

-- keys in order stay so where they are seen
pub seen-sorted : (es : List (Bor (List ℕ) × Bor BookRecord)) → IsStrictlySortedBy (λ x y. slice_cmp nat_cmp x.now y.now) (keys_of es) → IsStrictlySortedBy (slice_cmp nat_cmp) (keys_of (seen es))
unfolding IsStrictlySortedBy
seen-sorted [] h = tt
seen-sorted (e ∷ es) h = (before e es h.0, seen-sorted es h.1)
  where
    before : (e : Bor (List ℕ) × Bor BookRecord) (es : List (Bor (List ℕ) × Bor BookRecord)) → AllByRecursion (λ k. slice_cmp nat_cmp e.0.now k.now ≡ Less) (keys_of es) → AllByRecursion (λ k. slice_cmp nat_cmp e.0.now k ≡ Less) (keys_of (seen es))
    before e [] h = tt
    before e (x ∷ xs) h = (h.0, before e xs h.1)

-- the library's insertion into a sorted list, with its arguments in another order
placed : (es : List (List ℕ × Record)) (path : List ℕ) (r : Record) → insert_entry (slice_cmp nat_cmp) es path r ≡ put (slice_cmp nat_cmp) path r es
placed [] path r = refl
placed (e ∷ es) path r =
    ap (λ rest. match_ordering {X = List (List ℕ × Record)} (slice_cmp nat_cmp path e.0) ((path, r) ∷ e ∷ es) ((e.0, r) ∷ es) (e ∷ rest)) (placed es path r)
    ∙ elim (slice_cmp nat_cmp path e.0) as (λ o. match_ordering {X = List (List ℕ × Record)} o ((path, r) ∷ e ∷ es) ((e.0, r) ∷ es) (e ∷ put (slice_cmp nat_cmp) path r es) ≡ by_order {A = List (List ℕ × Record)} o ((path, r) ∷ e ∷ es) ((e.0, r) ∷ es) (e ∷ put (slice_cmp nat_cmp) path r es)) [
      | Less ↦ refl
      | Equal ↦ refl
      | Greater ↦ refl
    ]

-- what is found after one more is put in
pub found-put : (es : List (List ℕ × Record)) (path : List ℕ) (r : Record) (p : List ℕ) → found_at (insert_entry (slice_cmp nat_cmp) es path r) p ≡ cond (bytes_eq path p) (Some r) (found_at es p)
found-put es path r p =
    ap (λ t. found_at t p) (placed es path r)
    ∙ find-put (slice_cmp nat_cmp) nat_list_cmp_total p path r es
    ∙ ap (λ b. cond b (Some r) (found_at es p)) (sym (texts_ties p path) ∙ nat_list_eq_equiv.symm p path)

-- each is still at its target's path
pub found-more : (es : List (List ℕ × Record)) (r : Record) → AreFound es → IsRecord r → AreFound (insert_entry (slice_cmp nat_cmp) es r.target r)
found-more [] r h is = ((refl, is), tt)
found-more (e ∷ es) r h is =
    elim (slice_cmp nat_cmp r.target e.0) as (λ o. slice_cmp nat_cmp r.target e.0 ≡ o → AreFound (match_ordering {X = List (List ℕ × Record)} o ((r.target, r) ∷ e ∷ es) ((e.0, r) ∷ es) (e ∷ insert_entry (slice_cmp nat_cmp) es r.target r))) [
      | Less ↦ λ o. ((refl, is), h)
      | Equal ↦ λ o. ((same_order r.target e.0 o, is), h.1)
      | Greater ↦ λ o. (h.0, found-more es r h.1 is)
    ] refl

-- ---- one record more of a book

absent : (p : List ℕ) (rs : List Record) → IsBefore p (targets_of rs) → record_at rs p ≡ None
absent p [] h = refl
absent p (r ∷ rs) h =
    let other : bytes_eq r.target p ≡ false = nat_list_eq_equiv.symm r.target p ∙ other_path p r.target h.0 in
    rw other (absent p rs h.1)

-- what is said by the records that are left, over the map, is the same after one of them was passed
pub passed : (tree : Tree) (r : Record) (rs : List Record) (es new : List (List ℕ × Record)) (b : Bool) → IsBefore r.target (targets_of rs) → is_intact (file_at tree) r ≡ b → new ≡ cond b (insert_entry (slice_cmp nat_cmp) es r.target r) es →
    (p : List ℕ) → option_or (said_at tree rs p) (found_at new p) ≡ option_or (said_at tree (r ∷ rs) p) (found_at es p)
passed tree r rs es new b before told is p = elim (cases_Bool (bytes_eq r.target p)) [
  | inl here ↦
      let same : r.target ≡ p = same_path r.target p here in
      let none : record_at rs p ≡ None = ap (record_at rs) (sym same) ∙ absent r.target rs before in
      (elim b as (λ x. is_intact (file_at tree) r ≡ x → new ≡ cond x (insert_entry (slice_cmp nat_cmp) es r.target r) es → option_or (said_at tree rs p) (found_at new p) ≡ option_or (said_at tree (r ∷ rs) p) (found_at es p)) [
        | true ↦ λ t n.
            let found : found_at new p ≡ Some r = ap (λ l. found_at l p) n ∙ found-put es r.target r p ∙ ap (λ c. cond c (Some r) (found_at es p)) here in
            rw (none, found, here, t) refl
        | false ↦ λ t n. rw (none, n, here, t) refl
      ]) told is
  | inr other ↦
      let found : found_at new p ≡ found_at es p =
      ap (λ l. found_at l p) is
      ∙ (elim b as (λ x. found_at (cond x (insert_entry (slice_cmp nat_cmp) es r.target r) es) p ≡ found_at es p) [
        | true ↦ found-put es r.target r p ∙ ap (λ c. cond c (Some r) (found_at es p)) other
        | false ↦ refl
      ]) in
      rw (found, other) refl
]

-- a book's first record stands before the others
head-before : (r : Record) (rs : List Record) → IsBook (r ∷ rs) → IsBefore r.target (targets_of rs)
unfolding IsStrictlySortedBy
head-before r rs h = h.sorted.0

-- so where it is put in if the file is as it says
pub step : (tree : Tree) (r : Record) (rs : List Record) (es new : List (List ℕ × Record)) (b : Bool) (all : List ℕ → Option Record) → IsBook (r ∷ rs) → AreFound es → is_intact (file_at tree) r ≡ b → new ≡ cond b (insert_entry (slice_cmp nat_cmp) es r.target r) es →
    ((p : List ℕ) → option_or (said_at tree (r ∷ rs) p) (found_at es p) ≡ all p) →
    AreFound new × (IsBook rs × ((p : List ℕ) → option_or (said_at tree rs p) (found_at new p) ≡ all p))
step tree r rs es new b all book are told is was = (
  subst AreFound (sym is) (put-found b),
  (rest-book r rs book, λ p. passed tree r rs es new b (head-before r rs book) told is p ∙ was p),
)
  where
    put-found : (c : Bool) → AreFound (cond c (insert_entry (slice_cmp nat_cmp) es r.target r) es)
    put-found true = found-more es r are book.records.0
    put-found false = are

-- ---- the book of all

targets-found : (es : List (List ℕ × Record)) → AreFound es → targets_of (values_of es) ≡ keys_of es
targets-found [] h = refl
targets-found (e ∷ es) h = λ i. h.0.0 i ∷ targets-found es h.1 i

records-found : (es : List (List ℕ × Record)) → AreFound es → AllByRecursion IsRecord (values_of es)
records-found [] h = tt
records-found (e ∷ es) h = (h.0.1, records-found es h.1)

pub book-found : (es : List (List ℕ × Record)) → AreFound es → IsStrictlySortedBy (slice_cmp nat_cmp) (keys_of es) → IsBook (values_of es)
book-found es h sorted = record {
  records = records-found es h;
  sorted = subst (IsStrictlySortedBy (slice_cmp nat_cmp)) (sym (targets-found es h)) sorted;
}

pub at-found : (es : List (List ℕ × Record)) (p : List ℕ) → AreFound es → record_at (values_of es) p ≡ found_at es p
at-found [] p h = refl
at-found (e ∷ es) p h =
    let test : bytes_eq e.1.target p ≡ is_eq (slice_cmp nat_cmp p e.0) =
    ap (λ q. bytes_eq q p) h.0.0 ∙ nat_list_eq_equiv.symm e.0 p ∙ sym (is_eq-slice_cmp p e.0) in
    ap (λ b. cond b (Some e.1) (record_at (values_of es) p)) test
    ∙ ap (λ o. cond (is_eq (slice_cmp nat_cmp p e.0)) (Some e.1) o) (at-found es p h.1)

-- the records of the entries that are seen
pub values-seen : (es : List (Bor (List ℕ) × Bor BookRecord)) → values_of (seen es) ≡ map (λ r. record_of r.now) (values_of es)
values-seen [] = refl
values-seen (e ∷ es) = ap (λ rs. record_of e.1.now ∷ rs) (values-seen es)

or-none : (o : Option Record) → option_or o None ≡ o
or-none None = refl
or-none (Some r) = refl

-- where the journal's records are put in after the old book's, the book of all is the recovered one
pub recovered-all : (tree : Tree) (journal old : List Record) (one two : List (Bor (List ℕ) × Bor BookRecord)) → AreFound (seen two) → IsStrictlySortedBy (λ x y. slice_cmp nat_cmp x.now y.now) (keys_of two) →
    ((p : List ℕ) → found_at (seen one) p ≡ option_or (said_at tree old p) None) →
    ((p : List ℕ) → found_at (seen two) p ≡ option_or (said_at tree journal p) (found_at (seen one) p)) →
    IsRecovered tree journal old (map (λ r. record_of r.now) (values_of two))
recovered-all tree journal old one two are sorted first second = subst (IsRecovered tree journal old) (values-seen two) (record {
  ordered = book-found (seen two) are (seen-sorted two sorted);
  records = λ p. at-found (seen two) p are ∙ second p ∙ ap (option_or (said_at tree journal p)) (first p ∙ or-none (said_at tree old p));
})

-- ---- their text

-- the text of a record
abbrev pub record_text : Bor BookRecord → List ℕ
record_text r = text_of (record_lines (record_of r.now))

-- the text of a book is that of its records, one after another, and the end
pub records-text : (rs : List (Bor BookRecord)) → text_of (book_lines (map (λ r. record_of r.now) rs)) ≡ flat_map record_text rs ++ codes "end\n"
records-text [] = refl
records-text (r ∷ rs) =
    let lines = flat_map record_lines (map (λ (x : Bor BookRecord). record_of x.now) rs) in
    ap text_of (append_assoc (record_lines (record_of r.now)) lines (codes "end" ∷ []))
    ∙ flat_map-append (λ line. line ++ 10 ∷ []) (record_lines (record_of r.now)) (lines ++ codes "end" ∷ [])
    ∙ ap (λ t. record_text r ++ t) (records-text rs)
    ∙ sym (append_assoc (record_text r) (flat_map record_text rs) (codes "end\n"))
