-- Items of the new book, and the records that are made of them.
use Rattle.std.proofs.Common.{◌≡◌, ◌∙◌, ◌<◌, ◌+◌, ◌&&◌, ℕ, zero, suc, Bool, true, false, not, List, [], ◌∷◌, ◌++◌, ap, append-nil, append_assoc, arith, drop, length}
use Rattle.std.proofs.Common.{map, refl, slice_index_or, subst, sym, take}
use Rattle.std.proofs.lemmas.Grind.{flat_map-append}
use Rattle.std.proofs.lemmas.List.{length-append, map-append, take_more}
use Rattle.std.specs.Cmp.Lexicographic.{nat_list_cmp_total}
use Rattle.std.specs.List.{AllByRecursion, insert}
use Rattle.std.specs.Ordering.{ordering_reverse}
use Rattle.std.specs.declared.cmp.Ordering.{Ordering}
use Rattle.std.specs.declared.cmp.Ordering.TheVariants.{Less, Equal, Greater}
use Rattle.std.specs.Prelude.{Some, codes, flat_map, is_some}
use Rattle.redo_tree.specs.Tree.{file_at}
use Rattle.redo_which.specs.Rule.{found_of, is_rule}
use Rattle.redo_path.proofs.PartLemmas.{AllByRecursion-append}
use Rattle.redo_path.proofs.ApartLemmas.{apart}
use Rattle.redo_report.specs.declared.report.Row.{Row}
use Rattle.redo_book.specs.Book.{Record, book_lines, text_of}
use Rattle.redo_past.specs.declared.items.BookItem.{BookItem}
use Rattle.redo_past.specs.NewBook.{is_built, row_at}
use Rattle.redo_past.specs.Past.{PastView}
use Rattle.redo_past.specs.inside.Books.{AreItems, AreRows, IsSound, StatesView, carries, has_built, item_text, record_in, record_text}
use Rattle.redo_past.specs.inside.Books.{same_answer}
use Rattle.redo_past.proofs.OldLemmas.{book-text}
use Rattle.redo_past.proofs.OrderLemmas.{ascending-sorted, order}
use Rattle.redo_past.proofs.RowLemmas.{was-found}

-- an item more is a record more
pub item-more : (states : StatesView) (list : List BookItem) (records : List Record) (item : BookItem) (r : Record) → AreItems states list records → record_in states item ≡ r → IsSound item → AreItems states (list ++ item ∷ []) (records ++ r ∷ [])
item-more states list records item r h is sound = record {
  are = map-append (record_in states) list (item ∷ []) ∙ ap (λ rs. rs ++ record_in states item ∷ []) h.are ∙ ap (λ q. records ++ q ∷ []) is;
  sound = AllByRecursion-append IsSound list (item ∷ []) h.sound (sound, tt);
}

-- and so where it is put behind the others
pub item-pushed : (states : StatesView) (list new : List BookItem) (records all : List Record) (item : BookItem) (r : Record) → new ≡ list ++ item ∷ [] → AreItems states list records → record_in states item ≡ r → IsSound item → records ++ r ∷ [] ≡ all → AreItems states new all
item-pushed states list new records all item r pushed h is sound same =
    subst (λ xs. AreItems states xs all) (sym pushed) (subst (AreItems states (list ++ item ∷ [])) same (item-more states list records item r h is sound))

same-texts : (states : StatesView) (list : List BookItem) → flat_map record_text (map (record_in states) list) ≡ flat_map (item_text states) list
same-texts states [] = refl
same-texts states (item ∷ list) = ap (λ t. item_text states item ++ t) (same-texts states list)

-- the text of the book of these records is that of the items, one after another, and the end
pub items-text : (states : StatesView) (list : List BookItem) → text_of (book_lines (map (record_in states) list)) ≡ flat_map (item_text states) list ++ codes "end\n"
items-text states list = book-text (map (record_in states) list) ∙ ap (λ t. t ++ codes "end\n") (same-texts states list)

-- ---- one item more

-- what holds of all holds of each
pub all-at : {X : Type 0} (P : X → Type 0) (xs : List X) (i : ℕ) (x : X) → AllByRecursion P xs → i < length xs → x ≡ slice_index_or xs i x → P x
all-at P [] i x h l is = absurd (omega (arith, l))
all-at P (y ∷ ys) zero x h l is = subst P (sym is) h.0
all-at P (y ∷ ys) (suc i) x h l is = all-at P ys i x h.1 (omega (arith, l)) is

pub items-more : {X : Type 0} (f : X → List ℕ) (xs : List X) (i : ℕ) (x : X) → i < length xs → x ≡ slice_index_or xs i x →
    length (flat_map f (take i xs)) + length (f x) ≡ length (flat_map f (take (i + 1) xs))
items-more f xs i x below is =
    sym (ap (λ ys. length (flat_map f ys)) (take_more xs i x below)
    ∙ ap length (flat_map-append f (take i xs) (slice_index_or xs i x ∷ []))
    ∙ length-append (flat_map f (take i xs)) (f (slice_index_or xs i x) ++ [])
    ∙ ap (λ t. length (flat_map f (take i xs)) + length t) (append-nil (f (slice_index_or xs i x)) ∙ ap f (sym is)))

pub records-more : {X Y : Type 0} (P : Y → Type 0) (f : X → Y) (xs : List X) (i : ℕ) (x : X) → i < length xs → x ≡ slice_index_or xs i x →
    AllByRecursion P (map f (take i xs)) → P (f x) → AllByRecursion P (map f (take (i + 1) xs))
records-more P f xs i x below is h k =
    subst (AllByRecursion P) (sym (ap (map f) (take_more xs i x below) ∙ map-append f (take i xs) (slice_index_or xs i x ∷ [])))
    (AllByRecursion-append P (map f (take i xs)) (f (slice_index_or xs i x) ∷ []) h (subst (λ y. P (f y)) is k, tt))

-- a file that was put among others
pub insert-parts : {X : Type 0} (f : X → List ℕ) (xs : List X) (i : ℕ) (x : X) →
    flat_map f (insert xs i x) ≡ (flat_map f (take i xs) ++ f x) ++ flat_map f (drop i xs)
insert-parts f xs i x =
    flat_map-append f (take i xs) (x ∷ drop i xs) ∙ sym (append_assoc (flat_map f (take i xs)) (f x) (flat_map f (drop i xs)))

-- ---- what was built is no old record that is carried

alike : (p : List ℕ) → order p p ≡ Equal
alike p = turned (order p p) (nat_list_cmp_total.antisymm p p)
  where
    turned : (o : Ordering) → o ≡ ordering_reverse o → o ≡ Equal
    turned Less h = apart cc
    turned Equal h = refl
    turned Greater h = apart cc

neither : (a b c : Bool) → b ≡ true → (a && (not b && c)) ≡ false
neither true b c h = rw h refl
neither false b c h = refl

pub not-carried : (past : PastView) (rows : List Row) (i : ℕ) (x : Row) (r : Record) → AreRows rows → i < length rows → x ≡ slice_index_or rows i x → is_built x.outcome ≡ true → r.target ≡ x.path → carries past rows r ≡ false
not-carried past rows i x r ascending below is built same =
    let sorted = ascending-sorted (map (λ (row : Row). row.path) rows) ascending in
    let here : order (slice_index_or rows i x).path x.path ≡ Equal = subst (λ (y : Row). order y.path x.path ≡ Equal) is (alike x.path) in
    let row : row_at rows r.target ≡ Some x = ap (row_at rows) same ∙ was-found (λ (row : Row). row.path) rows x.path i x sorted here below ∙ ap Some (sym is) in
    neither (same_answer (is_some r.state) (is_some (file_at past.tree r.target))) (has_built (row_at rows r.target)) (is_rule (found_of past.sources r.target)) (ap has_built row ∙ built)
