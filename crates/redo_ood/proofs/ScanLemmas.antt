-- Lists that are gone through, item by item.
use Rattle.std.proofs.Common.{◌≡◌, ◌∙◌, ◌+◌, ◌<◌, ◌++◌, ℕ, zero, suc, Bool, true, false, List, [], ◌∷◌, Option}
use Rattle.std.proofs.Common.{Some, ap, arith, drop, length, map, not, refl, slice_get, slice_index_or, sym, take}
use Rattle.std.proofs.lemmas.List.{drop_more, map-append, take_more}
use Rattle.std.proofs.lemmas.Option.{slice_get-map, slice_get_read}
use Rattle.std.specs.Prelude.{option_map}
use Rattle.redo_book.specs.declared.book.BookEntry.{BookEntry}
use Rattle.redo_book.specs.declared.book.BookEntry.TheVariants.{Always}
use Rattle.redo_why.specs.OutOfDate.{drop_by}
use Rattle.redo_why.specs.Verdicts.{Mark, Holds, Drops, Unsure, Waits}
use Rattle.redo_ood.specs.inside.Lines.{drop_in, drops, holds, mark_in, open_by, open_in}
use Rattle.redo_ood.specs.inside.Verdicts.{Known}
use Rattle.redo_ood.specs.declared.verdicts.RowItem.{RowItem}

module _ {X : Type 0} where
  -- one more item
  pub taken : (xs : List X) (i : ℕ) (x : X) → i < length xs → x ≡ slice_index_or xs i x → take (i + 1) xs ≡ take i xs ++ x ∷ []
  taken xs i x below is = take_more xs i x below ∙ ap (λ y. take i xs ++ y ∷ []) (sym is)

  -- what stands at a place
  pub item-at : (xs : List X) (i : ℕ) → i < length xs → (x : X) × (x ≡ slice_index_or xs i x)
  item-at [] i below = absurd (omega arith)
  item-at (x ∷ xs) zero below = (x, refl)
  item-at (x ∷ xs) (suc i) below = item-at xs i (omega arith)

pub not-false : (b : Bool) → false ≡ not b → b ≡ true
not-false true h = refl
not-false false h = absurd (let bad : false ≡ true = h in cc)

module _ {X Y : Type 0} where
  pub mapped : (f : X → Y) (xs : List X) (i : ℕ) (x : X) → i < length xs → x ≡ slice_index_or xs i x →
      map f (take (i + 1) xs) ≡ map f (take i xs) ++ f x ∷ []
  mapped f xs i x below is = ap (map f) (taken xs i x below is) ∙ map-append f (take i xs) (x ∷ [])

module _ {X : Type 0} where
  -- what stands at a place is got there
  pub got : (xs : List X) (i : ℕ) (x : X) → i < length xs → x ≡ slice_index_or xs i x → slice_get xs i ≡ Some x
  got xs i x below is = slice_get_read xs (length xs) i x refl below is

  pub got-mapped : {Y : Type 0} (f : X → Y) (xs : List X) (i : ℕ) (x : X) → slice_get xs i ≡ Some x →
      slice_get (map f xs) i ≡ Some (f x)
  got-mapped {Y} f xs i x h = slice_get-map f xs i ∙ ap (option_map f) h

-- Entries

module _ (v : Known) (es : List BookEntry) (is : List RowItem) (i : ℕ) (other : RowItem) (same : length es ≡ length is)
    (below : i < length es) where
  abbrev item : RowItem
  item = slice_index_or is i other

  abbrev entry : BookEntry
  entry = slice_index_or es i Always

  -- the next entry with its item, and those behind
  next : {X : Type 0} (of : List BookEntry → List RowItem → X) →
      of (drop i es) (drop i is) ≡ of (entry ∷ drop (i + 1) es) (item ∷ drop (i + 1) is)
  next of =
      let within : i < length is = omega (arith, same, below) in
      ap (λ xs. of xs (drop i is)) (drop_more es i Always below)
      ∙ ap (λ ys. of (entry ∷ drop (i + 1) es) ys) (drop_more is i other within)

  -- an entry that holds is passed over
  pub open-more : holds (mark_in v item) ≡ true →
      open_in v (drop i es) (drop i is) ≡ open_in v (drop (i + 1) es) (drop (i + 1) is)
  open-more is-held = next (open_in v) ∙ passed entry (mark_in v item) (open_in v (drop (i + 1) es) (drop (i + 1) is)) is-held
    where
      passed : (e : BookEntry) (m : Mark) (rest : Option (BookEntry × Mark)) → holds m ≡ true → open_by e m rest ≡ rest
      passed e Holds rest h = refl
      passed e Drops rest h = absurd (let bad : false ≡ true = h in cc)
      passed e Unsure rest h = absurd (let bad : false ≡ true = h in cc)
      passed e Waits rest h = absurd (let bad : false ≡ true = h in cc)

  -- and one that doesn't drop
  pub drop-more : drops (mark_in v item) ≡ false →
      drop_in v (drop i es) (drop i is) ≡ drop_in v (drop (i + 1) es) (drop (i + 1) is)
  drop-more is-kept = next (drop_in v) ∙ passed entry (mark_in v item) (drop_in v (drop (i + 1) es) (drop (i + 1) is)) is-kept
    where
      passed : (e : BookEntry) (m : Mark) (rest : Option BookEntry) → drops m ≡ false → drop_by e m rest ≡ rest
      passed e Holds rest h = refl
      passed e Drops rest h = absurd (let bad : true ≡ false = h in cc)
      passed e Unsure rest h = refl
      passed e Waits rest h = refl
