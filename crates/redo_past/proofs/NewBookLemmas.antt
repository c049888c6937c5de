-- The new book has the records of the targets that were built and those that are carried, in order.
use Rattle.std.proofs.Common.{◌≡◌, ◌≢◌, ◌&&◌, true, false, not, inl, inr, ℕ, List, [], ◌∷◌}
use Rattle.std.proofs.Common.{Some, map, refl, sym, ap, ◌∙◌}
use Rattle.std.proofs.lemmas.Option.{cond_some}
use Rattle.std.specs.Cmp.Lexicographic.{slice_cmp}
use Rattle.std.specs.List.{AllByRecursion}
use Rattle.std.specs.List.Sorted.{IsStrictlySortedBy}
use Rattle.std.specs.Ordering.{nat_cmp}
use Rattle.redo_path.proofs.ApartLemmas.{apart}
use Rattle.redo_tree.specs.Tree.{Tree}
use Rattle.redo_which.specs.Rule.{found_of, is_rule}
use Rattle.redo_book.specs.Book.{IsBook, IsRecord, Record}
use Rattle.redo_report.specs.declared.report.Row.{Row}
use Rattle.redo_book.specs.Noted.{is_top}
use Rattle.redo_past.specs.NewBook.{IsCarried, IsNewBook, IsOfRow, is_built, record_of_row}
use Rattle.redo_past.specs.Past.{IsPast, PastView}
use Rattle.redo_which.specs.Candidates.{book_path}
use Rattle.redo_past.specs.inside.Books.{AreRows, built_records, carries, leaves_record, new_records, record_if_built}
use Rattle.redo_past.proofs.CarryLemmas.{Without, both, carried, carries-it, was-not}
use Rattle.redo_past.proofs.ItemLemmas.{IsItem, contained-item, item-contained, item-made, made-item}
use Rattle.redo_past.proofs.JoinLemmas.{AreApart, AreSorted, item-of-built, item-of-old, joined-item, joined-sorted}
use Rattle.redo_past.proofs.OrderLemmas.{ascending-sorted, made-sorted}
use Rattle.redo_past.proofs.PastLemmas.{past_book}

-- ---- records of targets that were built

not-top : (p : List ℕ) → p ≢ [] → is_top p ≡ false
not-top [] n = absurd (n refl)
not-top (byte ∷ bytes) n = refl

pub below : (p : List ℕ) → not (is_top p) ≡ true → p ≢ []
below p h e = let bad : true ≡ false = sym (ap is_top e) ∙ was-not (is_top p) h in apart cc

-- a row that leaves a record is below the top directory
pub leaves-below : (row : Row) → leaves_record row ≡ true → row.path ≢ []
leaves-below row h = below row.path (both (is_built row.outcome) (not (is_top row.path)) h).1

pub leaves-built : (row : Row) → leaves_record row ≡ true → is_built row.outcome ≡ true
leaves-built row h = (both (is_built row.outcome) (not (is_top row.path)) h).0

module _ (sources : Tree) (rows : List Row) where
  pub if-built : (row : Row) (r : Record) → record_if_built sources rows row ≡ Some r → (is_built row.outcome ≡ true) × (row.path ≢ []) × (record_of_row sources rows row ≡ r)
  if-built row r h =
      let parts = cond_some (is_built row.outcome && not (is_top row.path)) (record_of_row sources rows row) r h in
      let each = both (is_built row.outcome) (not (is_top row.path)) parts.0 in
      (each.0, below row.path each.1, parts.1)

  pub built-so : (row : Row) → is_built row.outcome ≡ true → row.path ≢ [] → record_if_built sources rows row ≡ Some (record_of_row sources rows row)
  built-so row built place = rw (built, not-top row.path place) refl

  row-item : (r : Record) → IsOfRow sources rows r → IsItem (built_records sources rows) r
  row-item r o =
      item-made (record_if_built sources rows) rows o.row r (contained-item rows o.row o.listed) (built-so o.row o.built o.below ∙ ap Some (sym o.is))

  item-row : (r : Record) → IsItem (built_records sources rows) r → IsOfRow sources rows r
  item-row r m =
      let made = made-item (record_if_built sources rows) rows r m in
      let parts = if-built made.0 r made.2 in
      record { row = made.0; listed = item-contained rows made.0 made.1; built = parts.0; below = parts.1; is = sym parts.2 }

  targets-kept : (row : Row) (r : Record) → record_if_built sources rows row ≡ Some r → r.target ≡ row.path
  targets-kept row r h = let parts = if-built row r h in ap (λ (q : Record). q.target) (sym parts.2)

module _ (past : PastView) (rows : List Row) (is : IsPast past) (ascending : AreRows rows) (law : Without past) (no-rule : (tree : Tree) → is_rule (found_of tree book_path) ≡ false) where
  old : IsBook past.book
  old = past_book past is

  rising : IsStrictlySortedBy (slice_cmp nat_cmp) (map (λ (row : Row). row.path) rows)
  rising = ascending-sorted (map (λ (row : Row). row.path) rows) ascending

  carried-item : (r : Record) → IsItem past.book r → carries past rows r ≡ true → IsCarried past rows r
  carried-item r m k = carried past rows r is old.sorted law no-rule rising m k

  -- no target is of both
  two-kinds : AreApart (carries past rows) (built_records past.sources rows) past.book
  two-kinds b r m n k same =
      let of = item-row past.sources rows b m in
      let c = carried-item r n k in
      let path : of.row.path ≡ r.target = sym (ap (λ (q : Record). q.target) of.is) ∙ sym same in
      let bad : true ≡ false = sym of.built ∙ c.unbuilt of.row of.listed path in
      apart cc

  in-order : AreSorted (new_records past rows)
  in-order =
      joined-sorted (carries past rows) (built_records past.sources rows) past.book
      (made-sorted (λ (row : Row). row.path) (λ (r : Record). r.target) (record_if_built past.sources rows) (targets-kept past.sources rows) rows rising)
      old.sorted two-kinds

  -- the records that are written are those of the new book
  pub new-book : AllByRecursion IsRecord (new_records past rows) → IsNewBook past rows (new_records past rows)
  new-book each = record {
    ordered = record { records = each; sorted = in-order };
    records = λ r. (
      (λ c. elim (joined-item (carries past rows) (built_records past.sources rows) past.book r (contained-item (new_records past rows) r c)) [
        | inl of ↦ inl (item-row past.sources rows r of)
        | inr kept ↦ inr (carried-item r kept.0 kept.1)
      ]),
      (λ h. item-contained (new_records past rows) r (elim h [
        | inl of ↦ item-of-built (carries past rows) (built_records past.sources rows) past.book r (row-item past.sources rows r of)
        | inr c ↦ item-of-old (carries past rows) (built_records past.sources rows) past.book r (contained-item past.book r c.known) (carries-it past rows r rising c)
      ])),
    );
  }
