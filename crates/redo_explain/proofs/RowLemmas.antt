-- The rows of a report, found by their paths.
use Rattle.std.proofs.Common.{◌≡◌, ◌∙◌, ℕ, suc, ◌<◌, false, inl, inr, List, [], ◌∷◌, Some, None, All}
use Rattle.std.proofs.Common.{ap, arith, length, map, refl, sym, slice_index_or, unwrap_or}
use Rattle.std.proofs.lemmas.Bool.{cases_lt}
use Rattle.std.proofs.lemmas.Map.Text.{is_eq-slice_cmp}
use Rattle.std.specs.Cmp.Lexicographic.{nat_list_cmp_total, slice_cmp}
use Rattle.std.specs.List.Sorted.{IsBinarySearchResult, IsStrictlySortedBy}
use Rattle.std.specs.Ordering.{is_eq, nat_cmp, ordering_reverse}
use Rattle.std.specs.Prelude.{Err, option_map}
use Rattle.std.specs.Str.{bytes_eq}
use Rattle.std.specs.declared.cmp.Ordering.TheVariants.{Less, Equal, Greater}
use Rattle.redo_record.specs.declared.outcome.Outcome.TheVariants.{Cyclic}
use Rattle.redo_report.specs.declared.report.Row.{Row}
use Rattle.redo_past.specs.NewBook.{row_at}
use Rattle.redo_past.proofs.OrderLemmas.{ascending-sorted, order}
use Rattle.redo_past.proofs.RowLemmas.{rising, was-found}
use Rattle.redo_explain.specs.inside.Told.{AreRows, told_by}

sorted-rows : (rows : List Row) → AreRows rows →
    IsStrictlySortedBy (slice_cmp nat_cmp) (map (λ row. row.path) rows)
sorted-rows rows in_order = ascending-sorted (map (λ (row : Row). row.path) rows) in_order

-- the row at a place is that of its path
pub row-there : (rows : List Row) (path : List ℕ) (n : ℕ) (d : Row) → AreRows rows → n < length rows →
    order (slice_index_or rows n d).path path ≡ Equal → row_at rows path ≡ Some (slice_index_or rows n d)
row-there rows path n d in_order within same =
    was-found (λ (r : Row). r.path) rows path n d (sorted-rows rows in_order) same within

none-there : (rows : List Row) (path : List ℕ) →
    ((k : ℕ) (d : Row) → k < length rows → bytes_eq (slice_index_or rows k d).path path ≡ false) →
    row_at rows path ≡ None
none-there [] path other = refl
none-there (row ∷ rows) path other =
    rw (other 0 row (omega arith)) (none-there rows path (λ k d below. other (suc k) d (omega arith)))

-- where a search finds no place there is no row
pub no-row : (rows : List Row) (path : List ℕ) (n : ℕ) → AreRows rows →
    IsBinarySearchResult (λ row. slice_cmp nat_cmp row.path path) rows (Err n) → row_at rows path ≡ None
no-row rows path n in_order searched =
    let both = searched (rising (λ (r : Row). r.path) path rows (sorted-rows rows in_order)) in
    none-there rows path (λ k d below. elim (cases_lt k n) [
      | inl before ↦
          sym (is_eq-slice_cmp (slice_index_or rows k d).path path) ∙ ap is_eq (both.0 k d (omega arith) before)
      | inr behind ↦
          sym (is_eq-slice_cmp (slice_index_or rows k d).path path) ∙ ap is_eq (both.1 k d (omega arith) below)
    ])

same-order : (path : List ℕ) → order path path ≡ Equal
same-order path = elim (order path path) as (λ o. o ≡ ordering_reverse o → o ≡ Equal) [
  | Less ↦ λ e. cc
  | Equal ↦ λ e. refl
  | Greater ↦ λ e. cc
] (nat_list_cmp_total.antisymm path path)

-- what the rows tell of the path of each of them is its outcome
pub rows-tell : (rows : List Row) → AreRows rows → All (λ row. told_by rows row.path ≡ Some row.outcome) rows
rows-tell rows in_order k d within =
    let path = (slice_index_or rows k d).path in
    ap (λ o. Some (unwrap_or (option_map (λ (row : Row). row.outcome) o) Cyclic))
    (row-there rows path k d in_order within (same-order path))
