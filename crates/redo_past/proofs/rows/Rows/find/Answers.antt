use Rattle.std.proofs.Common.{◌≡◌, ◌∙◌, ◌<◌, List, None, Some, ap, length, map, refl, slice_get, subst, sym}
use Rattle.std.proofs.lemmas.List.{length-map}
use Rattle.std.proofs.lemmas.Option.{slice_get_read, slice_get_within}
use Rattle.redo_names.specs.Paths.{IsAmong}
use Rattle.redo_report.specs.declared.report.Row.{Row}
use Rattle.redo_past.specs.NewBook.{row_at}
use Rattle.redo_past.proofs.OrderLemmas.{ascending-sorted}
use Rattle.redo_past.proofs.RowLemmas.{number-finds}
use Rattle.redo_past.proofs.rows.Rows.find.Goals as goal

pub returns-in-Some : goal.returns-in-Some
returns-in-Some c =
    let rows = c.self.inside.in_order.now in
    let path = c.args.path.now in
    let n = c.in-Some.number in
    let x : Row = c.index-self-number.result in
    let sorted = ascending-sorted (map (λ (row : Row). row.path) rows) c.self.invariant.0 in
    let there : slice_get (map (λ (row : Row). row.path) rows) n ≡ Some path = subst (λ ps. slice_get ps n ≡ Some path) c.self.invariant.1 c.in-Some.ensures in
    let within : n < length rows = subst (λ k. n < k) (length-map rows (λ (row : Row). row.path)) (slice_get_within (map (λ (row : Row). row.path) rows) n path there) in
    let read : slice_get rows n ≡ Some x = slice_get_read rows (length rows) n x refl within c.index-self-number.is in
    ap Some (sym c.index-self-number.is) ∙ sym read ∙ number-finds (λ (row : Row). row.path) rows path (Some n) sorted there ∙ ap (λ (rs : List Row). row_at rs path) c.self.view_is

pub returns-in-None : goal.returns-in-None
returns-in-None c =
    let rows = c.self.inside.in_order.now in
    let path = c.args.path.now in
    let sorted = ascending-sorted (map (λ (row : Row). row.path) rows) c.self.invariant.0 in
    let none = subst (λ ps. IsAmong ps path → ⊥) c.self.invariant.1 c.in-None.ensures in
    number-finds (λ (row : Row). row.path) rows path None sorted none ∙ ap (λ (rs : List Row). row_at rs path) c.self.view_is
