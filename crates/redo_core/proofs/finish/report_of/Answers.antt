use Rattle.std.proofs.Common.{◌≡◌, ◌++◌, ◌∷◌, [], ◌+◌, ◌<◌, ℕ, List, Option, Bor, length, map, drop, if◌then◌else◌}
use Rattle.std.proofs.Common.{sym, ap, subst, ◌∙◌, arith}
use Rattle.std.proofs.lemmas.List.{append_assoc, drop_more, map-append}
use Rattle.redo_core.specs.inside.Reported.{AreRowsOf, file_of, listed_paths, row_begun, row_files}
use Rattle.redo_report.specs.declared.report.Row.{Row}
use Rattle.redo_core.proofs.RowLemmas.{rows-added, files-added, begun-added}
use Rattle.redo_core.proofs.finish.report_of.Goals as goal

pub loop-path-preserved : goal.loop-path-preserved
loop-path-preserved c =
    let items = c.deref-path-items.result.now in
    let i = c.loop-path.path-index in
    let left = listed_paths (drop (i + 1) items) in
    let below : i < length items = omega (arith, c.loop-path-test.true, c.loop-path.auto.path-index-end) in
    let paths = λ (rows : List Row). map (λ (row : Row). row.path) rows in
    let first : listed_paths (drop i items) ≡ c.in_ok-row.row.path ∷ left =
    ap listed_paths (drop_more items i c.loop-path-item.result below)
    ∙ ap (λ (e : Bor (List ℕ) × Option ℕ). e.0.now ∷ left) (sym c.loop-path-item.is)
    ∙ ap (λ p. p ∷ left) (sym c.in_ok-row.ensures.path) in
    record {
      paths =
          ap (λ rows. paths rows ++ left) c.in_ok-add_row.ensures.rows
          ∙ ap (λ ps. ps ++ left) (map-append (λ (row : Row). row.path) c.loop-path.report.rows.items (c.in_ok-row.row ∷ []))
          ∙ append_assoc (paths c.loop-path.report.rows.items) (c.in_ok-row.row.path ∷ []) left
          ∙ ap (λ ps. paths c.loop-path.report.rows.items ++ ps) (sym first)
          ∙ c.loop-path.invariant.paths;
      bits = c.loop-path.invariant.bits ++ c.in_ok-row.begun ∷ [];
      rows =
          let P : List Row → Type 0 = λ rows. AreRowsOf c.args.given.now c.args.table.now rows (c.loop-path.invariant.bits ++ c.in_ok-row.begun ∷ []) in
          subst P (sym c.in_ok-add_row.ensures.rows)
          (rows-added c.args.given.now c.args.table.now c.loop-path.report.rows.items c.loop-path.invariant.bits c.in_ok-row.row c.in_ok-row.begun
          c.loop-path.invariant.rows c.in_ok-row.ensures.row);
      files =
          c.in_ok-add_row.ensures.files
          ∙ ap (λ fs. fs ++ file_of c.in_ok-row.row.path c.in_ok-row.row.outcome) c.loop-path.invariant.files
          ∙ sym (files-added c.loop-path.report.rows.items c.in_ok-row.row)
          ∙ ap row_files (sym c.in_ok-add_row.ensures.rows);
      begun =
          c.in_ok-add_row.ensures.begun
          ∙ ap (λ ps. ps ++ (if c.in_ok-row.begun then c.in_ok-row.row.path ∷ [] else [])) c.loop-path.invariant.begun
          ∙ sym (begun-added c.args.given.now c.args.table.now c.loop-path.report.rows.items c.loop-path.invariant.bits c.in_ok-row.row c.in_ok-row.begun c.loop-path.invariant.rows)
          ∙ ap (λ rows. row_begun rows (c.loop-path.invariant.bits ++ c.in_ok-row.begun ∷ [])) (sym c.in_ok-add_row.ensures.rows);
    }
