-- Failed paths and blockers, one row or entry after another.
use Rattle.std.proofs.Common.{◌≡◌, ◌∙◌, ◌+◌, ◌<◌, ◌&&◌, ◌||◌, ◌++◌, ◌∷◌, [], ℕ, Bool, true, false, cond, List, refl, sym, ap}
use Rattle.std.proofs.Common.{filter, flat_map, length, map, slice_index_or, take}
use Rattle.std.proofs.lemmas.List.{map-append, take_more}
use Rattle.std.proofs.lemmas.List.Elements.{filter-append, filter_map-append}
use Rattle.std.specs.Str.{bytes_eq}
use Rattle.redo_names.specs.Paths.{is_among}
use Rattle.redo_names.proofs.PathLemmas.{is_among-append, or-false}
use Rattle.redo_record.specs.Progress.{changed, changes}
use Rattle.redo_record.specs.declared.deps.Dep.{Dep}
use Rattle.redo_report.specs.declared.report.Row.{Row}
use Rattle.redo_told.specs.Blocked.{failed_paths, has_failed}
use Rattle.redo_told.specs.inside.Steps.{blocker, is_failed_at}

failed-append : (xs ys : List Row) → failed_paths (xs ++ ys) ≡ failed_paths xs ++ failed_paths ys
failed-append xs ys =
    ap (map (λ row. row.path)) (filter-append has_failed xs ys)
    ∙ map-append (λ row. row.path) (filter has_failed xs) (filter has_failed ys)

only-row : (row : Row) (p : List ℕ) (b : Bool) → has_failed row ≡ b →
    is_among (map (λ r. r.path) (cond b (row ∷ []) [])) p ≡ (b && bytes_eq row.path p)
only-row row p true is = or-false (bytes_eq row.path p)
only-row row p false is = refl

-- one row more
pub row-more : (rows : List Row) (i : ℕ) (x : Row) (p : List ℕ) → i < length rows → x ≡ slice_index_or rows i x →
    is_among (failed_paths (take (i + 1) rows)) p ≡ (is_among (failed_paths (take i rows)) p || is_failed_at p x)
row-more rows i x p below is =
    ap (λ l. is_among (failed_paths l) p) (take_more rows i x below)
    ∙ ap (λ ps. is_among ps p) (failed-append (take i rows) (slice_index_or rows i x ∷ []))
    ∙ is_among-append (failed_paths (take i rows)) (failed_paths (slice_index_or rows i x ∷ [])) p
    ∙ ap (λ y. is_among (failed_paths (take i rows)) p || is_among (failed_paths (y ∷ [])) p) (sym is)
    ∙ ap (λ b. is_among (failed_paths (take i rows)) p || b) (only-row x p (has_failed x) refl)

-- the blockers of a record, entry by entry
pub by-entry : (failed : List ℕ → Bool) (deps : List Dep) → flat_map (blocker failed) deps ≡ filter failed (changes deps)
by-entry failed [] = refl
by-entry failed (d ∷ ds) =
    ap (λ ps. blocker failed d ++ ps) (by-entry failed ds)
    ∙ sym (filter-append failed (changes (d ∷ [])) (changes ds))
    ∙ ap (filter failed) (sym (filter_map-append (λ e. changed e.kind e.path) (d ∷ []) ds))
