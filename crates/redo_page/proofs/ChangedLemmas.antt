-- The targets with other bytes than before, one row more at a time.
use Rattle.std.proofs.Common.{◌≡◌, ◌∙◌, ◌+◌, ◌<◌, ◌&&◌, ◌||◌, ◌++◌, ◌∷◌, [], ℕ, Bool, true, false, cond, List, refl, sym, ap}
use Rattle.std.proofs.Common.{filter, length, map, slice_index_or, take}
use Rattle.std.proofs.lemmas.List.{map-append, take_more}
use Rattle.std.proofs.lemmas.List.Elements.{filter-append}
use Rattle.std.specs.Str.{bytes_eq}
use Rattle.redo_names.specs.Paths.{is_among}
use Rattle.redo_names.proofs.PathLemmas.{is_among-append, or-false}
use Rattle.redo_report.specs.declared.report.Row.{Row}
use Rattle.redo_told.specs.Rows.{is_changed}
use Rattle.redo_tree.specs.Tree.{Tree}
use Rattle.redo_page.specs.Pages.{changed_in}

changed-append : (before : Tree) (xs ys : List Row) →
    changed_in before (xs ++ ys) ≡ changed_in before xs ++ changed_in before ys
changed-append before xs ys =
    ap (map (λ row. row.path)) (filter-append (is_changed before) xs ys)
    ∙ map-append (λ row. row.path) (filter (is_changed before) xs) (filter (is_changed before) ys)

only-row : (before : Tree) (row : Row) (p : List ℕ) (b : Bool) → is_changed before row ≡ b →
    is_among (map (λ r. r.path) (cond b (row ∷ []) [])) p ≡ (b && bytes_eq row.path p)
only-row before row p true is = or-false (bytes_eq row.path p)
only-row before row p false is = refl

-- one row more
pub changed-more : (before : Tree) (rows : List Row) (i : ℕ) (x : Row) (p : List ℕ) → i < length rows →
    x ≡ slice_index_or rows i x → is_among (changed_in before (take (i + 1) rows)) p ≡
    (is_among (changed_in before (take i rows)) p || (is_changed before x && bytes_eq x.path p))
changed-more before rows i x p below is =
    ap (λ l. is_among (changed_in before l) p) (take_more rows i x below)
    ∙ ap (λ ps. is_among ps p) (changed-append before (take i rows) (slice_index_or rows i x ∷ []))
    ∙ is_among-append (changed_in before (take i rows)) (changed_in before (slice_index_or rows i x ∷ [])) p
    ∙ ap (λ y. is_among (changed_in before (take i rows)) p || is_among (changed_in before (y ∷ [])) p) (sym is)
    ∙ ap (λ b. is_among (changed_in before (take i rows)) p || b) (only-row before x p (is_changed before x) refl)
