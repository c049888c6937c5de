-- The files that a report doesn't tell of.
use Rattle.std.proofs.Common.{◌≡◌, ◌∙◌, ◌+◌, ◌<◌, ◌||◌, ℕ, Bool, true, false, cond, List, [], ◌∷◌, ◌++◌, refl, sym, ap, filter}
use Rattle.std.proofs.Common.{Option, Some, None, length, map, take, slice_index_or}
use Rattle.std.proofs.lemmas.List.{map-append, take_more}
use Rattle.std.specs.List.{cons_option}
use Rattle.std.specs.Prelude.{filter_map, option_map}
use Rattle.std.specs.Str.{bytes_eq}
use Rattle.redo_tree.specs.Tree.{Tree, file_at}
use Rattle.redo_book.specs.Book.{Record}
use Rattle.redo_past.specs.Past.{is_generated}
use Rattle.redo_clean.specs.Planned.{File, generated_file}
use Rattle.redo_names.specs.Paths.{is_among, with_path}
use Rattle.redo_names.proofs.PathLemmas.{is_among-last, is_among-with}
use Rattle.redo_report.specs.declared.report.Row.{Row}
use Rattle.redo_dead.specs.Dead.{is_untold}
use Rattle.redo_dead.specs.inside.Files.{dead_file}

abbrev paths-of : List Row → List (List ℕ)
paths-of rows = map (λ row. row.path) rows

-- one row more
pub row-more : (rows : List Row) (qs : List (List ℕ)) (i : ℕ) (x : Row) (p : List ℕ) → i < length rows →
    x ≡ slice_index_or rows i x → is_among qs p ≡ is_among (paths-of (take i rows)) p →
    is_among (with_path qs x.path) p ≡ is_among (paths-of (take (i + 1) rows)) p
row-more rows qs i x p within is same =
    is_among-with qs x.path p ∙ ap (λ b. b || bytes_eq x.path p) same
    ∙ sym (is_among-last (paths-of (take i rows)) x.path p)
    ∙ ap (λ y. is_among (paths-of (take i rows) ++ y.path ∷ []) p) is
    ∙ ap (λ qs. is_among qs p) (sym (map-append (λ row. row.path) (take i rows) (slice_index_or rows i x ∷ [])))
    ∙ ap (λ l. is_among (paths-of l) p) (sym (take_more rows i x within))

-- the file of a record, in front of those of the records behind it
dead-first : (told : List ℕ → Bool) (p : List ℕ) (t g : Bool) (file : Option (List ℕ)) (left files : List File) → told p ≡ t → left ≡ filter (is_untold told) files →
    cons_option (cond t None (cond g (option_map (λ bytes. (p, bytes)) file) None)) left
    ≡ filter (is_untold told) (cons_option (cond g (option_map (λ bytes. (p, bytes)) file) None) files)
dead-first told p true false file left files is same = same
dead-first told p true true None left files is same = same
dead-first told p true true (Some bytes) left files is same = rw is same
dead-first told p false false file left files is same = same
dead-first told p false true None left files is same = same
dead-first told p false true (Some bytes) left files is same = rw is (ap (λ fs. (p, bytes) ∷ fs) same)

-- the generated files that aren't told of, record by record
pub dead-of-each : (told : List ℕ → Bool) (tree : Tree) (rs : List Record) → filter_map (dead_file told tree) rs ≡ filter (is_untold told) (filter_map (generated_file tree) rs)
dead-of-each told tree [] = refl
dead-of-each told tree (r ∷ rs) =
    dead-first told r.target (told r.target) (is_generated tree r) (file_at tree r.target) (filter_map (dead_file told tree) rs) (filter_map (generated_file tree) rs) refl (dead-of-each told tree rs)

-- the files by the set of the paths that are told of
pub by-set : (files : List File) (set given : List (List ℕ)) (these those : List File) →
    files ≡ filter (is_untold (is_among set)) these → ((p : List ℕ) → is_among set p ≡ is_among given p) → these ≡ those →
    files ≡ filter (is_untold (is_among given)) those
by-set files set given these those is has same =
    is ∙ ap (λ (told : List ℕ → Bool). filter (is_untold told) these) (λ i p. has p i)
    ∙ ap (λ fs. filter (is_untold (is_among given)) fs) same
