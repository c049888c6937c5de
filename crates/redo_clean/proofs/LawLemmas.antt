-- Two trees with the same files at the targets of a book: a clean removes and keeps the same.
use Rattle.std.proofs.Common.{◌≡◌, ◌∙◌, ◌&&◌, ℕ, Bool, not, List, [], ◌∷◌, Option, None, ap, ap₂, cond, filter, inl, inr, refl}
use Rattle.std.specs.List.{cons_option}
use Rattle.std.specs.Prelude.{filter_map, if◌then◌else◌, is_some, option_map}
use Rattle.redo_names.specs.Paths.{IsAmong}
use Rattle.redo_tree.specs.Tree.{Tree, file_at}
use Rattle.redo_book.specs.Book.{Record, targets_of}
use Rattle.redo_past.specs.Past.{PastView, has_digest}
use Rattle.redo_clean.specs.Planned.{File, HaveSameTargets, changed_targets, generated_file, generated_files, is_changed}

-- by the file at the target of a record
abbrev file_by : Record → Option (List ℕ) → Option File
file_by r file = if has_digest file r.state then option_map (λ bytes. (r.target, bytes)) file else None

abbrev changed_by : Record → Option (List ℕ) → Bool
changed_by r file = is_some file && not (has_digest file r.state)

module _ (one two : Tree) where
  files_same : (book : List Record) →
      ((p : List ℕ) → IsAmong (targets_of book) p → file_at two p ≡ file_at one p) →
      filter_map (generated_file two) book ≡ filter_map (generated_file one) book
  files_same [] same = refl
  files_same (r ∷ rs) same =
      ap₂ (λ (file : Option (List ℕ)) (rest : List File). cons_option (file_by r file) rest)
      (same r.target (inl refl)) (files_same rs (λ p m. same p (inr m)))

  changed_same : (book : List Record) →
      ((p : List ℕ) → IsAmong (targets_of book) p → file_at two p ≡ file_at one p) →
      filter (is_changed two) book ≡ filter (is_changed one) book
  changed_same [] same = refl
  changed_same (r ∷ rs) same =
      ap₂ (λ (file : Option (List ℕ)) (rest : List Record). cond (changed_by r file) (r ∷ rest) rest)
      (same r.target (inl refl)) (changed_same rs (λ p m. same p (inr m)))

module _ (one two : PastView) (same : HaveSameTargets one two) where
  pub same_removed : generated_files two ≡ generated_files one
  same_removed = ap (filter_map (generated_file two.tree)) same.book ∙ files_same one.tree two.tree one.book same.files

  pub same_kept : changed_targets two ≡ changed_targets one
  same_kept =
      ap (λ (book : List Record). targets_of (filter (is_changed two.tree) book)) same.book
      ∙ ap targets_of (changed_same one.tree two.tree one.book same.files)
