-- Pasts of trees with the same names that have the same book and the same files at its targets: they have the same notes.
use Rattle.std.proofs.Common.{◌≡◌, ◌∙◌, ◌&&◌, ℕ, Bool, cond, List, [], ◌∷◌, Option, Some, None, ap, ap₂, filter, inl, inr, is_some, map, refl}
use Rattle.std.specs.Prelude.{filter_map, is_none, option_map}
use Rattle.redo_names.specs.Paths.{IsAmong}
use Rattle.redo_tree.specs.Tree.{Directory, File, Node, Tree, bytes_of, file_at}
use Rattle.redo_which.specs.Candidates.{Place}
use Rattle.redo_book.specs.Book.{Record, targets_of}
use Rattle.redo_past.specs.Past.{PastView, has_digest}
use Rattle.redo_report.specs.declared.report.Report.{Report}
use Rattle.redo_report.specs.declared.report.Row.{Row}
use Rattle.redo_reads.specs.Reads.{ArePastsAlike}
use Rattle.redo_reads.proofs.NamesLemmas.{bare_entry, gathered_alike}
use Rattle.redo_reads.proofs.PastLemmas.{is_sources, other_sources, sources_alike}
use Rattle.redo_reads.proofs.RunReadLemmas.{same_everywhere}
use Rattle.redo_reads.proofs.SearchLemmas.{chosen_alike, file_alike}
use Rattle.redo_notes.specs.Notes.{do_file_of, has_record, is_asked, is_bare, is_ruleless, is_unmade, is_within, ruleless}
use Rattle.redo_notes.specs.Notes.{shadowed, shadowed_at, shadowed_within, unbuilt, unbuilt_at, unmade}
use Rattle.redo_notes.specs.declared.kinds.Unbuilt.{Unbuilt}

-- what is told of an entry is told by its name
shadowed_by_name : (sources : Tree) (e : List ℕ × Node) → shadowed_at sources (bare_entry e) ≡ shadowed_at sources e
shadowed_by_name sources (p, Directory) = refl
shadowed_by_name sources (p, File bytes) = refl

unbuilt_by_name : (sources : Tree) (asked known : List ℕ → Bool) (e : List ℕ × Node) →
    unbuilt_at sources asked known (bare_entry e) ≡ unbuilt_at sources asked known e
unbuilt_by_name sources asked known (p, Directory) = refl
unbuilt_by_name sources asked known (p, File bytes) = refl

module _ (past other : PastView) (are : ArePastsAlike past other) where
  abbrev one : Tree
  one = past.sources

  abbrev two : Tree
  two = other.sources

  -- the search chooses the same
  do_files_same : do_file_of two ≡ do_file_of one
  do_files_same =
      same_everywhere (do_file_of two) (do_file_of one) (λ path.
      ap (option_map (λ (place : Place). place.do_file))
      (chosen_alike one two (sources_alike past other are) path))

  gathered : {X : Type 0} (of : List ℕ × Node → Option X) → ((e : List ℕ × Node) → of (bare_entry e) ≡ of e) →
      filter_map of two ≡ filter_map of one
  gathered of same =
      gathered_alike one two (is_sources past other are) (other_sources past other are) (sources_alike past other are) of
      same

  pub shadowed_same : shadowed other ≡ shadowed past
  shadowed_same =
      ap (λ (file : List ℕ → Option (List ℕ)). filter_map (λ (e : List ℕ × Node).
      cond (is_some (bytes_of e.1) && is_some (file e.0)) (Some e.0) None) two) do_files_same
      ∙ gathered (shadowed_at one) (shadowed_by_name one)

  pub within_same : (places : List (List ℕ)) → shadowed_within other places ≡ shadowed_within past places
  within_same places = ap (filter (is_within places)) shadowed_same

  -- by the search, and by the book
  abbrev noted : (List ℕ → Bool) → (List ℕ → Option (List ℕ)) → List Record → List ℕ × Node → Option Unbuilt
  noted asked file book e =
      let note : List ℕ → Unbuilt = λ f. record { path = e.0; do_file = f; recorded = has_record book e.0 } in
      cond (is_some (bytes_of e.1) && asked e.0) (option_map note (file e.0)) None

  pub unbuilt_same : (request : List (List ℕ)) (report : Report) → unbuilt other request report ≡ unbuilt past request report
  unbuilt_same request report =
      let asked : List ℕ → Bool = is_asked request report.rows.items in
      ap₂ (λ (file : List ℕ → Option (List ℕ)) (book : List Record). filter_map (noted asked file book) two)
      do_files_same are.book
      ∙ gathered (unbuilt_at one asked (has_record past.book)) (unbuilt_by_name one asked (has_record past.book))

  pub unmade_same : (report : Report) → unmade other report ≡ unmade past report
  unmade_same report =
      ap (λ (test : Row → Bool). map (λ row. row.path) (filter test report.rows.items))
      (same_everywhere (is_unmade other.tree) (is_unmade past.tree) (λ row.
      ap (λ (b : Bool). is_bare row.outcome && b) (file_alike past.tree other.tree are.named row.path)))

  ruleless_by : (book : List Record) →
      ((p : List ℕ) → IsAmong (targets_of book) p → file_at other.tree p ≡ file_at past.tree p) →
      filter (is_ruleless other) book ≡ filter (is_ruleless past) book
  ruleless_by [] same = refl
  ruleless_by (r ∷ rs) same =
      ap₂ (λ (b : Bool) (others : List Record). cond b (r ∷ others) others)
      (ap₂ (λ (file : Option (List ℕ)) (f : List ℕ → Option (List ℕ)). has_digest file r.state && is_none (f r.target))
      (same r.target (inl refl)) do_files_same) (ruleless_by rs (λ p m. same p (inr m)))

  pub ruleless_same : ruleless other ≡ ruleless past
  ruleless_same =
      ap (λ (book : List Record). targets_of (filter (is_ruleless other) book)) are.book
      ∙ ap targets_of (ruleless_by past.book are.targets)
