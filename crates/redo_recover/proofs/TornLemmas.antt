-- A journal that isn't whole.
use Rattle.std.proofs.Common.{◌≡◌, ◌≢◌, ◌++◌, ℕ, true, false, cond, ◌⊎◌, inl, inr, List, [], ◌∷◌, codes}
use Rattle.std.proofs.Common.{Some, None, refl, sym, ap, subst, ◌∙◌}
use Rattle.std.proofs.lemmas.Bool.{cases_Bool}
use Rattle.std.proofs.lemmas.Slice.Eq.{bytes_eq-Decides}
use Rattle.std.specs.List.{list_any}
use Rattle.std.specs.Prelude.{flat_map}
use Rattle.std.specs.Str.{bytes_eq}
use Rattle.redo_path.proofs.ApartLemmas.{apart}
use Rattle.redo_names.specs.Paths.{is_among}
use Rattle.redo_names.proofs.PathLemmas.{told-among}
use Rattle.redo_tree.specs.Tree.{Directory, IsTree, Tree, file_at, node_at, without}
use Rattle.redo_tree.proofs.KeptLemmas.{one_sorted}
use Rattle.redo_tree.proofs.WithoutLemmas.{IsTree-without, directory_stays, file_at-without, stood}
use Rattle.redo_book.specs.Book.{IsText, Record, book_lines, is_newline, record_lines, text_of}
use Rattle.redo_book.proofs.RunLemmas.{book_is_lines, whole_runs}
use Rattle.redo_book.proofs.TextLemmas.{behind_end}
use Rattle.redo_past.specs.Past.{PastView}
use Rattle.redo_past.proofs.OrderLemmas.{same_path}
use Rattle.redo_which.specs.Candidates.{journal_path}
use Rattle.redo_mend.specs.Mended.{IsNoBook, IsPassedOver, IsRecoveredTree}
use Rattle.redo_mend.proofs.MendLemmas.{no-dir}
use Rattle.redo_recover.specs.Broken.{IsStart}
use Rattle.redo_recover.specs.Opening.{Opens}
use Rattle.redo_recover.proofs.BreakLemmas.{OnePast, either-dir, same-node}
use Rattle.redo_recover.proofs.StepLemmas.{front-all}

-- ---- no front of a book's text is whole

pub whole-front : (text front rest : List ℕ) (book other : List Record) → IsText text book → text ≡ front ++ rest → IsText front other → rest ≡ []
whole-front text front rest book other is cut also =
    let runs = whole_runs other also.ordered in
    let lines = front-all (λ line. list_any is_newline line ≡ false) (flat_map record_lines other) (codes "end" ∷ []) (book_is_lines other also.ordered) in
    let again : IsText (text_of (book_lines other) ++ rest) book =
    subst (λ (t : List ℕ). IsText (t ++ rest) book) also.whole (subst (λ (t : List ℕ). IsText t book) cut is) in
    behind_end (flat_map record_lines other) runs.0 rest book lines runs.1 again

-- ---- it is passed over

module _ (one_past : OnePast) (past : PastView) (start : IsStart past) (none : node_at past.tree journal_path ≡ None) (broken : Tree) (is_tree : IsTree broken) (same : (p : List ℕ) → p ≢ journal_path → node_at broken p ≡ node_at past.tree p) (text : List ℕ) (torn : file_at broken journal_path ≡ Some text) (no_book : IsNoBook text) where
  abbrev out : List (List ℕ)
  out = journal_path ∷ []

  abbrev rest : Tree
  rest = without broken out

  at-journal : node_at rest journal_path ≡ None
  at-journal =
      let gone : file_at rest journal_path ≡ None =
      file_at-without broken out journal_path is_tree ∙ ap (λ c. cond c None (file_at broken journal_path)) (told-among out journal_path (inl refl)) in
      same-node (node_at rest journal_path) None (λ d. no-dir (node_at broken journal_path) text torn (stood broken out journal_path Directory is_tree d)) (λ d. apart cc) gone

  elsewhere : (p : List ℕ) → p ≢ journal_path → bytes_eq journal_path p ≡ false → node_at rest p ≡ node_at broken p
  elsewhere p n other =
      let among : is_among out p ≡ false = rw other refl in
      elim (either-dir (node_at broken p)) [
        | inl d ↦ directory_stays broken out p is_tree d ∙ sym d
        | inr m ↦ same-node (node_at rest p) (node_at broken p) (λ d. m (stood broken out p Directory is_tree d)) m (file_at-without broken out p is_tree ∙ ap (λ c. cond c None (file_at broken p)) among)
      ]

  rest-same : rest ≡ past.tree
  rest-same = one_sorted rest past.tree (IsTree-without broken out is_tree).sorted start.is_tree.sorted (λ p. elim (cases_Bool (bytes_eq journal_path p)) [
    | inl here ↦ subst (λ q. node_at rest q ≡ node_at past.tree q) (same_path journal_path p here) (at-journal ∙ sym none)
    | inr other ↦
        let n : p ≢ journal_path = λ e. (let bad : true ≡ false = sym ((bytes_eq-Decides journal_path p).1 (sym e)) ∙ other in apart cc) in
        elsewhere p n other ∙ same p n
  ])

  pub passed-over : (other : PastView) → Opens broken other → other ≡ past
  passed-over other opens =
      let found : IsRecoveredTree broken text other.tree ⊎ (IsPassedOver broken text × (other.tree ≡ without broken out)) = rw torn at opens.mends in
      elim found [
        | inl by ↦ absurd (no_book by.journal by.is_journal)
        | inr by ↦ one_past other past opens.is_past start.is_past (by.1 ∙ rest-same)
      ]
