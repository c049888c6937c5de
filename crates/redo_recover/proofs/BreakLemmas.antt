-- Runs that were broken off, one after another: the sources stay, and the book stays true.
use Rattle.std.proofs.Common.{◌≡◌, ◌≢◌, ℕ, zero, suc, true, false, cond, ◌⊎◌, inl, inr, List}
use Rattle.std.proofs.Common.{Option, Some, None, refl, sym, ap, subst, ◌∙◌}
use Rattle.std.proofs.lemmas.Bool.{cases_Bool}
use Rattle.std.proofs.lemmas.Slice.Eq.{bytes_eq-Decides}
use Rattle.std.specs.Prelude.{All, option_and_then}
use Rattle.std.specs.Str.{bytes_eq}
use Rattle.redo_path.proofs.ApartLemmas.{apart}
use Rattle.redo_names.specs.Paths.{is_among}
use Rattle.redo_tree.specs.Tree.{Directory, File, IsTree, Node, Tree, bytes_of, file_at, node_at}
use Rattle.redo_tree.proofs.KeptLemmas.{one_sorted}
use Rattle.redo_tree.proofs.WithoutLemmas.{IsTree-without, directory_stays, stood}
use Rattle.redo_which.specs.Candidates.{book_path}
use Rattle.redo_book.specs.Book.{Record, book_lines, text_of}
use Rattle.redo_report.specs.declared.report.Report.{Report}
use Rattle.redo_past.specs.Past.{IsPast, PastView, set_aside}
use Rattle.redo_past.proofs.OrderLemmas.{same_path}
use Rattle.redo_rules.specs.Build.{GivenView}
use Rattle.redo_rules.specs.Results.{IsResult}
use Rattle.redo_rules.specs.TreeSources.{IsTrueOfTrees}
use Rattle.redo_dir.specs.Own.{is_own}
use Rattle.redo_mend.proofs.MendLemmas
use Rattle.redo_mend.proofs.MendLemmas.{no-dir}
use Rattle.redo_mend.proofs.OneLemmas.{OneBook}
use Rattle.redo_mend.proofs.SaidLemmas.{all-recovered}
use Rattle.redo_recover.specs.Broken.{BreakOff, BreaksOff, GoesOn, IsBrokenOff, IsStart}
use Rattle.redo_recover.specs.Broken.{journal_of}
use Rattle.redo_recover.proofs.SourceLemmas.{at-book, at-own, book-aside, left, same-book, source-at, stored, unsourced}
use Rattle.redo_recover.proofs.StepLemmas.{none-cond}

-- ---- nodes and files

-- where neither is a directory, the file tells all
pub same-node : (o u : Option Node) → (o ≡ Some Directory → ⊥) → (u ≡ Some Directory → ⊥) → option_and_then bytes_of o ≡ option_and_then bytes_of u → o ≡ u
same-node o u n m e = MendLemmas.same-node o u (λ d. absurd (n d), λ d. absurd (m d)) e

pub either-dir : (o : Option Node) → (o ≡ Some Directory) ⊎ (o ≡ Some Directory → ⊥)
either-dir None = inr (λ e. apart cc)
either-dir (Some Directory) = inl refl
either-dir (Some (File b)) = inr (λ e. no-dir (Some (File b)) b refl e)

pub sources-tree : (past : PastView) → IsTree past.tree → IsPast past → IsTree past.sources
sources-tree past tree is = subst IsTree (sym is.sources) (IsTree-without past.tree (set_aside past.tree past.book) tree)

pub was-dir : (past : PastView) → IsTree past.tree → IsPast past → (p : List ℕ) → node_at past.sources p ≡ Some Directory → node_at past.tree p ≡ Some Directory
was-dir past tree is p d = stood past.tree (set_aside past.tree past.book) p Directory tree (ap (λ t. node_at t p) (sym is.sources) ∙ d)

pub stays-dir : (past : PastView) → IsTree past.tree → IsPast past → (p : List ℕ) → node_at past.tree p ≡ Some Directory → node_at past.sources p ≡ Some Directory
stays-dir past tree is p d = ap (λ t. node_at t p) is.sources ∙ directory_stays past.tree (set_aside past.tree past.book) p tree d

-- ---- one run

module _ (law : OneBook) (given : GivenView) (result : Report) (is : IsResult given result) (start : IsStart given.past) (broken : Tree) (off : IsBrokenOff given result is broken) (past : PastView) (on : GoesOn given result is broken past) where
  abbrev S : Tree
  S = given.past.sources

  abbrev M : Tree
  M = past.tree

  mended-book : node_at M book_path ≢ Some Directory
  mended-book d = no-dir (node_at M book_path) (text_of (book_lines on.book)) on.mended.has_book d

  -- where no directory stood and none stands, the file tells all
  by-file : (p : List ℕ) → node_at M p ≢ Some Directory → node_at given.past.tree p ≢ Some Directory → file_at past.sources p ≡ file_at S p → node_at past.sources p ≡ node_at S p
  by-file p n m e =
      same-node (node_at past.sources p) (node_at S p)
      (λ d. n (was-dir past on.mended.is_tree on.is_past p d))
      (λ d. m (was-dir given.past start.is_tree start.is_past p d)) e

  at-each : (p : List ℕ) → node_at past.sources p ≡ node_at S p
  at-each p = elim (cases_Bool (bytes_eq p book_path)) [
    | inl book ↦
        let path = same_path p book_path book in
        let there : file_at S book_path ≡ None = source-at given.past start.is_tree start.is_past book_path ∙ ap (λ c. cond c None (file_at given.past.tree book_path)) (book-aside given.past.tree given.past.book) in
        let here = at-book given result is start law broken past on in
        subst (λ q. node_at past.sources q ≡ node_at S q) (sym path) (by-file book_path mended-book start.book_place (here ∙ sym there))
    | inr no_book ↦
        let n : p ≢ book_path = λ e. (let bad : true ≡ false = sym ((bytes_eq-Decides p book_path).1 e) ∙ no_book in apart cc) in
        elim (cases_Bool (is_own (journal_of given result is) p)) [
          | inl own ↦
              let never = off.own p n own in
              let none : file_at given.past.tree p ≡ None = ap (option_and_then bytes_of) never in
              let there : file_at S p ≡ None =
              source-at given.past start.is_tree start.is_past p ∙ ap (cond (is_among (set_aside given.past.tree given.past.book) p) None) none ∙ none-cond (is_among (set_aside given.past.tree given.past.book) p) in
              let here = at-own given result is start law broken past on p n own in
              by-file p (λ d. off.files p n own ((on.mended.directories p).0 d)) (λ d. (let bad : None ≡ Some Directory = sym never ∙ d in apart cc)) (here ∙ sym there)
          | inr m ↦
              let mended = on.mended.others p n m in
              elim (off.others p n m) [
                | inl same ↦ elim (either-dir (node_at given.past.tree p)) [
                  | inl d ↦ stays-dir past on.mended.is_tree on.is_past p (mended ∙ same ∙ d) ∙ sym (stays-dir given.past start.is_tree start.is_past p d)
                  | inr none ↦ by-file p (λ d. none (sym same ∙ sym mended ∙ d)) none
                      (left given result is start law broken past on p n m (ap (option_and_then bytes_of) same))
                ]
                | inr put ↦
                    let bytes = put.0 in let may = put.1 in let node = put.2 in
                    let file : file_at broken p ≡ Some bytes = ap (option_and_then bytes_of) node in
                    by-file p (λ d. no-dir (node_at broken p) bytes file (sym mended ∙ d)) may.no_directory
                    (stored given result is start law broken past on p bytes may file ∙ sym (unsourced given result is start p bytes may))
              ]
        ]
  ]

  -- the sources are those that they were
  pub sources-same : past.sources ≡ S
  sources-same = one_sorted past.sources S (sources-tree past on.mended.is_tree on.is_past).sorted (sources-tree given.past start.is_tree start.is_past).sorted at-each

  pub goes-on : IsStart past
  goes-on = record { is_tree = on.mended.is_tree; is_past = on.is_past; book_place = mended-book }

abbrev pub OnePast : Type 0
OnePast = (one other : PastView) → IsPast one → IsPast other → one.tree ≡ other.tree → one ≡ other

-- ---- any number of runs

pub often : OneBook → (n file_bytes : ℕ) (before after : PastView) → IsStart before → BreakOff n file_bytes before after → after.sources ≡ before.sources
often law zero file_bytes before after start same = ap (λ (x : PastView). x.sources) same
often law (suc n) file_bytes before after start broke =
    let mid = broke.0 in let off = broke.1 in
    let first = subst IsStart (sym off.from) start in
    let next = goes-on law off.given off.result off.is first off.broken off.off mid off.on in
    often law n file_bytes mid after next broke.2
    ∙ sources-same law off.given off.result off.is first off.broken off.off mid off.on
    ∙ ap (λ (x : PastView). x.sources) off.from

abbrev pub TrueAgain : Type 0
TrueAgain = (given : GivenView) (result : Report) (is : IsResult given result) → IsTree given.past.sources →
    All (IsTrueOfTrees given.limits.file_bytes) given.past.book → All (IsTrueOfTrees given.limits.file_bytes) is.with_book.book

once-true : OneBook → TrueAgain → (file_bytes : ℕ) (before mid : PastView) → IsStart before → BreaksOff file_bytes before mid → All (IsTrueOfTrees file_bytes) before.book → All (IsTrueOfTrees file_bytes) mid.book
once-true law again file_bytes before mid start off were =
    let first = subst IsStart (sym off.from) start in
    let P : PastView → Type 0 = λ x. All (IsTrueOfTrees file_bytes) x.book in
    let old : All (IsTrueOfTrees file_bytes) off.given.past.book = subst P (sym off.from) were in
    let Q : ℕ → Type 0 = λ n. All (IsTrueOfTrees n) off.given.past.book in
    let R : ℕ → Type 0 = λ n. All (IsTrueOfTrees n) off.is.with_book.book in
    let new = subst R off.limit (again off.given off.result off.is (sources-tree off.given.past first.is_tree first.is_past) (subst Q (sym off.limit) old)) in
    let both = all-recovered (IsTrueOfTrees file_bytes) off.broken off.is.with_book.book off.given.past.book off.on.book off.on.recovered new old in
    subst (λ (b : List Record). All (IsTrueOfTrees file_bytes) b) (sym (same-book off.given off.result off.is first law off.broken mid off.on)) both

pub often-true : OneBook → TrueAgain → (n file_bytes : ℕ) (before after : PastView) → IsStart before → BreakOff n file_bytes before after → All (IsTrueOfTrees file_bytes) before.book → All (IsTrueOfTrees file_bytes) after.book
often-true law again zero file_bytes before after start same were =
    subst (λ (x : PastView). All (IsTrueOfTrees file_bytes) x.book) (sym same) were
often-true law again (suc n) file_bytes before after start broke were =
    let mid = broke.0 in let off = broke.1 in
    let first = subst IsStart (sym off.from) start in
    let next = goes-on law off.given off.result off.is first off.broken off.off mid off.on in
    often-true law again n file_bytes mid after next broke.2 (once-true law again file_bytes before mid start off were)
