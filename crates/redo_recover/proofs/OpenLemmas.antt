-- How a tree is opened: in one way, and as the run that was broken off left it.
use Rattle.std.proofs.Common.{◌≡◌, ◌⊎◌, inl, inr, List, [], ◌∷◌}
use Rattle.std.proofs.Common.{Some, refl, sym, ap, subst, ◌∙◌}
use Rattle.std.specs.Prelude.{option_and_then}
use Rattle.redo_tree.specs.Tree.{Tree, bytes_of, file_at, node_at, without}
use Rattle.redo_which.specs.Candidates.{book_path, journal_path}
use Rattle.redo_book.specs.Book.{IsText, Record}
use Rattle.redo_report.specs.declared.report.Report.{Report}
use Rattle.redo_past.specs.Past.{PastView}
use Rattle.redo_rules.specs.Build.{GivenView}
use Rattle.redo_rules.specs.Results.{IsResult}
use Rattle.redo_mend.specs.Mended.{IsPassedOver, IsRecoveredTree}
use Rattle.redo_mend.specs.Recovered.{IsRecovered}
use Rattle.redo_mend.proofs.OneLemmas.{OneBook, mended-once, one-book-of}
use Rattle.redo_recover.specs.Broken.{GoesOn, IsStart, journal_of}
use Rattle.redo_recover.specs.Opening.{Opens}
use Rattle.redo_recover.proofs.BreakLemmas.{OnePast}

-- ---- in one way

pub opened-once : OneBook → OnePast → (tree : Tree) (past other : PastView) → Opens tree past → Opens tree other → past ≡ other
opened-once law one_past tree past other h k = one_past past other h.is_past k.is_past (mended-once law tree past.tree other.tree h.mends k.mends)

-- ---- as the run that was broken off left it

pub goes-on-opened : OneBook → (given : GivenView) (result : Report) (is : IsResult given result) → IsStart given.past → (broken : Tree) → file_at broken journal_path ≡ Some (journal_of given result is) → node_at broken book_path ≡ node_at given.past.tree book_path → (past : PastView) → Opens broken past → GoesOn given result is broken past
goes-on-opened law given result is start broken e the_book past opens =
    let text = journal_of given result is in
    let its : IsText text is.with_book.book = record { ordered = is.with_book.new.ordered; whole = refl } in
    let found : IsRecoveredTree broken text past.tree ⊎ (IsPassedOver broken text × (past.tree ≡ without broken (journal_path ∷ []))) = rw e at opens.mends in
    elim found [
      | inr over ↦ absurd (elim over.0 [
        | inl no_book ↦ no_book is.with_book.book its
        | inr directory ↦ start.book_place (sym the_book ∙ directory)
      ])
      | inl by ↦
          let journal : by.journal ≡ is.with_book.book = law text by.journal is.with_book.book by.is_journal its in
          let file : file_at broken book_path ≡ file_at given.past.tree book_path = ap (option_and_then bytes_of) the_book in
          let old : by.old ≡ given.past.book = one-book-of law (file_at broken book_path) (file_at given.past.tree book_path) by.old given.past.book file by.is_old start.is_past.book in
          record {
            book = by.book;
            recovered = subst (λ (o : List Record). IsRecovered broken is.with_book.book o by.book) old
                (subst (λ (j : List Record). IsRecovered broken j by.old by.book) journal by.recovered);
            mended = by.is_mended;
            is_past = opens.is_past;
          }
    ]
