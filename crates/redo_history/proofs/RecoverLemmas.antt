-- A recovered book has only records that runs have left.
use Rattle.std.proofs.Common.{◌≡◌, ◌∙◌, ap, inl, inr, List, ◌∷◌, [], ℕ, Option, refl, subst}
use Rattle.std.specs.Prelude.{All, Contains, MatchOption}
use Rattle.std.proofs.lemmas.List.Elements.{All-contains, All-contains_itself, All-weaker}
use Rattle.redo_tree.specs.Tree.{Tree, file_at}
use Rattle.redo_which.specs.Candidates.{book_path}
use Rattle.redo_book.specs.Book.{IsText, Record, book_lines, text_of}
use Rattle.redo_past.specs.Past.{PastView}
use Rattle.redo_rules.specs.Build.{GivenView}
use Rattle.redo_rules.specs.Results.{IsGiven, IsResult}
use Rattle.redo_mend.proofs.SaidLemmas.{all-recovered}
use Rattle.redo_recover.specs.Broken.{GoesOn}
use Rattle.redo_history.specs.Histories.{HasRecordsOf, Run, WasLeft, book_among}
use Rattle.redo_history.proofs.MetLemmas.{OneText, found-put}

pub recovered-of-any : OneText → (before : List Run) (run : Run) (given : GivenView) →
    IsGiven run.tree run.request run.limits given → (is : IsResult given run.report) → HasRecordsOf before run.tree →
    (now : Tree) (past : PastView) → GoesOn given run.report is now past → HasRecordsOf (run ∷ before) past.tree
recovered-of-any one before run given is_given is has now past on other of x at =
    let M : Option (List ℕ) → Type 0 = λ o. MatchOption o (other.book ≡ []) (λ text. IsText text other.book) in
    let read : IsText (text_of (book_lines on.book)) other.book =
    subst M (ap (λ (t : Tree). file_at t book_path) of.of_tree ∙ on.mended.has_book) of.is_past.book in
    let same : other.book ≡ on.book =
    one (text_of (book_lines on.book)) other.book on.book read
    (record { ordered = on.recovered.ordered; whole = refl }) in
    let P : Record → Type 0 = WasLeft (run ∷ before) in
    let new : List Record = is.with_book.book in
    let text : List ℕ = text_of (book_lines new) in
    let journal : All P new =
    All-weaker (Contains new) P (λ r m. inl (record {
      text = text;
      file = ap book_among is.with_book.files ∙ found-put is.report.files.items text;
      book = new;
      is_text = record { ordered = is.with_book.new.ordered; whole = refl };
      has = m;
    })) new (All-contains_itself new) in
    let old : All P given.past.book =
    All-weaker (Contains given.past.book) P (λ r m. inr (has given.past is_given.of_tree r m)) given.past.book
    (All-contains_itself given.past.book) in
    All-contains P on.book x (all-recovered P now new given.past.book on.book on.recovered journal old)
    (subst (λ (b : List Record). Contains b x) same at)
