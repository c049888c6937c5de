-- A tree has one past, and a run leaves one book.
use Rattle.std.proofs.Common.{◌≡◌, ◌∙◌, List, [], ℕ, Option, Some, None, sym, subst}
use Rattle.std.specs.Prelude.{MatchOption}
use Rattle.redo_tree.specs.Tree.{Tree, file_at, without}
use Rattle.redo_which.specs.Candidates.{book_path}
use Rattle.redo_book.specs.Book.{IsText, Record}
use Rattle.redo_report.specs.declared.report.Row.{Row}
use Rattle.redo_past.specs.NewBook.{IsNewBook}
use Rattle.redo_past.specs.Past.{IsPast, PastView, set_aside}
use Rattle.redo_past.proofs.ItemLemmas.{contained-item, item-contained}
use Rattle.redo_past.proofs.OrderLemmas.{same-list}

abbrev OneBook : Type 0
OneBook = (text : List ℕ) (book other : List Record) → IsText text book → IsText text other → book ≡ other

same-book : (file : Option (List ℕ)) (book other : List Record) → OneBook → MatchOption file (book ≡ []) (λ text. IsText text book) → MatchOption file (other ≡ []) (λ text. IsText text other) → book ≡ other
same-book None book other law h k = h ∙ sym k
same-book (Some text) book other law h k = law text book other h k

pub one-past : OneBook → (past other : PastView) → IsPast past → IsPast other → past.tree ≡ other.tree → past ≡ other
one-past law past other h k e =
    let P : Tree → Type 0 = λ t. MatchOption (file_at t book_path) (other.book ≡ []) (λ text. IsText text other.book) in
    let book : past.book ≡ other.book = same-book (file_at past.tree book_path) past.book other.book law h.book (subst P (sym e) k.book) in
    let cut : without past.tree (set_aside past.tree past.book) ≡ without other.tree (set_aside other.tree other.book) = λ i. without (e i) (set_aside (e i) (book i)) in
    let sources : past.sources ≡ other.sources = h.sources ∙ cut ∙ sym k.sources in
    λ i. record { tree = e i; sources = sources i; book = book i }

pub one-new-book : (past : PastView) (rows : List Row) (book other : List Record) → IsNewBook past rows book → IsNewBook past rows other → book ≡ other
one-new-book past rows book other h k =
    same-list (λ (r : Record). r.target) book other h.ordered.sorted k.ordered.sorted
    (λ r m. contained-item other r ((k.records r).1 ((h.records r).0 (item-contained book r m))))
    (λ r m. contained-item book r ((h.records r).1 ((k.records r).0 (item-contained other r m))))
