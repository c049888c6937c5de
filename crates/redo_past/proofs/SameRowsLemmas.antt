-- What is a result of a report is one of any report with the same rows.
use Rattle.std.proofs.Common.{◌≡◌, ◌∙◌, ap, subst}
use Rattle.std.specs.Prelude.{Err, IfOk, Ok, Result}
use Rattle.redo_book.specs.Book.{book_lines, text_of}
use Rattle.redo_report.specs.declared.report.Report.{Report}
use Rattle.redo_which.specs.Candidates.{book_path}
use Rattle.redo_past.specs.NewBook.{IsNewBook, IsResultOf, with_file}
use Rattle.redo_past.specs.Past.{PastView}

pub result-of-same : (past : PastView) (report other result : Report) → other.rows.items ≡ report.rows.items
    → other.files ≡ report.files → other.begun ≡ report.begun
    → IsResultOf past other result → IsResultOf past report result
result-of-same past report other result rows files begun h = record {
  rows = h.rows ∙ rows;
  begun = h.begun ∙ ap (λ b. b.items) begun;
  book = h.book;
  new = subst (λ rs. IsNewBook past rs h.book) rows h.new;
  files = h.files ∙ ap (λ f. with_file f.items book_path (text_of (book_lines h.book))) files;
}

pub results-of-same : {E : Type 0} (past : PastView) (report other : Report) (r : Result Report E) → other.rows.items ≡ report.rows.items
    → other.files ≡ report.files → other.begun ≡ report.begun
    → IfOk r (IsResultOf past other) → IfOk r (IsResultOf past report)
results-of-same past report other (Ok result) rows files begun h = result-of-same past report other result rows files begun h
results-of-same past report other (Err e) rows files begun h = h
