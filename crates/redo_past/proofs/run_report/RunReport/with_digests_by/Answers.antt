use Rattle.std.proofs.Common.{◌∙◌, ap}
use Rattle.redo_past.specs.Past.{PastView}
use Rattle.redo_past.specs.inside.Books.{with_new_book}
use Rattle.redo_past.proofs.run_report.RunReport.with_digests_by.Goals as goal

-- the past is the same, and so is the report with its book
pub returns : goal.returns
returns g c = ap (λ (past : PastView). with_new_book past c.self.inside.report c.self.inside.book.at) c.in_ok-past.ensures ∙ c.self.view_is
