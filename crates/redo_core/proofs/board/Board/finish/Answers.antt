use Rattle.std.proofs.Common.{◌≡◌, sym, ap, subst, ◌∙◌}
use Rattle.redo_core.specs.inside.Reported.{AllTold, IsReportOf}
use Rattle.redo_core.specs.Views.{BoardView, request_on, limit_on, rules_on}
use Rattle.redo_past.specs.NewBook.{IsResultOf}
use Rattle.redo_past.specs.Past.{PastView}
use Rattle.redo_report.specs.Reports.{IsReport}
use Rattle.redo_rules.specs.Build.{GivenView}
use Rattle.redo_rules.specs.Results.{IsResult}
use Rattle.redo_core.proofs.ReportedLemmas.{if_ok-more, quiet-inside, report-view, settled-inside, told-inside}
use Rattle.redo_core.proofs.board.Board.finish.Goals as goal
use Rattle.redo_core.proofs.board.Board.finish.Goals.{In_ok-report}

pub report_of-requires-clause-settled : goal.report_of-requires-clause-settled
report_of-requires-clause-settled c =
    let quiet = quiet-inside c.self.inside c.args.self c.self.view_is c.requires in
    settled-inside c.self.inside (c.self.invariant.kept quiet.0) quiet.1

pub report_of-requires-clause-told : goal.report_of-requires-clause-told
report_of-requires-clause-told c =
    let quiet = quiet-inside c.self.inside c.args.self c.self.view_is c.requires in
    let P : GivenView → Type 0 = λ g. AllTold g c.self.inside.table in
    subst P (sym (c.deref.ensures ∙ c.in_ok-given.ensures)) (told-inside c.self.inside (c.self.invariant.kept quiet.0))

-- what the table comes to is the report of the board's build
built : (c : In_ok-report) → IsReport (rules_on c.args.self) (request_on c.args.self) (limit_on c.args.self) c.in_ok-report.report
built c =
    let P : GivenView → Type 0 = λ g. IsReportOf g c.self.inside.table c.in_ok-report.report in
    report-view c.self.inside c.self.invariant.kept c.args.self c.self.view_is c.requires c.in_ok-report.report
    (subst P (c.deref.ensures ∙ c.in_ok-given.ensures) c.in_ok-report.ensures)

pub with_book-requires-clause-rows : goal.with_book-requires-clause-rows
with_book-requires-clause-rows c = (built (goal.at-with_book-requires-clause-rows c).In_ok-report).rows_ordered

pub with_book-requires-clause-files : goal.with_book-requires-clause-files
with_book-requires-clause-files c = (built (goal.at-with_book-requires-clause-files c).In_ok-report).files_ordered

pub returns : goal.returns
returns c =
    let d = (goal.at-returns c).In_ok-report in
    let past : c.past.result.now ≡ c.args.self.given.past =
    c.past.ensures ∙ ap (λ (g : GivenView). g.past) (c.deref-2.ensures ∙ d.in_ok-given.ensures) ∙ ap (λ (v : BoardView). v.given.past) c.self.view_is in
    if_ok-more c.with_book.result (IsResultOf c.past.result.now c.in_ok-report.report) (IsResult c.args.self.given)
    (λ whole made.
    let P : PastView → Type 0 = λ p. IsResultOf p c.in_ok-report.report whole in
    record { report = c.in_ok-report.report; built = built d; with_book = subst P past made })
    c.with_book.ensures
