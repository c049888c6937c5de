use Rattle.std.proofs.Common.{refl}
use Rattle.redo_past.specs.inside.Books.{new_text}
use Rattle.redo_past.proofs.WholeLemmas.{with-parts}
use Rattle.redo_past.proofs.run_report.RunReport.without_book.Goals as goal

pub returns : goal.returns
returns c =
    let report = c.self.inside.report in
    let past = c.self.inside.past in
    (new_text past report.rows.items, with-parts past report c.args.self c.self.inside.book.at (new_text past report.rows.items) c.self.invariant.place refl c.self.view_is)
