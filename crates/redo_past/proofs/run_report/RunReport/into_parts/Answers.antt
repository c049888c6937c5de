use Rattle.std.proofs.Common.{◌≡◌, ◌∙◌, ap}
use Rattle.redo_past.specs.inside.Books.{new_text}
use Rattle.redo_past.proofs.WholeLemmas.{with-parts}
use Rattle.redo_past.proofs.run_report.RunReport.into_parts.Goals as goal

pub returns : goal.returns
returns c =
    let report = c.self.inside.report in
    let past = c.self.inside.past in
    let text : c.in_ok-book.book ≡ new_text past report.rows.items = c.in_ok-book.ensures ∙ c.in_ok-text.ensures ∙ ap (new_text past) (c.new-rows.ensures ∙ c.deref.ensures.value) in
    with-parts past report c.args.self c.self.inside.book.at c.in_ok-book.book c.self.invariant.place text c.self.view_is
