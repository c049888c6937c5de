use Rattle.redo_past.proofs.SameRowsLemmas.{results-of-same}
use Rattle.redo_past.proofs.past.Past.with_book.Goals as goal

pub returns : goal.returns
returns c =
    let same = c.with_row_digests.ensures in
    results-of-same c.args.self.now c.args.report c.with_row_digests.result c.with_book_of_rows.result same.rows same.files same.begun c.with_book_of_rows.ensures
