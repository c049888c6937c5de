use Rattle.redo_book.proofs.TextLemmas.{position_found}
use Rattle.redo_book.proofs.reading.newline_at.Goals as goal

pub returns : goal.returns
returns c = position_found c.args.bytes.now c.memchr.result c.memchr.ensures
