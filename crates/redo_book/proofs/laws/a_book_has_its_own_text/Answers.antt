use Rattle.std.proofs.Common.{refl}
use Rattle.redo_book.specs.Book.{book_lines, text_of}
use Rattle.redo_book.proofs.TextLemmas.{one_book}
use Rattle.redo_book.proofs.laws.a_book_has_its_own_text.Goals as goal

pub returns : goal.returns
returns c = λ book other h k e. one_book (text_of (book_lines book)) book other (record { ordered = h; whole = refl }) (record { ordered = k; whole = e })
