use Rattle.std.proofs.Common.{rules, ◌≡◌}
use Rattle.redo_book.proofs.WordLemmas.{short_text}
use Rattle.redo_book.proofs.lines.strip_word.Goals as goal

pub returns-in_err-front : goal.returns-in_err-front
returns-in_err-front c = search (rules, short_text)
