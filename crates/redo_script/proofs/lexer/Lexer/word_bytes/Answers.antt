use Rattle.std.proofs.Common.{sym, ◌∙◌}
use Rattle.redo_script.specs.inside.Lexer.{reader_of}
use Rattle.redo_script.proofs.RunLemmas.{word_over}
use Rattle.redo_script.proofs.lexer.Lexer.word_bytes.Goals as goal

pub returns-clause-reads : goal.returns-clause-reads
returns-clause-reads c =
    sym (word_over (reader_of c.plain_bytes.new.self) (reader_of c.push_word.new.self) c.in_ok-left.left.now c.in_ok-left.ensures.mode (sym c.is_word_end.ensures ∙ c.if-not-is_word_end.false) c.in_ok-push_word.ensures.reads) ∙ c.in_ok-left.ensures.reads
