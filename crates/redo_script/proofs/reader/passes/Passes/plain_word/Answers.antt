use Rattle.std.proofs.Common.{◌∙◌, ◌∷◌, [], ap, map, sym, true}
use Rattle.redo_script.specs.Syntax.{byte}
use Rattle.redo_script.specs.Tokens.{word}
use Rattle.redo_script.specs.Reading.{read_on}
use Rattle.redo_script.specs.inside.Lexer.{reader_of}
use Rattle.redo_script.proofs.HandedLemmas.{handed}
use Rattle.redo_script.proofs.ReadOnceLemmas.{handed_on, plain_once}
use Rattle.redo_script.proofs.reader.passes.Passes.plain_word.Goals as goal

pub returns-clause-reads : goal.returns-clause-reads
returns-clause-reads c =
    let old = c.args.self.now in
    let r = reader_of old.lexer in
    let bytes = c.split_at.result.0.now in
    let rest = c.split_at.result.1.now in
    let once = plain_once r c.args.text.now bytes rest c.plain_len.result c.requires.between.0 c.requires.between.1 c.split_at.ensures.by_index.0 c.split_at.ensures.front c.plain_len.ensures.plain (sym c.is_empty.ensures ∙ c.if-is_empty.false) (sym c.is_word_end.ensures ∙ c.if-not-is_word_end.false) in
    let same = once ∙ ap (λ l. handed (word l true (map byte bytes) ∷ []) (read_on r rest)) (sym c.line.ensures) in
    λ total h. rw (c.past_blanks.ensures.reads r c.requires.between.0) (handed_on old.statements c.lent.new.self (word c.line.result true (map byte bytes)) (read_on r rest) total c.in_ok-lent.ensures.reads (rw same at h))
