use Rattle.std.proofs.Common.{◌∙◌, ◌∷◌, [], ap, false, map, sym}
use Rattle.redo_script.specs.Syntax.{byte}
use Rattle.redo_script.specs.Tokens.{word}
use Rattle.redo_script.specs.Reading.{read_on}
use Rattle.redo_script.specs.inside.Lexer.{reader_of}
use Rattle.redo_script.proofs.HandedLemmas.{handed}
use Rattle.redo_script.proofs.ReadOnceLemmas.{handed_on, quoted_once}
use Rattle.redo_script.proofs.reader.passes.Passes.quoted_word.Goals as goal

pub returns-clause-reads : goal.returns-clause-reads
returns-clause-reads c =
    let old = c.args.self.now in
    let r = reader_of old.lexer in
    let bytes = c.in-Some.bytes.now in
    let rest = c.in-Some.rest.now in
    let once = quoted_once r c.args.text.now bytes rest c.requires.between.0 c.requires.between.1 (c.in-Some.ensures.reads r c.requires.between.0) in
    let same = once ∙ ap (λ l. handed (word l false (map byte bytes) ∷ []) (read_on r rest)) (sym c.line.ensures) in
    λ total h. rw (c.past_blanks.ensures.reads r c.requires.between.0) (handed_on old.statements c.lent.new.self (word c.line.result false (map byte bytes)) (read_on r rest) total c.in_ok-lent.ensures.reads (rw same at h))
