use Rattle.std.proofs.Common.{◌∙◌, ◌∷◌, ◌-◌, [], ap, drop, length, rules, sym, take}
use Rattle.redo_script.specs.Tokens.{semicolon}
use Rattle.redo_script.specs.Reading.{read_on}
use Rattle.redo_script.specs.inside.Lexer.{reader_of}
use Rattle.redo_script.proofs.HandedLemmas.{handed}
use Rattle.redo_script.proofs.ReadOnceLemmas.{handed_on, semicolon_once}
use Rattle.redo_script.proofs.reader.passes.Passes.semicolon.Goals as goal

pub returns-clause-reads : goal.returns-clause-reads
returns-clause-reads c =
    let old = c.args.self.now in
    let r = reader_of old.lexer in
    let text = c.args.text.now in
    let rest = take (length text - 1) (drop 1 text) in
    let once = semicolon_once r text c.in-59.len_at_least (search rules) (sym c.begins_semicolon.ensures ∙ c.if-begins_semicolon.false) c.requires.between.0 c.requires.between.1 in
    let same = once ∙ ap (λ l. handed (semicolon l ∷ []) (read_on r rest)) (sym c.line.ensures) in
    λ total h. rw (c.past_blanks.ensures.reads r c.requires.between.0) (handed_on old.statements c.semicolon.new.self (semicolon c.line.result) (read_on r rest) total c.in_ok-semicolon.ensures.reads (rw same at h))
