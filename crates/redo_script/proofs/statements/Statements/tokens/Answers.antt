use Rattle.std.proofs.Common.{◌∙◌, ◌++◌, [], map, refl, sym}
use Rattle.redo_script.specs.inside.Lexer.{token_of}
use Rattle.redo_script.specs.inside.Parser.{parser_of}
use Rattle.redo_script.proofs.ReadTokenLemmas.{is_none, is_read, keeps_wanting}
use Rattle.redo_script.proofs.statements.Statements.tokens.Goals as goal

pub returns : goal.returns
returns c =
    let old = c.args.self.now in
    let p = parser_of old.parser in
    let ts = map token_of c.args.tokens.now.items in
    let none = is_none old.fault (sym c.is_some.ensures ∙ c.if-is_some.false) in
    record {
      reads = λ us total h. c.keep.ensures.reads us total (c.tokens-outcome.ensures us total (is_read old (ts ++ us) total none h));
      memory = keeps_wanting p (parser_of c.tokens-outcome.new.self) (ts ++ []) c.tokens-outcome.result c.keep.result (c.tokens-outcome.ensures [] _ refl) c.keep.ensures.memory;
    }
