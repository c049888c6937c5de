use Rattle.std.proofs.Common.{◌∙◌, ◌∷◌, [], refl, sym}
use Rattle.redo_script.specs.Tokens.{newline}
use Rattle.redo_script.specs.inside.Parser.{parser_of}
use Rattle.redo_script.proofs.ReadTokenLemmas.{is_none, is_read, keeps_wanting, one_more}
use Rattle.redo_script.proofs.statements.Statements.newline.Goals as goal

pub returns : goal.returns
returns c =
    let old = c.args.self.now in
    let p = parser_of old.parser in
    let token = newline c.args.line in
    let none = is_none old.fault (sym c.is_some.ensures ∙ c.if-is_some.false) in
    record {
      reads = λ ts total h. c.keep.ensures.reads ts total (one_more p c.separator-outcome.new.self token ts total c.separator-outcome.result c.separator-outcome.ensures (is_read old (token ∷ ts) total none h));
      memory = keeps_wanting p (parser_of c.separator-outcome.new.self) (token ∷ []) c.separator-outcome.result c.keep.result (one_more p c.separator-outcome.new.self token [] _ c.separator-outcome.result c.separator-outcome.ensures refl) c.keep.ensures.memory;
    }
