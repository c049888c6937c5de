use Rattle.std.proofs.Common.{◌+◌, ◌++◌, drop, map, rules}
use Rattle.std.proofs.lemmas.Result.{err_from_is_err_and}
use Rattle.redo_script.specs.inside.Lexer.{token_of}
use Rattle.redo_script.specs.inside.Parser.{parser_of}
use Rattle.redo_script.proofs.ReadTokenLemmas.{token_read, token_fails, tokens_next}
use Rattle.redo_script.proofs.parser.Parser.tokens.Goals as goal

pub loop-place-preserved : goal.loop-place-preserved
loop-place-preserved c =
    let olds = c.args.tokens.now.items in
    let k = c.loop-place.place-index in
    let more = tokens_next olds c.loop-place.place-items k c.replace-token.result c.replace-token.new.dest (search rules) (search rules) c.loop-place.invariant.left in
    record {
      reads = λ ts total h. token_read (parser_of c.loop-place.self) (parser_of c.token.new.self) (token_of c.replace-token.result) (map token_of (drop (k + 1) olds) ++ ts) total c.in_ok-token.ensures (rw more.0 at (c.loop-place.invariant.reads ts total h));
      left = more.1;
    }

pub returns-in_err-token : goal.returns-in_err-token
returns-in_err-token c =
    let p = err_from_is_err_and c.from_residual.result c.from_residual.ensures.1 in
    let olds = c.args.tokens.now.items in
    let k = c.loop-place.place-index in
    let more = tokens_next olds c.loop-place.place-items k c.replace-token.result c.replace-token.new.dest (search rules) (search rules) c.loop-place.invariant.left in
    λ ts total h. rw (p.1, p.2) (token_fails (parser_of c.loop-place.self) (token_of c.replace-token.result) (map token_of (drop (k + 1) olds) ++ ts) _ total c.in_err-token.ensures (rw more.0 at (c.loop-place.invariant.reads ts total h)))
