use Rattle.std.proofs.lemmas.Result.{err_from_is_err_and}
use Rattle.redo_script.specs.inside.Lexer.{reader_of}
use Rattle.redo_script.proofs.HandedLemmas.{end_fails, last_taken}
use Rattle.redo_script.proofs.reader.passes.Passes.finish.Goals as goal

pub returns-in_err-tokens : goal.returns-in_err-tokens
returns-in_err-tokens c =
    let p = err_from_is_err_and c.from_residual.result c.from_residual.ensures.1 in
    let old = c.args.self.now in
    λ total h. rw (p.1, p.2) (end_fails old.statements (reader_of old.lexer) _ total c.in_err-tokens.ensures h)

pub returns : goal.returns
returns c =
    let old = c.args.self.now in
    λ total h. c.finish-2.ensures total (last_taken old.statements c.tokens.new.self (reader_of old.lexer) _ total c.in_ok-tokens.ensures c.in_ok-tokens-2.ensures.reads h)
