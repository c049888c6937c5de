use Rattle.std.proofs.Common.{sym, ◌∙◌, inr}
use Rattle.std.proofs.lemmas.Result.{err_from_is_err_and}
use Rattle.redo_script.proofs.ReadTextLemmas.{nul_fails, interpreter_fails, tokens_follow}
use Rattle.redo_script.proofs.reader.read.Goals as goal

pub returns-in_err-refuse_nul : goal.returns-in_err-refuse_nul
returns-in_err-refuse_nul c =
    let p = err_from_is_err_and c.from_residual.result c.from_residual.ensures.1 in
    rw (p.1, p.2) (nul_fails c.args.text.now _ c.in_err-refuse_nul.ensures)

pub returns-then-not-has_fit_interpreter : goal.returns-then-not-has_fit_interpreter
returns-then-not-has_fit_interpreter c =
    inr (interpreter_fails c.args.text.now c.in_ok-refuse_nul.ensures (sym c.has_fit_interpreter.ensures ∙ c.if-not-has_fit_interpreter.true))

pub returns : goal.returns
returns c =
    rw (tokens_follow c.args.text.now c.in_ok-refuse_nul.ensures (sym c.has_fit_interpreter.ensures ∙ c.if-not-has_fit_interpreter.false)) c.read_statements.ensures
