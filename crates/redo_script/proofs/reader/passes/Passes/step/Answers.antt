use Rattle.std.proofs.Common.{◌∷◌}
use Rattle.std.proofs.lemmas.Result.{err_from_is_err_and}
use Rattle.redo_script.specs.Reading.{read_on}
use Rattle.redo_script.specs.inside.Lexer.{reader_of}
use Rattle.redo_script.proofs.HandedLemmas.{step_fails}
use Rattle.redo_script.proofs.reader.passes.Passes.step.Goals as goal

pub returns-clause-reads : goal.returns-clause-reads
returns-clause-reads c = λ total h. c.in_ok-hand_over.ensures.reads c.in_ok-left.left.now total (rw c.in_ok-left.ensures.reads h)

pub returns-in_err-left-clause-reads : goal.returns-in_err-left-clause-reads
returns-in_err-left-clause-reads c =
    let p = err_from_is_err_and c.from_residual.result c.from_residual.ensures.1 in
    let old = c.args.self.now in
    λ total h. rw (p.1, p.2) (step_fails old.statements (read_on (reader_of old.lexer) (c.args.byte ∷ c.args.rest.now)) _ total c.in_err-left.ensures.reads h)
