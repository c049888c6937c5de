use Rattle.std.proofs.Common.{◌≡◌, ◌++◌, Some, None, sym}
use Rattle.std.specs.Prelude.{codes}
use Rattle.std.proofs.lemmas.Bool.Decides.{Decides-eqb}
use Rattle.std.proofs.lemmas.Slice.Eq.{strip_prefix_is}
use Rattle.redo_script.proofs.InterpreterLemmas.{other_interpreter}
use Rattle.redo_script.proofs.reader.has_fit_interpreter.Goals as goal

pub returns-in-Some-strip_prefix : goal.returns-in-Some-strip_prefix
returns-in-Some-strip_prefix c =
    let text : c.args.text.now ≡ codes "#!" ++ c.in-Some.interpreter.now = strip_prefix_is Decides-eqb c.args.text.now (codes "#!") (Some c.in-Some.interpreter) c.in-Some.ensures.cases in
    let interpreter : c.in-Some.interpreter.now ≡ codes "/bin/sh -e" ++ c.in-Some-strip_prefix.rest.now = strip_prefix_is Decides-eqb c.in-Some.interpreter.now (codes "/bin/sh -e") (Some c.in-Some-strip_prefix.rest) c.in-Some-strip_prefix.ensures.cases in
    rw (text, interpreter) c.is_line_end.ensures

pub returns-in-None : goal.returns-in-None
returns-in-None c =
    let text : c.args.text.now ≡ codes "#!" ++ c.in-Some.interpreter.now = strip_prefix_is Decides-eqb c.args.text.now (codes "#!") (Some c.in-Some.interpreter) c.in-Some.ensures.cases in
    rw text (sym (other_interpreter c.in-Some.interpreter.now (strip_prefix_is Decides-eqb c.in-Some.interpreter.now (codes "/bin/sh -e") None c.in-None.ensures.cases)))
