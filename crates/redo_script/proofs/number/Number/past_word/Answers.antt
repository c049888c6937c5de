use Rattle.redo_script.proofs.WordLemmas.{number_alone}
use Rattle.redo_script.proofs.number.Number.past_word.Goals as goal

pub returns-in-Literal : goal.returns-in-Literal
returns-in-Literal c = rw (c.in-Literal.is, ← c.as_slice.ensures) (number_alone c.args.self.digits c.args.self.value c.as_slice.result.now c.past_bytes.result c.past_bytes.ensures)
