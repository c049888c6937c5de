use Rattle.redo_script.proofs.ReadTokenLemmas.{is_done}
use Rattle.redo_script.proofs.statements.Statements.finish.Goals as goal

pub returns-in-None : goal.returns-in-None
returns-in-None c = λ total h. rw (is_done c.args.self.now total c.in-None.is h) at c.finish.ensures
