use Rattle.std.proofs.Common.{[]}
use Rattle.redo_script.proofs.StatementLemmas.{stack_push}
use Rattle.redo_script.proofs.parser.Parser.done_word.Goals as goal

pub returns-in-Some : goal.returns-in-Some
returns-in-Some c = rw (c.in-Some.ensures.items, stack_push [] c.pop.new.self.items c.in-Some.open) c.close_loop.ensures
