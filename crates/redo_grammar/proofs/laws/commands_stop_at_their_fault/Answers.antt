use Rattle.redo_grammar.proofs.RefusedLemmas.{refused}
use Rattle.redo_grammar.proofs.laws.commands_stop_at_their_fault.Goals as goal

pub returns : goal.returns
returns c = refused
