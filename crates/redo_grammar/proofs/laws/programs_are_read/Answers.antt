use Rattle.redo_grammar.proofs.OnlyScriptLemmas.{only_programs}
use Rattle.redo_grammar.proofs.laws.programs_are_read.Goals as goal

pub returns : goal.returns
returns c = only_programs
