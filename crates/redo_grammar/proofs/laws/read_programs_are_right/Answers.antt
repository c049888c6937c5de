use Rattle.redo_grammar.proofs.FoundScriptLemmas.{found_programs}
use Rattle.redo_grammar.proofs.laws.read_programs_are_right.Goals as goal

pub returns : goal.returns
returns c = found_programs
