use Rattle.redo_grammar.proofs.MemoryLemmas.{of_texts}
use Rattle.redo_grammar.proofs.laws.no_text_wants_memory.Goals as goal

pub returns : goal.returns
returns c = of_texts
