use Rattle.redo_grammar.proofs.FoundTokenLemmas.{found_tokens}
use Rattle.redo_grammar.proofs.laws.read_tokens_are_right.Goals as goal

pub returns : goal.returns
returns c = found_tokens
