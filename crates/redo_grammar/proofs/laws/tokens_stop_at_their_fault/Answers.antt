use Rattle.redo_grammar.proofs.StopTokenLemmas.{stops_tokens}
use Rattle.redo_grammar.proofs.laws.tokens_stop_at_their_fault.Goals as goal

pub returns : goal.returns
returns c = stops_tokens
