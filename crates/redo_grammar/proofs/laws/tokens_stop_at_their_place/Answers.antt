use Rattle.redo_grammar.proofs.StopTokenLemmas.{stops_at}
use Rattle.redo_grammar.proofs.laws.tokens_stop_at_their_place.Goals as goal

pub returns : goal.returns
returns c = stops_at
