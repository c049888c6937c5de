use Rattle.redo_grammar.proofs.OnlyTokenLemmas.{only_tokens}
use Rattle.redo_grammar.proofs.laws.tokens_are_read.Goals as goal

pub returns : goal.returns
returns c = only_tokens
