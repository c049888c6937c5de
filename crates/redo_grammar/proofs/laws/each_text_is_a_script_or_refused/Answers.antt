use Rattle.redo_grammar.proofs.WholeTextLemmas.{each_text}
use Rattle.redo_grammar.proofs.laws.each_text_is_a_script_or_refused.Goals as goal

pub returns : goal.returns
returns c = each_text
