use Rattle.redo_grammar.proofs.RefusedTextLemmas.{refused_text}
use Rattle.redo_grammar.proofs.laws.refused_texts_have_their_fault.Goals as goal

pub returns : goal.returns
returns c = refused_text
