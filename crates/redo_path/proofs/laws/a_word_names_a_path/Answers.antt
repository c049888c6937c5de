use Rattle.redo_path.proofs.CanonicalLemmas.{path-resolved}
use Rattle.redo_path.proofs.laws.a_word_names_a_path.Goals as goal

pub returns : goal.returns
returns c = path-resolved
