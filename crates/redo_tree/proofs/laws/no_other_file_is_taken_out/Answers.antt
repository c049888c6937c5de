use Rattle.redo_tree.proofs.WithoutLemmas.{file_at-without}
use Rattle.redo_tree.proofs.laws.no_other_file_is_taken_out.Goals as goal

pub returns : goal.returns
returns c = file_at-without
