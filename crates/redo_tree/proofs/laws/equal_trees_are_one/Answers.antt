use Rattle.redo_tree.proofs.AlikeLemmas.{alike, same_entries}
use Rattle.redo_tree.proofs.laws.equal_trees_are_one.Goals as goal

pub returns : goal.returns
returns c = λ tree other. (same_entries tree other, alike tree other)
