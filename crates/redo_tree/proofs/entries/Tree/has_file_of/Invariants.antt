use Rattle.redo_tree.specs.inside.Lengths.{NoneLongBelow}
use Rattle.redo_tree.proofs.entries.Tree.has_file_of.Given as goal

abbrev pub invariant-entries : goal.invariant-entries
invariant-entries l = NoneLongBelow l.least l.self-inside.entries l.number
