use Rattle.redo_tree.specs.inside.Digests.{AreMade}
use Rattle.redo_tree.proofs.file_digests.make_fours.Given as goal

-- each digest so far is that of its file
abbrev pub invariant-entries : goal.invariant-entries
invariant-entries l = AreMade l.entries l.made
