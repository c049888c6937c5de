use Rattle.std.proofs.Common.{◌≡◌, ◌++◌, map}
use Rattle.redo_tree.specs.Tree.{files_of}
use Rattle.redo_tree.proofs.NodeLemmas.{seen}
use Rattle.redo_tree.proofs.entries.Tree.files.Given as goal

-- the paths so far, and those of the files that are left, are those of all files
abbrev pub invariant-loop-path : goal.invariant-loop-path
invariant-loop-path l = map (λ p. p.now) l.paths.items ++ files_of (seen l.path-iterator) ≡ files_of l.self
