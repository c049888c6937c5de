use Rattle.redo_tree.specs.Tree.{Directory}
use Rattle.redo_tree.proofs.WithoutLemmas.{directory_stays, stood}
use Rattle.redo_tree.proofs.laws.directories_stay.Goals as goal

pub returns : goal.returns
returns c = λ tree out path is. (stood tree out path Directory is, directory_stays tree out path is)
