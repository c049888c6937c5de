use Rattle.std.proofs.Common.{rules}
use Rattle.redo_names.specs.inside.Index.{hash_of}
use Rattle.redo_names.proofs.index.hash_of.Goals as goal

pub returns : goal.returns
unfolding hash_of
returns c = search rules
