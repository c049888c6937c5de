use Rattle.std.proofs.Common.{◌∙◌}
use Rattle.redo_names.proofs.PathLemmas.{numbered}
use Rattle.redo_names.proofs.set.PathSet.contains.Goals as goal

pub returns : goal.returns
returns c = c.is_some.ensures ∙ numbered c.args.self.now c.args.path.now c.number_of.result c.number_of.ensures
