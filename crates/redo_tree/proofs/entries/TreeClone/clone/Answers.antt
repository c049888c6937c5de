use Rattle.std.proofs.Common.{◌∙◌}
use Rattle.redo_tree.proofs.WithoutLemmas.{without-none}
use Rattle.redo_tree.proofs.entries.TreeClone.clone.Goals as goal

pub returns : goal.returns
returns c = record { cases = c.in_ok-copy.ensures ∙ without-none c.args.self.now }
