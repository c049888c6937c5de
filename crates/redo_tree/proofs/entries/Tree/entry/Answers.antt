use Rattle.std.proofs.Common.{◌∙◌, ap}
use Rattle.std.specs.Prelude.{option_map}
use Rattle.redo_tree.specs.Tree.{node_at, node_of}
use Rattle.redo_tree.proofs.entries.Tree.entry.Goals as goal

pub returns : goal.returns
returns c = ap (option_map node_of) c.get_by_text.ensures ∙ c.self.invariant.found c.args.text.now ∙ ap (λ t. node_at t c.args.text.now) c.self.view_is
