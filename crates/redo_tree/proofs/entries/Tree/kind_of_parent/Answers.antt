use Rattle.std.proofs.Common.{◌≡◌, ◌∙◌, [], ap, arith, sym}
use Rattle.std.proofs.lemmas.Grind.{common_steps}
use Rattle.redo_tree.specs.Tree.{kind_of, node_at}
use Rattle.redo_tree.proofs.entries.Tree.kind_of_parent.Goals as goal

pub returns-then-is_empty : goal.returns-then-is_empty
returns-then-is_empty c =
    let none : c.args.text.now ≡ [] = grind (arith, common_steps) in
    sym (ap (λ path. kind_of (node_at c.args.self.now path)) none ∙ ap kind_of c.is_tree.ensures.root)
