use Rattle.std.proofs.Common.{◌≡◌, ◌==◌, ◌∙◌, ap, length, sym}
use Rattle.std.proofs.lemmas.Bool.Decides.{Decides-eqb}
use Rattle.redo_tree.specs.Tree.{tree_eq, tree_of}
use Rattle.redo_tree.proofs.AlikeLemmas.{alike, same_entries}
use Rattle.redo_tree.proofs.KeptLemmas.{both_ways, kept-among, one-kept}
use Rattle.redo_tree.proofs.entries.TreePartialEq.eq.Goals as goal

pub returns-then-len : goal.returns-then-len
returns-then-len c =
    let es = c.self.inside.entries in
    let fs = c.other.inside.entries in
    let dirs = c.self.inside.defaults in
    let others = c.other.inside.defaults in
    let tree = c.args.self.now in
    let other = c.args.other.now in
    both_ways c.are_same.result (tree_eq tree other)
    (λ yes.
    let both = c.are_same.ensures.0 yes in
    alike tree other (sym c.self.view_is ∙ one-kept es fs dirs others c.self.invariant c.other.invariant both.0 both.1 ∙ c.other.view_is))
    (λ yes.
    let same : tree_of es ≡ tree_of fs = c.self.view_is ∙ same_entries tree other yes ∙ sym c.other.view_is in
    c.are_same.ensures.1 (kept-among es fs dirs others c.self.invariant c.other.invariant same, kept-among fs es others dirs c.other.invariant c.self.invariant (sym same)))

pub returns-else-len : goal.returns-else-len
returns-else-len c =
    let tree = c.args.self.now in
    let other = c.args.other.now in
    both_ways (c.len.result == c.len-2.result) (tree_eq tree other)
    (λ yes. absurd (c.if-len.false ((Decides-eqb c.len.result c.len-2.result).0 yes)))
    (λ yes. absurd (c.if-len.false (c.len.ensures.count ∙ ap length (same_entries tree other yes) ∙ sym c.len-2.ensures.count)))
