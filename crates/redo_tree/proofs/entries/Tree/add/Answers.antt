use Rattle.std.proofs.Common.{◌≡◌, ◌∙◌, ap, sym, subst, None}
use Rattle.std.specs.Prelude.{Ok}
use Rattle.redo_path.specs.Names.{IsPath}
use Rattle.redo_tree.specs.Tree.{refusal, node_of, tree_of, with_node}
use Rattle.redo_tree.proofs.GrowLemmas.{added-free}
use Rattle.redo_tree.proofs.KeptLemmas.{IsKept-noted, IsKept-with, absent}
use Rattle.redo_tree.proofs.NodeLemmas.{tree_of-last}
use Rattle.redo_tree.proofs.entries.Tree.add.Goals as goal

pub invariant_of-self : goal.invariant_of-self
invariant_of-self c = IsKept-noted c.self.inside.entries c.self.inside.defaults c.note_default.new.dirs c.self.invariant c.note_default.ensures.kept

pub invariant_of-self-2 : goal.invariant_of-self-2
invariant_of-self-2 c =
    let m = c.self.inside.entries in
    let dirs = c.self.inside.defaults in
    let path = c.in_ok-path.path in
    let entry = c.args.entry in
    let same = c.in_ok-path.ensures.cases in
    let free : refusal (tree_of m) path (node_of entry) ≡ None = subst (λ p. refusal (tree_of m) p (node_of entry) ≡ None) (sym same) (subst (λ t. refusal t c.args.path.now (node_of entry) ≡ None) (sym c.self.view_is) c.in_ok-check_place.ensures.place) in
    let last = c.in_ok-insert.ensures.new (absent m dirs path entry c.self.invariant free) in
    let noted = IsKept-noted m dirs c.note_default.new.dirs c.self.invariant c.note_default.ensures.kept in
    IsKept-with m c.insert.new.self c.note_default.new.dirs path entry noted c.in_ok-note_default.ensures.noted (subst IsPath (sym same) c.in_ok-check_place.ensures.path) free last c.in_ok-insert.ensures.updates

pub returns : goal.returns
returns c =
    let m = c.self.inside.entries in
    let dirs = c.self.inside.defaults in
    let path = c.in_ok-path.path in
    let entry = c.args.entry in
    let same = c.in_ok-path.ensures.cases in
    let free : refusal (tree_of m) path (node_of entry) ≡ None = subst (λ p. refusal (tree_of m) p (node_of entry) ≡ None) (sym same) (subst (λ t. refusal t c.args.path.now (node_of entry) ≡ None) (sym c.self.view_is) c.in_ok-check_place.ensures.place) in
    let last = c.in_ok-insert.ensures.new (absent m dirs path entry c.self.invariant free) in
    added-free c.args.self.now c.args.path.now (node_of entry) c.in_ok-check_place.ensures.place
    ∙ ap Ok (sym (ap tree_of last ∙ tree_of-last m path entry ∙ (λ i. with_node (c.self.view_is i) (same i) (node_of entry))))
