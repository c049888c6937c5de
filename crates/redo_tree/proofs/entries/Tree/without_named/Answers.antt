use Rattle.std.proofs.Common.{◌∙◌, ap, subst, sym}
use Rattle.redo_names.specs.Paths.{is_among}
use Rattle.redo_tree.specs.Tree.{IsTree, tree_of, without}
use Rattle.redo_tree.proofs.PartingLemmas.{IsKept-distinct, distinct-nodes, noted-without, without-distinct}
use Rattle.redo_tree.proofs.WithoutLemmas.{IsTree-without}
use Rattle.redo_tree.proofs.entries.Tree.without_named.Goals as goal

pub of_entries-requires : goal.of_entries-requires
of_entries-requires c =
    let es = c.self.inside.entries in
    let kept = c.in_ok-entries.entries in
    let names = c.args.names.now in
    let d = distinct-nodes es c.each_once.ensures in
    let k = distinct-nodes kept c.each_once-2.ensures in
    let same = without-distinct es kept names c.self.invariant.tree d k c.in_ok-entries.ensures in
    IsKept-distinct kept c.in_ok-defaults.defaults k
    (subst IsTree (sym same) (IsTree-without (tree_of es) names c.self.invariant.tree))
    (noted-without c.self.inside.defaults c.in_ok-defaults.defaults (tree_of es) (tree_of kept) names c.self.invariant.tree same
    (λ d. c.in_ok-defaults.ensures.among d ∙ ap (λ ds. is_among ds d) c.as_slice.ensures) c.self.invariant.noted)

pub returns : goal.returns
returns c =
    let es = c.self.inside.entries in
    let kept = c.in_ok-entries.entries in
    let names = c.args.names.now in
    let d = distinct-nodes es c.each_once.ensures in
    let k = distinct-nodes kept c.each_once-2.ensures in
    c.of_entries.ensures ∙ without-distinct es kept names c.self.invariant.tree d k c.in_ok-entries.ensures
    ∙ ap (λ t. without t names) c.self.view_is
