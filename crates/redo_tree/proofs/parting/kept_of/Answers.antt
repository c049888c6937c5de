use Rattle.std.proofs.Common.{◌≡◌, ◌+◌, ◌++◌, ◌∷◌, ◌∙◌, [], ap, append_assoc, drop, sym}
use Rattle.redo_tree.specs.Tree.{node_of, without}
use Rattle.redo_tree.specs.inside.Parting.{nodes_of}
use Rattle.redo_tree.proofs.NodeLemmas.{drop-at}
use Rattle.redo_tree.proofs.PartingLemmas.{distinct-nodes, is_new, next-without}
use Rattle.redo_tree.proofs.parting.kept_of.Goals as goal

pub pass-requires : goal.pass-requires
pass-requires c =
    let es = c.args.entries.now in
    let names = c.args.names.now in
    let kept = c.entries.kept in
    let path = c.at.result.0.now in
    let entry = c.at.result.1.now in
    let left = nodes_of (drop (c.entries.number + 1) es) in
    let cut : nodes_of (drop c.entries.number es) ≡ (path, node_of entry) ∷ left = ap nodes_of (drop-at es c.entries.number (path, entry) c.at.ensures.pair) in
    let whole = ap (λ ns. nodes_of kept ++ without ns names) (sym cut) ∙ c.entries.invariant in
    is_new kept (path, node_of entry) left (nodes_of es) names (distinct-nodes es c.each_once.ensures) whole

pub entries-preserved : goal.entries-preserved
entries-preserved c =
    let es = c.args.entries.now in
    let names = c.args.names.now in
    let kept = nodes_of c.entries.kept in
    let path = c.at.result.0.now in
    let entry = c.at.result.1.now in
    let left = nodes_of (drop (c.entries.number + 1) es) in
    let cut : nodes_of (drop c.entries.number es) ≡ (path, node_of entry) ∷ left = ap nodes_of (drop-at es c.entries.number (path, entry) c.at.ensures.pair) in
    ap (λ ns. ns ++ without left names) c.in_ok-pass.ensures
    ∙ append_assoc kept (without ((path, node_of entry) ∷ []) names) (without left names)
    ∙ ap (λ ns. kept ++ ns) (next-without (path, node_of entry) left names)
    ∙ ap (λ ns. kept ++ without ns names) (sym cut) ∙ c.entries.invariant
