use Rattle.std.proofs.Common.{◌∙◌, ap, flat_map, map}
use Rattle.redo_past.specs.Past.{PastView}
use Rattle.redo_past.proofs.LoopLemmas.{if-so}
use Rattle.redo_tree.specs.Tree.{Tree}
use Rattle.redo_which.specs.Rule.{found_of}
use Rattle.redo_explain.specs.Views.{begun_view}
use Rattle.redo_explain.specs.Words.{reason_line}
use Rattle.redo_explain.proofs.BegunLemmas.{explained}
use Rattle.redo_explain.proofs.text.explain.Goals as goal

pub returns : goal.returns
returns c =
    let past : PastView = c.args.past.now in
    let begun = map begun_view c.in_ok-begun.begun.items in
    if-so _ _ c.lines.result (λ text told limits given is_given built.
    explained past given c.args.report.now begun text.items
    (c.a_tree_has_one_past.ensures given.past past is_given.of_tree.is_past c.is_past.ensures is_given.of_tree.of_tree)
    (c.in_ok-begun.ensures limits given is_given built)
    (told
    ∙ ap (λ (t : Tree). flat_map (reason_line (found_of t)) (map begun_view c.deref-2.result.now)) (c.deref.ensures ∙ c.sources.ensures.sources)
    ∙ ap (λ bs. flat_map (reason_line (found_of past.sources)) (map begun_view bs)) c.deref-2.ensures.value)) c.lines.ensures
