use Rattle.std.proofs.Common.{◌≡◌, ◌∙◌, ap, map, sym}
use Rattle.redo_names.specs.Paths.{is_among}
use Rattle.redo_past.specs.Past.{PastView}
use Rattle.redo_past.proofs.LoopLemmas.{if-so}
use Rattle.redo_explain.specs.Views.{begun_view}
use Rattle.redo_explain.specs.inside.Listed.{begun_in}
use Rattle.redo_explain.proofs.BegunLemmas.{are-reasons, in-order}
use Rattle.redo_explain.proofs.begun.reasons.Goals as goal

pub returns : goal.returns
returns c =
    let past : PastView = c.args.past.now in
    let report = c.args.report.now in
    let requested = c.in_ok-requested.requested in
    if-so _ _ c.begun_by.result (λ begun told limits given is_given built.
    let same : given.past ≡ past =
    c.a_tree_has_one_past.ensures given.past past is_given.of_tree.is_past c.is_past.ensures is_given.of_tree.of_tree in
    are-reasons given report built (c.reports_give_reasons.ensures given) requested
    (λ p. c.in_ok-requested.ensures.among p ∙ ap (λ ps. is_among ps p) (sym is_given.requested)) (map begun_view begun.items)
    (told (in-order given report built)
    ∙ ap (λ (v : PastView). begun_in v requested report.rows.items report.begun.items) (sym same))) c.begun_by.ensures
