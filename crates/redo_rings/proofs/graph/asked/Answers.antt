use Rattle.std.proofs.Common.{◌∙◌, ◌++◌, ◌∷◌, [], ℕ, List, Some, ap, filter, map, sym}
use Rattle.redo_names.specs.Paths.{is_among}
use Rattle.redo_record.specs.Progress.{changes}
use Rattle.redo_rings.proofs.GraphLemmas.{asked-more}
use Rattle.redo_rings.proofs.graph.asked.Goals as goal

pub loop-dep-preserved : goal.loop-dep-preserved
loop-dep-preserved c =
    let names = c.args.names.now in
    let d = c.dep-item.result in
    c.in_ok-push_asked.ensures
    ∙ ap (λ l. l ++ map (λ (p : List ℕ). Some p) (filter (is_among names) (changes (d ∷ [])))) c.loop-dep.invariant
    ∙ sym (asked-more names c.deref-dep-items.result.now c.loop-dep.dep-index d c.loop-dep-test.true c.dep-item.is)
