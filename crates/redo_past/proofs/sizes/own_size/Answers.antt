use Rattle.std.proofs.Common.{◌≡◌, ◌∙◌, ◌++◌, ◌∷◌, ◌<◌, ◌+◌, [], ap, arith, length, subst, sym, take}
use Rattle.std.proofs.lemmas.List.{take_more}
use Rattle.redo_record.specs.declared.deps.Dep.{Dep}
use Rattle.redo_past.specs.inside.Books.{AreSized}
use Rattle.redo_past.proofs.NotedLemmas.{more-sized, none-sized}
use Rattle.redo_past.proofs.sizes.own_size.Goals as goal

pub loop-dep-init : goal.loop-dep-init
loop-dep-init c = none-sized c.args.files.now

pub loop-dep-preserved : goal.loop-dep-preserved
loop-dep-preserved c =
    let own = c.args.own.now in
    let i = c.loop-dep.dep-index in
    let x : Dep = c.dep-item.result in
    let below : i < length own = omega (arith, c.loop-dep-test.true, c.loop-dep.auto.dep-index-end) in
    let step : take (i + 1) own ≡ take i own ++ x ∷ [] = take_more own i x below ∙ ap (λ d. take i own ++ d ∷ []) (sym c.dep-item.is) in
    subst (λ ds. AreSized c.args.files.now ds c.in_ok-size.size) (sym step) (more-sized c.args.files.now (take i own) (x ∷ []) c.loop-dep.size c.entry_size.result c.in_ok-size.size c.loop-dep.invariant c.entry_size.ensures c.in_ok-size.ensures.sum)
