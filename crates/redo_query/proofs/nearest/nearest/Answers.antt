use Rattle.std.proofs.Common.{Some, map, subst, sym, take}
use Rattle.redo_query.specs.inside.Best.{IsBest}
use Rattle.redo_query.proofs.PlaceLemmas.{map-more}
use Rattle.redo_query.proofs.nearest.nearest.Goals as goal

pub loop-name-preserved : goal.loop-name-preserved
loop-name-preserved c =
    let names = c.args.names.now in
    let i = c.loop-name.name-index in
    subst (λ ns. IsBest c.args.word.now ns (Some c.nearer.result)) (sym (map-more (λ p. p.now) names i c.name-item.result c.loop-name-test.true c.name-item.is))
    (c.nearer.ensures c.args.word.now (map (λ p. p.now) (take i names)) c.in_ok-count.ensures c.loop-name.invariant)
