use Rattle.std.proofs.Common.{◌≡◌, ◌<◌, ◌⊎◌, rules, true, slice_set, Some, ◌++◌, ◌∷◌, [], inr, sym, subst, arith, length, refl}
use Rattle.redo_rings.specs.inside.Walks.{IsWay, next_at, seen_at}
use Rattle.redo_rings.proofs.WalkLemmas.{unseen-less}
use Rattle.redo_rings.proofs.WayLemmas.{began-step, way-step}
use Rattle.redo_rings.proofs.walks.walk.Goals as goal

pub loop-end-smaller : goal.loop-end-smaller
loop-end-smaller c =
    let here = c.in-Some.here in
    let way = subst (λ e. IsWay c.args.next.now c.args.seen.now c.loop-end.seen (Some c.args.start) c.loop-end.numbers.items e) c.in-Some.is c.loop-end.invariant.0 in
    let within : here < length c.args.next.now = way.inside here refl in
    unseen-less c.loop-end.seen here (omega (arith, way.size, c.requires.size, within)) c.if-seen-here.false

pub loop-end-preserved : goal.loop-end-preserved
loop-end-preserved c =
    let here = c.in-Some.here in
    let next = c.args.next.now in
    let seen = c.loop-end.seen in
    let ns = c.loop-end.numbers.items in
    let way = subst (λ e. IsWay next c.args.seen.now seen (Some c.args.start) ns e) c.in-Some.is c.loop-end.invariant.0 in
    let within : here < length next = way.inside here refl in
    let pushed : c.push.new.self.items ≡ ns ++ here ∷ [] = search rules in (
      subst (λ ms. IsWay next c.args.seen.now (slice_set seen here true) (Some c.args.start) ms (next_at next here)) (sym pushed)
          (way-step next c.args.seen.now seen (Some c.args.start) ns here way c.requires.graph c.requires.size c.if-seen-here.false),
      inr (began-step next c.args.seen.now seen (Some c.args.start) ns here c.args.start (omega (arith, way.size, c.requires.size, within))
          (subst (λ e. (e ≡ Some c.args.start) ⊎ (seen_at seen c.args.start ≡ true)) c.in-Some.is c.loop-end.invariant.1)),
    )
