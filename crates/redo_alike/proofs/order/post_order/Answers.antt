use Rattle.std.proofs.Common.{rules, ◌≡◌, [], false, refl, arith, length, replicate}
use Rattle.redo_alike.proofs.WalkLemmas.{walk-begun, walk-done, walk-same}
use Rattle.redo_alike.proofs.order.post_order.Goals as goal

pub loop-root-init : goal.loop-root-init
loop-root-init c =
    let nodes = c.args.nodes.now in
    let seen : c.in_ok-vec.field-0.items ≡ replicate (length nodes) false = search rules in
    let next : c.in_ok-vec-2.field-0.items ≡ replicate (length nodes) 0 = search rules in
    let left : c.in_ok-with_capacity.field-0.items ≡ [] = search rules in (
      walk-same nodes (replicate (length nodes) false) c.in_ok-vec.field-0.items (replicate (length nodes) 0) c.in_ok-vec-2.field-0.items
          [] [] [] c.in_ok-with_capacity.field-0.items seen next refl left (walk-begun nodes),
      c.new.ensures.items,
      λ n low. absurd (omega (arith, low)),
    )

pub returns-clause-order : goal.returns-clause-order
returns-clause-order c =
    let w = c.loop-root.walk in
    walk-done c.args.nodes.now w.seen.items w.next.items w.left.items c.loop-root.invariant.0
    (λ n under. c.loop-root.invariant.2 n (omega (arith, under, c.loop-root-test.false)))
