use Rattle.std.proofs.Common.{◌≡◌, ◌∙◌, ◌<◌, ◌++◌, ◌∷◌, [], true, sym, ap, subst, arith, length, set}
use Rattle.redo_alike.specs.inside.Walks.{seen_at}
use Rattle.redo_alike.proofs.WalkLemmas.{marked-here, marked-still, walk-enter, walk-same}
use Rattle.redo_alike.proofs.order.walk_from.Goals as goal

pub loop-here-init : goal.loop-here-init
loop-here-init c =
    let w = c.args.walk.now in
    let n = c.enter.new.walk in
    let nodes = c.args.nodes.now in
    let root = c.args.root in
    let way : n.way.items ≡ root ∷ [] = c.in_ok-enter.ensures.way ∙ ap (λ l. l ++ root ∷ []) c.requires.way in
    let under : root < length w.seen.items = omega (arith, c.requires.walk.seen_size, c.requires.within) in
    let seen = c.enter.ensures.seen in (
      walk-same nodes (set w.seen.items root true) n.seen.items w.next.items n.next.items (root ∷ []) n.way.items w.left.items n.left.items
          seen c.enter.ensures.next way c.enter.ensures.left
          (walk-enter nodes w.seen.items w.next.items [] w.left.items root c.requires.walk c.requires.new c.requires.within
          (λ a on. absurd (omega (arith, on.1)))),
      (λ m is. subst (λ l. seen_at l m ≡ true) (sym seen) (marked-still w.seen.items root m under is)),
      subst (λ l. seen_at l root ≡ true) (sym seen) (marked-here w.seen.items root under),
    )
