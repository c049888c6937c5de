use Rattle.std.proofs.Common.{◌≡◌, ◌∷◌, [], ap, arith, length, length-append, rules, subst, sym}
use Rattle.redo_page.specs.inside.Links.{users_at}
use Rattle.redo_page.proofs.LinkLemmas.{empty-more, none-yet}
use Rattle.redo_page.proofs.links.no_users.Goals as goal

pub loop-init : goal.loop-init
loop-init c = (search rules, λ m. none-yet c.in_ok-users.users.items (search rules) m)

pub loop-preserved : goal.loop-preserved
loop-preserved c =
    let more = c.in_ok-push.ensures.items in
    let before = c.loop.invariant in
    let count = ap length more in (
      omega (arith, count, before.0, length-append c.loop.users.items (c.new.result ∷ [])),
      λ m. subst (λ lists. users_at lists m ≡ []) (sym more)
          (empty-more c.loop.users.items c.new.result (search rules) before.1 m),
    )
