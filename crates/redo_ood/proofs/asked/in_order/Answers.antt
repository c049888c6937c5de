use Rattle.std.proofs.Common.{subst, sym}
use Rattle.std.specs.Prelude.{◌↔◌}
use Rattle.redo_names.specs.Paths.{AreDistinct, IsAmong}
use Rattle.redo_ood.proofs.OrderLemmas.{same-among, strictly}
use Rattle.redo_ood.proofs.asked.in_order.Goals as goal

pub returns-clause-among : goal.returns-clause-among
returns-clause-among c = λ p.
    let new = c.sort_unstable.new.self.items in
    subst (λ ps. IsAmong new p ↔ IsAmong ps p) c.into_paths-paths.ensures
    (same-among c.into_paths-paths.result.items new p c.sort_unstable.ensures.permutation)

pub returns-clause-ordered : goal.returns-clause-ordered
returns-clause-ordered c =
    strictly c.into_paths-paths.result.items c.sort_unstable.new.self.items
    (subst AreDistinct (sym c.into_paths-paths.ensures) c.each_once.ensures) c.sort_unstable.ensures.permutation
    c.sort_unstable.ensures.sorted
