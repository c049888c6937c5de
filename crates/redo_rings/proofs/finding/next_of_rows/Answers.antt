use Rattle.std.proofs.Common.{◌≡◌, ◌∙◌, [], ap, length, subst}
use Rattle.redo_rings.specs.inside.Graph.{asks_at}
use Rattle.redo_rings.specs.inside.Walks.{IsIn}
use Rattle.redo_rings.proofs.finding.next_of_rows.Goals as goal

pub returns : goal.returns
returns c =
    let table = c.in_ok-table.table.items in
    let same = c.deref-2.ensures.value in
    let next = c.in_ok-next.ensures in (
      table,
      c.in_ok-table.ensures.asks,
      next.size ∙ ap length same ∙ c.in_ok-table.ensures.size,
      (λ k n is. subst (λ t. IsIn (asks_at t k) n) same (next.some k n is)),
      (λ k under is. subst (λ t. asks_at t k ≡ []) same (next.none k under is)),
    )
