use Rattle.std.proofs.Common.{subst}
use Rattle.redo_query.specs.inside.Found.{AllNeed, IsClosed}
use Rattle.redo_query.proofs.NeedLemmas.{are-needing}
use Rattle.redo_query.proofs.needing.needing.Goals as goal

pub returns : goal.returns
returns c =
    let path = c.args.path.now in
    let found = c.in_ok-found.found in
    are-needing c.args.book.now path found _ c.records.ensures.book
    (subst (λ rs. AllNeed rs path found) c.records.ensures.records c.in_ok-found.ensures.need)
    (subst (λ rs. IsClosed rs path found) c.records.ensures.records c.in_ok-found.ensures.closed)
    c.in_ok-targets.ensures
