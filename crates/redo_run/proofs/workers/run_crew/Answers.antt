use Rattle.std.proofs.Common.{◌≡◌, ◌∙◌, List, ap, length, map, subst, sym}
use Rattle.std.specs.Prelude.{All}
use Rattle.redo_rules.specs.Results.{IsGiven}
use Rattle.redo_sync.specs.Relay.{RelayId, Taker}
use Rattle.redo_run.specs.inside.Workers.{AreTakersOf}
use Rattle.redo_run.proofs.PoolLemmas.{none_started}
use Rattle.redo_run.proofs.workers.run_crew.Goals as goal

-- the board is that of the build still
pub ended_build-requires-clause-of_build : goal.ended_build-requires-clause-of_build
ended_build-requires-clause-of_build g c =
    subst (IsGiven g.B.BuildBrand.tree g.B.BuildBrand.request g.B.BuildBrand.limits) (sym c.in_ok-takers.ensures.same.0) c.requires.of_build

pub ended_build-requires-clause-own : goal.ended_build-requires-clause-own
ended_build-requires-clause-own g c =
    let same = c.in_ok-takers.ensures.same in same.2 ∙ c.requires.complete.2 ∙ sym same.1.0

-- the takers that are back are those of the workers
pub ended_build-requires-clause-complete : goal.ended_build-requires-clause-complete
ended_build-requires-clause-complete g c =
    let relay = c.args.owner.source.relay in let workers = c.args.takers.items in
    let pool = c.in_ok-pool.pool in let opened = c.in_ok-pool.ensures in
    let same = c.in_ok-takers.ensures.same in let complete = c.requires.complete in
    let Own : List Taker → Type 0 = All (λ t. t.relay ≡ relay) in
    let back =
    c.in_ok-takers.ensures.back relay (length workers)
    (none_started relay (length workers) pool.idle.items _ (ap (map _) opened.none_started) (ap length opened.idle) (subst Own (sym opened.idle) complete.3)) in
    let P : RelayId → Type 0 = λ r. AreTakersOf r (length workers) c.in_ok-takers.takers.items in
    (length workers, complete.1 ∙ sym same.1.1, subst P (sym same.1.0) back)

pub ended_build-requires-clause-taken : goal.ended_build-requires-clause-taken
ended_build-requires-clause-taken g c = c.in_ok-takers.ensures.kept_up.1 c.requires.taken
