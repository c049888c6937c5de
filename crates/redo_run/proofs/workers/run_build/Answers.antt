use Rattle.std.proofs.Common.{◌∷◌, [], List, ap, arith, length, subst}
use Rattle.std.specs.Prelude.{All}
use Rattle.std.proofs.lemmas.List.{length-append}
use Rattle.redo_sync.specs.Relay.{Taker}
use Rattle.redo_run.proofs.PoolLemmas.{IsNew, last_new, others_new}
use Rattle.redo_run.proofs.workers.run_build.Goals as goal

-- the owner has the last taker of its relay, and the workers have the others
pub run_in_scope-requires-clause-complete : goal.run_in_scope-requires-clause-complete
run_in_scope-requires-clause-complete g c κs within =
    let rest = c.pop.new.self.items in let own = c.in-Some.taker in let relay = c.in_ok-source.source.relay in
    let items = c.in-Some.ensures.items in let made = c.in_ok-source.ensures.takers.0 in
    let many = c.in_ok-source.ensures.source.0 in
    let long = ap length items in let a = length-append rest (own ∷ []) in
    let A : List Taker → Type 0 = All (IsNew relay) in
    let all : A _ = subst A items c.in_ok-source.ensures.takers.1 in (
      omega (arith, long, a, made, c.requires.few),
      omega (arith, long, a, made, many),
      last_new relay rest own all,
      others_new relay rest own all,
    )
