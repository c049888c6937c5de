use Rattle.std.proofs.Common.{◌≡◌, ◌∙◌, ◌++◌, ◌∷◌, [], List, ap, map, sym, subst}
use Rattle.std.proofs.lemmas.List.{map-append}
use Rattle.std.specs.declared.thread.PromisedHandle.{PromisedHandle}
use Rattle.redo_sync.specs.Relay.{RelayId, Taker}
use Rattle.redo_sync.specs.declared.taker.JobTaker.{JobTaker}
use Rattle.redo_run.specs.declared.crew.OwnTaker.{OwnTaker}
use Rattle.redo_run.specs.inside.Workers.{IsManned}
use Rattle.redo_run.proofs.PoolLemmas.{one_started}
use Rattle.redo_run.proofs.pool.Pool.start.Goals as goal

-- the worker that is started has the last taker of those that weren't
pub returns-clause-manned : goal.returns-clause-manned
returns-clause-manned g c = λ relay count m.
    let H : Type 0 = PromisedHandle (JobTaker g.row.J.Denot) (OwnTaker g.row.J.Denot) in
    let promised : H → RelayId = λ h. h.promise.0.value.relay in
    let was = c.args.self.now.handles.items in let handle = c.in_ok-handle.handle in let rest = c.pop.new.self.items in
    let own : promised handle ≡ c.in-Some.taker.relay =
    ap (λ (p : OwnTaker g.row.J.Denot). p.0.value.relay) c.in_ok-handle.ensures.ok ∙ ap (λ (t : Taker). t.relay) c.of.ensures in
    let items : c.push_reserved.new.self.items ≡ was ++ handle ∷ [] =
    c.push_reserved.ensures.items ∙ ap (λ (l : List H). l ++ handle ∷ []) c.reserve.ensures.items in
    let handles : map promised c.push_reserved.new.self.items ≡ map promised was ++ c.in-Some.taker.relay ∷ [] =
    ap (map promised) items ∙ map-append promised was (handle ∷ []) ∙ ap (λ (r : RelayId). map promised was ++ r ∷ []) own in
    let M : List RelayId → Type 0 = IsManned relay count rest in
    let N : List Taker → Type 0 = λ l. IsManned relay count l (map promised was) in
    subst M (sym handles) (one_started relay count rest c.in-Some.taker (map promised was) (subst N c.in-Some.ensures.items m))
