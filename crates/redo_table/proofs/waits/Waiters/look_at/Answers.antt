use Rattle.std.proofs.Common.{◌≡◌, ℕ, List, slice_get, Some, subst}
use Rattle.redo_table.specs.Schedule.StageView.{Waiting, Decided}
use Rattle.redo_table.specs.inside.Targets.{WaitersView, LacksAt}
use Rattle.redo_table.proofs.TargetLemmas.{read-there}
use Rattle.redo_table.proofs.WaitLemmas.{lacks-at, answered-at}
use Rattle.redo_table.proofs.waits.Waiters.look_at.Goals as goal

pub returns-in-Some-next_lacking : goal.returns-in-Some-next_lacking
returns-in-Some-next_lacking c =
    let t = c.self.inside in
    let targets = c.deref-2.ensures.value in
    let on = c.deref-3.ensures.value in
    let found = rw (targets, on) at c.in-Some-next_lacking.ensures.found in
    let lookup = rw c.deref.ensures.value at c.in-Some.ensures.lookup in
    let there = read-there t.targets.items c.args.at c.in-Some.target.now lookup.3.0 lookup.1 in
    subst (λ (v : WaitersView). LacksAt v.stages c.args.at c.in-Some-next_lacking.decided c.in-Some-next_lacking.place) c.self.view_is
    (lacks-at t.targets.items t.pending.items c.args.at c.in-Some.target.now c.in-Waiting.waiting c.self.invariant there c.in-Waiting.is
    c.in-Some-next_lacking.decided c.in-Some-next_lacking.place found)

pub returns-in-None : goal.returns-in-None
returns-in-None c =
    let t = c.self.inside in
    let targets = c.deref-2.ensures.value in
    let on = c.deref-3.ensures.value in
    let rest = rw (targets, on) at c.in-None.ensures.none in
    let lookup = rw c.deref.ensures.value at c.in-Some.ensures.lookup in
    let there = read-there t.targets.items c.args.at c.in-Some.target.now lookup.3.0 lookup.1 in
    subst (λ (v : WaitersView). (x : List ℕ) × (slice_get v.stages c.args.at ≡ Some (Waiting x)) ×
    ((i n : ℕ) → slice_get x i ≡ Some n → slice_get v.stages n ≡ Some Decided)) c.self.view_is
    (answered-at t.targets.items t.pending.items c.args.at c.in-Some.target.now c.in-Waiting.waiting c.self.invariant there c.in-Waiting.is rest)
