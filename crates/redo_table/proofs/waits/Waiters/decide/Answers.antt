use Rattle.std.proofs.Common.{◌≡◌, ℕ, ◌<◌, length, slice_set, ap, ◌∙◌, refl, arith, rules}
use Rattle.redo_table.specs.Schedule.StageView.{Decided}
use Rattle.redo_table.specs.inside.Targets.{WaitersView, stages_of}
use Rattle.redo_table.specs.declared.stage.Target.{Target}
use Rattle.redo_table.proofs.TargetLemmas.{read-there, stages-set, stages-same, stages-length}
use Rattle.redo_table.proofs.WaitLemmas.{decide-waiters, same-waiters}
use Rattle.redo_table.specs.declared.waits.Waiters.TheInside.{Inside}
use Rattle.redo_table.proofs.waits.Waiters.decide.Goals as goal

within : (t : Inside) (v : WaitersView) (at : ℕ) → record { stages = stages_of t.targets.items; pending = t.pending.items } ≡ v → at < length v.stages →
    at < length t.targets.items
within t v at is lt =
    let e = ap (λ (u : WaitersView). length u.stages) is in
    omega (arith, e, lt, stages-length t.targets.items)

pub invariant_of-self : goal.invariant_of-self
invariant_of-self c =
    let t = c.self.inside in
    let target = c.index_mut-target.result.now in
    let there = read-there t.targets.items c.args.at target (within t c.args.self.now c.args.at c.self.view_is c.requires) c.index_mut-target.ensures.value in
    let failed = c.in_err-append.is in
    rw c.in_err-append.ensures.items (same-waiters t.targets.items t.pending.items c.args.at target _ c.self.invariant there refl c.in_err-append.ensures.other_items)

pub returns-in_err-append-clause-err : goal.returns-in_err-append-clause-err
returns-in_err-append-clause-err c =
    let t = c.self.inside in
    let target = c.index_mut-target.result.now in
    let there = read-there t.targets.items c.args.at target (within t c.args.self.now c.args.at c.self.view_is c.requires) c.index_mut-target.ensures.value in
    let new : Target = record { stage = target.stage; watchers = c.append.new.other } in
    let e : stages_of (slice_set t.targets.items c.args.at new) ≡ c.args.self.now.stages =
    stages-same t.targets.items c.args.at target new there refl ∙ ap (λ (v : WaitersView). v.stages) c.self.view_is in
    search rules

pub invariant_of-self-2 : goal.invariant_of-self-2
invariant_of-self-2 c =
    let t = c.self.inside in
    let target = c.index_mut-target.result.now in
    let there = read-there t.targets.items c.args.at target (within t c.args.self.now c.args.at c.self.view_is c.requires) c.index_mut-target.ensures.value in
    rw c.in_ok-append.ensures.items (decide-waiters t.targets.items t.pending.items target.watchers.items c.args.at target _ c.self.invariant there refl refl)

pub returns-clause-decided : goal.returns-clause-decided
returns-clause-decided c = stages-set c.self.inside.targets.items c.args.at _ ∙ ap (λ (v : WaitersView). slice_set v.stages c.args.at Decided) c.self.view_is
