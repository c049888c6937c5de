use Rattle.std.proofs.Common.{◌≡◌, ℕ, ◌<◌, ◌-◌, List, length, slice_get, slice_set, slice_index_or, Some, sym, ap, subst, ◌∙◌, refl, arith, rules, false}
use Rattle.redo_table.specs.Schedule.{StageView, is_decided, IsAnswered}
use Rattle.redo_table.specs.Schedule.StageView.{Waiting, InHand}
use Rattle.redo_table.specs.inside.Targets.{WaitersView, stages_of, view_of, LacksAt, is_decided_target}
use Rattle.redo_table.specs.declared.stage.Target.{Target}
use Rattle.redo_table.specs.declared.waits.Waiters.TheInside.{Inside}
use Rattle.redo_table.proofs.NumberLemmas.{popped}
use Rattle.redo_table.proofs.TargetLemmas.{read-there, target-there, stages-same, stages-set, view-there, waiting-is}
use Rattle.redo_table.proofs.WaitLemmas.{watch-waiters, same-waiters, stray-waiters, hand-waiters}
use Rattle.std.proofs.lemmas.Option.{slice_get_within}
use Rattle.redo_table.proofs.waits.Waiters.look_again.Goals as goal

module _ (t : Inside) (v : WaitersView) (at count place : ℕ) (target : Target)
    (is : record { stages = stages_of t.targets.items; pending = t.pending.items } ≡ v) (lacks : LacksAt v.stages at count place)
    (read : target ≡ slice_index_or t.targets.items place target) where
  seen : slice_get (stages_of t.targets.items) place ≡ Some lacks.undecided.stage
  seen = subst (λ (u : WaitersView). slice_get u.stages place ≡ Some lacks.undecided.stage) (sym is) lacks.undecided.there

  there : slice_get t.targets.items place ≡ Some target
  there = let found = target-there t.targets.items place lacks.undecided.stage seen in
      read-there t.targets.items place target (slice_get_within t.targets.items place found.0 found.1) read

  open' : is_decided_target target ≡ false
  open' = ap is_decided (view-there t.targets.items place target lacks.undecided.stage there seen) ∙ lacks.undecided.undecided

  waits : slice_get (stages_of t.targets.items) at ≡ Some (Waiting lacks.on)
  waits = subst (λ (u : WaitersView). slice_get u.stages at ≡ Some (Waiting lacks.on)) (sym is) lacks.waits

pub invariant_of-self : goal.invariant_of-self
invariant_of-self c =
    let t = c.self-in-Lacks.inside in
    let is = c.self-in-Lacks.view_is ∙ c.note_decided.ensures in
    same-waiters t.targets.items t.pending.items c.in-Lacks.place c.index_mut.result.now _ c.self-in-Lacks.invariant
    (there t c.args.self.now c.index-at.result.now c.in-Lacks.decided c.in-Lacks.place c.index_mut.result.now is c.in-Lacks.ensures c.index_mut.ensures.value)
    refl c.in_err-push-in-Lacks.ensures.items

pub returns-in_err-push-in-Lacks-clause-err : goal.returns-in_err-push-in-Lacks-clause-err
returns-in_err-push-in-Lacks-clause-err c =
    let t = c.self-in-Lacks.inside in
    let target = c.index_mut.result.now in
    let is = c.self-in-Lacks.view_is ∙ c.note_decided.ensures in
    let new : Target = record { stage = target.stage; watchers = c.push.new.self } in
    let e : stages_of (slice_set t.targets.items c.in-Lacks.place new) ≡ c.args.self.now.stages =
    stages-same t.targets.items c.in-Lacks.place target new
    (there t c.args.self.now c.index-at.result.now c.in-Lacks.decided c.in-Lacks.place target is c.in-Lacks.ensures c.index_mut.ensures.value) refl
    ∙ ap (λ (v : WaitersView). v.stages) is in
    search rules

pub invariant_of-self-in-Lacks : goal.invariant_of-self-in-Lacks
invariant_of-self-in-Lacks c =
    let t = c.self-in-Lacks.inside in
    let at = c.index-at.result.now in
    let target = c.index_mut.result.now in
    let is = c.self-in-Lacks.view_is ∙ c.note_decided.ensures in
    let same = ap (λ (u : WaitersView). u.pending) (is ∙ sym c.self.view_is) in
    let n : c.len.result ≡ length c.self.inside.pending.items = grind arith in
    let last : at ≡ slice_index_or t.pending.items (c.len.result - 1) at = c.index-at.ensures ∙ ap (λ xs. slice_index_or xs (c.len.result - 1) at) (sym same) in
    let left = popped t.pending.items c.pop.new.self.items c.pop.result (c.len.result - 1) at c.pop.ensures.items (omega (arith, n, ap length same)) last in
    watch-waiters t.targets.items t.pending.items c.pop.new.self.items at c.in-Lacks.place c.in-Lacks.ensures.on target _ c.self-in-Lacks.invariant
    (there t c.args.self.now at c.in-Lacks.decided c.in-Lacks.place target is c.in-Lacks.ensures c.index_mut.ensures.value)
    (open' t c.args.self.now at c.in-Lacks.decided c.in-Lacks.place target is c.in-Lacks.ensures c.index_mut.ensures.value)
    refl c.in_ok-push-in-Lacks.ensures.items
    (waits t c.args.self.now at c.in-Lacks.decided c.in-Lacks.place target is c.in-Lacks.ensures c.index_mut.ensures.value) c.in-Lacks.ensures.awaited left

pub returns-in_ok-push-in-Lacks-clause-waits : goal.returns-in_ok-push-in-Lacks-clause-waits
returns-in_ok-push-in-Lacks-clause-waits c =
    let t = c.self-in-Lacks.inside in
    let target = c.index_mut.result.now in
    let is = c.self-in-Lacks.view_is ∙ c.note_decided.ensures in
    stages-same t.targets.items c.in-Lacks.place target _
    (there t c.args.self.now c.index-at.result.now c.in-Lacks.decided c.in-Lacks.place target is c.in-Lacks.ensures c.index_mut.ensures.value) refl
    ∙ ap (λ (v : WaitersView). v.stages) is

-- ---- all that it waits for is decided

module _ (t : Inside) (v : WaitersView) (at : ℕ) (on : List ℕ) (is : record { stages = stages_of t.targets.items; pending = t.pending.items } ≡ v)
    (waits' : slice_get v.stages at ≡ Some (Waiting on)) where
  seen-waits : slice_get (stages_of t.targets.items) at ≡ Some (Waiting on)
  seen-waits = subst (λ (u : WaitersView). slice_get u.stages at ≡ Some (Waiting on)) (sym is) waits'

  below : at < length t.targets.items
  below = let found = target-there t.targets.items at (Waiting on) seen-waits in slice_get_within t.targets.items at found.0 found.1

  module _ (target : Target) (read : target ≡ slice_index_or t.targets.items at target) where
    there-waits : slice_get t.targets.items at ≡ Some target
    there-waits = read-there t.targets.items at target below read

    view-waits : view_of target.stage ≡ Waiting on
    view-waits = view-there t.targets.items at target (Waiting on) there-waits seen-waits

pub index_mut-requires-in-Answered : goal.index_mut-requires-in-Answered
index_mut-requires-in-Answered c =
    let a = c.in-Answered.ensures in
    let lt : c.index-at.result.now < length c.self.inside.targets.items = below c.self.inside c.args.self.now c.index-at.result.now a.0 c.self.view_is a.1 in
    search rules

pub unreachable-requires : goal.unreachable-requires
unreachable-requires c =
    let a = c.in-Answered.ensures in
    let target = c.index_mut-in-Answered.result.now in
    let view' = view-waits c.self.inside c.args.self.now c.index-at.result.now a.0 c.self.view_is a.1 target c.index_mut-in-Answered.ensures.value in
    let w = waiting-is target.stage a.0 view' in
    c.in_default.not-Waiting w.0 (c.replace-before.ensures.value ∙ w.1)

pub invariant_of-self-in-Answered : goal.invariant_of-self-in-Answered
invariant_of-self-in-Answered c =
    let t = c.self.inside in
    let a = c.in-Answered.ensures in
    let at = c.index-at.result.now in
    let target = c.index_mut-in-Answered.result.now in
    let view' = view-waits t c.args.self.now at a.0 c.self.view_is a.1 target c.index_mut-in-Answered.ensures.value in
    let n : c.len.result ≡ length c.self.inside.pending.items = grind arith in
    let left = popped t.pending.items c.pop-in-Answered.new.self.items c.pop-in-Answered.result (c.len.result - 1) at c.pop-in-Answered.ensures.items
    (omega (arith, n)) c.index-at.ensures in
    hand-waiters t.targets.items t.pending.items c.pop-in-Answered.new.self.items at target _ c.self.invariant
    (there-waits t c.args.self.now at a.0 c.self.view_is a.1 target c.index_mut-in-Answered.ensures.value)
    (ap is_decided view') c.replace-before.ensures.after refl left

pub returns-in-Waiting-clause-answered : goal.returns-in-Waiting-clause-answered
returns-in-Waiting-clause-answered c =
    let t = c.self.inside in
    let a = c.in-Answered.ensures in
    let at = c.index-at.result.now in
    let target = c.index_mut-in-Answered.result.now in
    let view' = view-waits t c.args.self.now at a.0 c.self.view_is a.1 target c.index_mut-in-Answered.ensures.value in
    let both : Waiting c.in-Waiting.field-0.on.items ≡ Waiting a.0 = sym (ap view_of (sym c.replace-before.ensures.value ∙ c.in-Waiting.is)) ∙ view' in
    let same : a.0 ≡ c.in-Waiting.field-0.on.items = cc in
    let F : StageView → WaitersView → List StageView = λ s v. slice_set v.stages at s in
    let answered : IsAnswered c.args.self.now.stages at a.0 = record { waited = a.1; decided = a.2 } in (
      subst (IsAnswered c.args.self.now.stages at) same answered,
      stages-set t.targets.items at _ ∙ ap (λ s. slice_set (stages_of t.targets.items) at (view_of s)) c.replace-before.ensures.after ∙ ap (F InHand) c.self.view_is,
    )

pub invariant_of-self-in-Stray : goal.invariant_of-self-in-Stray
invariant_of-self-in-Stray c =
    let t = c.self.inside in
    let at = c.index-at.result.now in
    let n : c.len.result ≡ length c.self.inside.pending.items = grind arith in
    let left = popped t.pending.items c.pop-in-Stray.new.self.items c.pop-in-Stray.result (c.len.result - 1) at c.pop-in-Stray.ensures.items
    (omega (arith, n)) c.index-at.ensures in
    stray-waiters t.targets.items t.pending.items c.pop-in-Stray.new.self.items at c.self.invariant
    (subst (λ (v : WaitersView). (on : List ℕ) → slice_get v.stages at ≡ Some (Waiting on) → ⊥) (sym c.self.view_is) c.in-Stray.ensures) left
