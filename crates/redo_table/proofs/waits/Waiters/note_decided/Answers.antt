use Rattle.std.proofs.Common.{◌≡◌, slice_get, List, ℕ, Some, sym, ap, subst, ◌∙◌, refl, slice_index_or}
use Rattle.redo_table.specs.Schedule.{StageView}
use Rattle.redo_table.specs.Schedule.StageView.{Waiting}
use Rattle.redo_table.specs.inside.Targets.{WaitersView, stages_of, view_of, LacksAt, AreDecidedBelow}
use Rattle.redo_table.specs.declared.stage.Target.{Target}
use Rattle.redo_table.specs.declared.stage.Waiting as waits
use Rattle.redo_table.specs.declared.stage.Stage.TheVariants as stages
use Rattle.redo_table.specs.declared.waits.Waiters.TheInside.{Inside}
use Rattle.redo_table.proofs.TargetLemmas.{read-there, target-there, stages-same, view-there}
use Rattle.redo_table.proofs.WaitLemmas.{noted-waiters}
use Rattle.std.proofs.lemmas.Option.{slice_get_within}
use Rattle.redo_table.proofs.waits.Waiters.note_decided.Goals as goal

module _ (t : Inside) (v : WaitersView) (at count place : ℕ) (target : Target) (w : waits.Waiting)
    (is : record { stages = stages_of t.targets.items; pending = t.pending.items } ≡ v) (lacks : LacksAt v.stages at count place)
    (read : target ≡ slice_index_or t.targets.items at target) (stage : target.stage ≡ stages.Waiting w) where
  seen : slice_get (stages_of t.targets.items) at ≡ Some (Waiting lacks.on)
  seen = subst (λ (u : WaitersView). slice_get u.stages at ≡ Some (Waiting lacks.on)) (sym is) lacks.waits

  there : slice_get t.targets.items at ≡ Some target
  there = let found = target-there t.targets.items at (Waiting lacks.on) seen in
      read-there t.targets.items at target (slice_get_within t.targets.items at found.0 found.1) read

  same-on : lacks.on ≡ w.on.items
  same-on =
      let view : view_of target.stage ≡ Waiting lacks.on = view-there t.targets.items at target (Waiting lacks.on) there seen in
      let both : Waiting w.on.items ≡ Waiting lacks.on = sym (ap view_of stage) ∙ view in
      cc

  known : AreDecidedBelow (stages_of t.targets.items) w.on.items count
  known = subst (λ on. AreDecidedBelow (stages_of t.targets.items) on count) same-on
      (subst (λ (u : WaitersView). AreDecidedBelow u.stages lacks.on count) (sym is) lacks.decided)

pub invariant_of-self : goal.invariant_of-self
invariant_of-self c =
    let t = c.self.inside in
    let target = c.index_mut-target.result.now in
    let w = c.in-Waiting.waiting in
    noted-waiters t.targets.items t.pending.items c.args.at c.args.decided target _ w c.self.invariant
    (there t c.args.self.now c.args.at c.args.decided c.requires.0 target w c.self.view_is c.requires.1 c.index_mut-target.ensures.value c.in-Waiting.is)
    c.in-Waiting.is refl refl
    (known t c.args.self.now c.args.at c.args.decided c.requires.0 target w c.self.view_is c.requires.1 c.index_mut-target.ensures.value c.in-Waiting.is)

pub returns : goal.returns
returns c =
    let t = c.self.inside in
    let target = c.index_mut-target.result.now in
    let w = c.in-Waiting.waiting in
    let at = there t c.args.self.now c.args.at c.args.decided c.requires.0 target w c.self.view_is c.requires.1 c.index_mut-target.ensures.value c.in-Waiting.is in
    let G : List StageView → WaitersView = λ ss. record { stages = ss; pending = t.pending.items } in
    ap G (stages-same t.targets.items c.args.at target _ at (sym (ap view_of c.in-Waiting.is))) ∙ c.self.view_is
