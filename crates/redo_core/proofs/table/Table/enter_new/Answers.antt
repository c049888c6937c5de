use Rattle.std.proofs.Common.{◌≡◌, refl, sym, ap, subst, ◌∙◌}
use Rattle.redo_names.proofs.PathLemmas.{put-new}
use Rattle.redo_table.specs.Schedule.{StageView, with_stage, with_target}
use Rattle.redo_table.specs.Schedule.StageView.{Due as AtDue, Ready as AtReady, Decided as AtDecided}
use Rattle.redo_core.specs.inside.Slots.{in_schedule, Table}
use Rattle.redo_core.proofs.EnterSteps.{pushed-stage}
use Rattle.redo_core.proofs.table.Table.enter_new.Goals as goal
use Rattle.redo_core.proofs.table.Table.enter_new.Goals.{in-Due+in_ok-make_due-in-Due, in-Ready+in_ok-make_ready-in-Ready, in-Decided+in_ok-decide-in-Decided}

pub returns : goal.returns
returns c =
    let t = c.args.self.now in
    let put : (s : StageView) → with_stage c.add.new.self c.in_ok-at.at s ≡ with_target t.schedule s =
    λ s. ap (λ x. with_stage x c.in_ok-at.at s) c.in_ok-at.ensures.added ∙ pushed-stage t.schedule c.in_ok-at.at s c.in_ok-at.ensures.number in
    let R : Table → Type 0 = λ u. (u.targets ≡ t.targets) × (u.slots ≡ t.slots) × (u.schedule ≡ with_target t.schedule (in_schedule c.in_ok-stage.stage)) in
    let first : R c.match-stage-4.self = elim c.match-stage-4.branch [
      | in-Due+in_ok-make_due-in-Due w ↦ subst R (sym w.self-is)
          (refl, refl, w.in_ok-make_due-in-Due.ensures ∙ put AtDue ∙ ap (λ st. with_target t.schedule (in_schedule st)) (sym w.in-Due.is))
      | in-Ready+in_ok-make_ready-in-Ready w ↦ subst R (sym w.self-is)
          (refl, refl, w.in_ok-make_ready-in-Ready.ensures ∙ put AtReady ∙ ap (λ st. with_target t.schedule (in_schedule st)) (sym w.in-Ready.is))
      | in-Decided+in_ok-decide-in-Decided w ↦ subst R (sym w.self-is)
          (refl, refl, w.in_ok-decide-in-Decided.ensures ∙ put AtDecided ∙ ap (λ st. with_target t.schedule (in_schedule st)) (sym w.in-Decided.is))
    ] in
    let k = rw (c.in_ok-clone.ensures.cases, first.0) at c.in_ok-insert.ensures.paths in
    record {
      new = record { looks = 0; turn = 0; stage = c.in_ok-stage.stage };
      first = c.in_ok-stage.ensures;
      looks = refl;
      turn = refl;
      keys = k ∙ put-new t.targets c.args.path.now c.requires.new;
      slots = rw first.1 at c.in_ok-push.ensures.items;
      schedule = first.2;
    }
