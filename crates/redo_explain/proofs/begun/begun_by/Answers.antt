use Rattle.std.proofs.Common.{◌≡◌, ◌∙◌, ◌∷◌, [], Global, List, Vec, ap, arith, map, subst, sym}
use Rattle.std.proofs.lemmas.List.{map-append}
use Rattle.std.specs.Prelude.{option_map}
use Rattle.redo_report.specs.declared.report.Row.{Row}
use Rattle.redo_explain.specs.declared.begun.Begun.{Begun}
use Rattle.redo_explain.specs.Views.{begun_view, reason_view}
use Rattle.redo_explain.specs.inside.Listed.{reason_in}
use Rattle.redo_explain.specs.inside.Told.{AreRows}
use Rattle.redo_explain.proofs.BegunLemmas.{with-reason, without-reason}
use Rattle.redo_explain.proofs.begun.begun_by.Goals as goal
use Rattle.redo_explain.proofs.begun.begun_by.Goals.{in-Some+in_ok-push, in_default}

pub loop-target-preserved : goal.loop-target-preserved
loop-target-preserved c = λ in_order.
    let past = c.args.past.now in
    let requested = c.args.requested.now in
    let rows = c.args.report.now.rows.items in
    let targets = c.deref-target-items.result.now in
    let i = c.loop-target.target-index in
    let target = c.target-item.result in
    let begun = map begun_view c.loop-target.begun.items in
    let told : option_map reason_view c.in_ok-reason.field-0 ≡ reason_in past requested rows target =
    subst (λ (rs : List Row). AreRows rs → option_map reason_view c.in_ok-reason.field-0 ≡ reason_in past requested rs target)
    c.deref.ensures.value c.in_ok-reason.ensures in_order in
    let before = c.loop-target.invariant in_order in
    let below = c.loop-target-test.true in
    elim c.match-branch-2.branch [
      | in-Some+in_ok-push w ↦
          ap (λ (v : Vec Begun Global). map begun_view v.items) w.begun-is
          ∙ ap (map begun_view) w.in_ok-push.ensures.items
          ∙ map-append begun_view c.loop-target.begun.items (_ ∷ [])
          ∙ with-reason past requested rows targets i target (omega (arith, below)) c.target-item.is begun before
          (reason_view w.in-Some.reason) (sym (ap (option_map reason_view) w.in-Some.is) ∙ told)
      | in_default w ↦
          ap (λ (v : Vec Begun Global). map begun_view v.items) w.begun-is
          ∙ without-reason past requested rows targets i target (omega (arith, below)) c.target-item.is begun before
          (sym (ap (option_map reason_view) w.in_default.is) ∙ told)
    ]
