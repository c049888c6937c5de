use Rattle.std.proofs.Common.{◌≡◌, ℕ, List, None, [], subst}
use Rattle.std.specs.Prelude.{◌↔◌}
use Rattle.std.specs.Arc.{arc_value}
use Rattle.redo_record.specs.declared.outcome.Outcome.{Outcome}
use Rattle.redo_build.specs.Lacking.{lacking_under}
use Rattle.redo_rules.specs.Build.{GivenView, rules_for}
use Rattle.redo_core.specs.Views.{told_by}
use Rattle.redo_core.specs.inside.Ends.{end_progress}
use Rattle.redo_core.specs.inside.Works.{told_in}
use Rattle.redo_core.proofs.AdvanceLemmas.{end-lacks}
use Rattle.redo_core.proofs.ScriptLemmas.{begun-shows}
use Rattle.redo_core.proofs.work.Work.advance.Goals as goal

pub returns-clause-ended : goal.returns-clause-ended
returns-clause-ended c =
    let begun = c.in_ok-begun.begun in
    let P : GivenView → Type 0 = λ g. end_progress c.in_ok-end.end ≡ (rules_for g).progress begun.job.target (told_in begun.facts) in
    let Q : GivenView → List ℕ → List (List ℕ × Outcome) → Type 0 = λ g p known.
    ((end_progress c.in_ok-end.end).outcome ≡ None → ⊥) ↔ (lacking_under (rules_for g) p (told_by known) ≡ []) in
    begun-shows (arc_value c.self.inside.given) c.self.inside.script c.args.self c.self.view_is begun c.in_ok-begun.ensures.target c.in_ok-begun.ensures.known Q
    (end-lacks (arc_value c.self.inside.given) begun.job begun.facts c.in_ok-begun.ensures.work c.in_ok-end.end (subst P c.deref.ensures c.in_ok-end.ensures.progress))
