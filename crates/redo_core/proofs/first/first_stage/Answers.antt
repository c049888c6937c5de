use Rattle.std.proofs.Common.{rules, ◌≡◌, Some, sym, ap, ◌∙◌}
use Rattle.std.specs.Arc.{arc_value}
use Rattle.redo_core.proofs.FirstStageLemmas.{unruled-fact, unruled-outcome}
use Rattle.redo_core.proofs.first.first_stage.Goals as goal

pub of-fact-requires : goal.of-fact-requires
of-fact-requires c =
    unruled-fact c.given-2.result.now c.in_ok-target.target c.match-branch-2.outcome.0 (arc_value c.in_ok-deps.deps)
    (search rules) (search rules)

pub returns : goal.returns
returns c =
    let is : c.in_ok-publish.field-0.value.outcome ≡ c.match-branch-2.outcome.0 = search rules in (
      search rules,
      search rules,
      search rules,
      unruled-outcome c.args.build.now c.args.path.now c.match-branch-2.outcome.0 (arc_value c.in_ok-deps.deps) (search rules) (search rules) ∙ ap Some (sym is),
    )
