use Rattle.std.proofs.Common.{◌≡◌, ◌+◌, cond, drop, bytes_eq, Option, Some, sym, ap, ◌∙◌}
use Rattle.std.specs.Map.{lookup}
use Rattle.redo_record.specs.declared.outcome.Outcome.{Outcome}
use Rattle.redo_core.specs.Views.{FactView}
use Rattle.redo_core.specs.inside.Works.{few_known}
use Rattle.redo_core.proofs.FactLemmas.{left-answers}
use Rattle.redo_core.proofs.facts.told_of.Goals as goal
use Rattle.redo_core.proofs.facts.told_of.Goals.{After-eq}

here : (c : After-eq) → lookup (bytes_eq c.args.path.now) (few_known c.args.facts.now) ≡
    cond (bytes_eq c.target.result.now c.args.path.now) (Some c.fact-item.result.value.outcome)
    (lookup (bytes_eq c.args.path.now) (few_known (drop (c.loop-fact.fact-index + 1) c.args.facts.now)))
here c =
    let x = c.fact-item.result in
    let target = c.target.ensures ∙ ap (λ (f : FactView). f.target) c.read-fact.ensures in
    rw target (c.loop-fact.invariant ∙ left-answers c.args.facts.now c.loop-fact.fact-index x c.args.path.now c.loop-fact-test.true c.fact-item.is)

pub returns-then-eq : goal.returns-then-eq
returns-then-eq c =
    let d = (goal.at-returns-then-eq c).After-eq in
    let found = here d in
    let yes' = sym c.eq.ensures ∙ c.if-eq.true in
    let S : Outcome → Option Outcome = λ o. Some o in
    ap S (c.outcome.ensures ∙ ap (λ (f : FactView). f.outcome) c.read-fact.ensures) ∙ sym (rw yes' at found)

pub loop-fact-preserved : goal.loop-fact-preserved
loop-fact-preserved c =
    let d = (goal.at-loop-fact-preserved c).After-eq in
    let found = here d in
    let no' = sym c.eq.ensures ∙ c.if-eq.false in
    rw no' at found
