use Rattle.std.proofs.Common.{rules, ◌≡◌, ◌∙◌, Err, arith, subst}
use Rattle.redo_build.specs.Outcomes.{IsTooMany}
use Rattle.redo_core.specs.declared.board.Stop.TheVariants.{TooMany}
use Rattle.redo_rules.specs.Build.{GivenView, rules_for}
use Rattle.redo_run.proofs.owner.own.Goals as goal

-- too many targets of the board are too many of its build
abbrev Many : GivenView → Type 0
Many given = IsTooMany (rules_for given) given.request given.limits.targets

pub returns-in_err-turn-clause-too_many : goal.returns-in_err-turn-clause-too_many
returns-in_err-turn-clause-too_many g c = λ is.
    let err : c.turn.result ≡ Err TooMany = search rules in subst Many c.turns.invariant.0.0 (c.turn.ensures.too_many err)

-- the last turn
pub returns-then-not-branch-clause-kept_up : goal.returns-then-not-branch-clause-kept_up
returns-then-not-branch-clause-kept_up g c =
    let i = c.turns.invariant in let kept = c.in_ok-turn.ensures.kept_up in (kept.0, λ had. kept.1 (i.1.1 had))

pub returns-then-not-branch-clause-manned : goal.returns-then-not-branch-clause-manned
returns-then-not-branch-clause-manned g c = λ relay count m.
    c.in_ok-turn.ensures.manned relay count (c.turns.invariant.2 relay count m)

-- each turn but the last
pub turns-preserved : goal.turns-preserved
turns-preserved g c =
    let i = c.turns.invariant in let same = c.turn.ensures.same in let kept = c.in_ok-turn.ensures.kept_up in
    let few = c.turn.ensures.few in let were = i.3 in (
      (same.0 ∙ i.0.0, (same.1.0 ∙ i.0.1.0, same.1.1 ∙ i.0.1.1), same.2 ∙ i.0.2),
      (kept.0, λ had. kept.1 (i.1.1 had)),
      λ relay count m. c.in_ok-turn.ensures.manned relay count (i.2 relay count m),
      omega (arith, few, were),
    )
