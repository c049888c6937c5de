-- A work holds the outcomes of all that it asked for, and no others.
use Rattle.std.proofs.Common.{◌≡◌, ℕ, ◌+◌, inl, inr, List, refl, sym, ◌∙◌, arith}
use Rattle.std.proofs.lemmas.Bool.{cases_Bool}
use Rattle.redo_names.proofs.PathLemmas.{among-told}
use Rattle.redo_record.specs.declared.deps.Dep.{Dep}
use Rattle.redo_record.specs.Paths.{is_among}
use Rattle.redo_build.specs.Rules.{Rules, AreLawful, operands}
use Rattle.redo_build.specs.Outcomes.{outcome_at}
use Rattle.redo_build.specs.Schedule.{Entry, outcomes_of, only}
use Rattle.redo_core.specs.inside.Slots.{AllAnswered, GivenView}
use Rattle.redo_build.specs.inside.Standing.{AreStanding, decided_count}
use Rattle.redo_core.specs.inside.Scripts.{IsScriptOf, script_target, script_turn, script_deps, script_known}
use Rattle.redo_core.specs.inside.Works.{HoldsOutcomes}
use Rattle.redo_core.specs.declared.work.ScriptStage.{ScriptStage}
use Rattle.redo_core.specs.declared.work.ScriptStage.TheVariants.{Unread, Begun}
use Rattle.redo_build.proofs.DepthLemmas.{cases_Option, deeper, operand-target}
use Rattle.redo_build.proofs.StandingLemmas.{outcomes_of-deep}

pub script-holds : (given : GivenView) (s : ScriptStage) → IsScriptOf given s →
    HoldsOutcomes (record { given = given; target = script_target s; turn = script_turn s; deps = script_deps s; known = script_known s })
script-holds given (Unread unread) work = record { depth = work.is_work.depth; fed = work.is_work.fed; exact = work.exact }
script-holds given (Begun begun) work = record { depth = work.is_work.depth; fed = work.is_work.fed; exact = work.exact }

-- where the build at a depth and the entries both have all the answers, these are the same
pub same-answers : (r : Rules) (lawful : AreLawful r) (request : List (List ℕ)) (es : List Entry) → AreStanding r request es → (depth : ℕ) (deps : List Dep) →
    AllAnswered r (outcome_at r depth) deps → AllAnswered r (outcomes_of es) deps → (q : List ℕ) →
    only (operands r deps) (outcome_at r depth) q ≡ only (operands r deps) (outcomes_of es) q
same-answers r lawful request es standing depth deps fed all q = elim (cases_Bool (is_among (operands r deps) q)) [
  | inl t ↦ rw t (
      let m = among-told (operands r deps) q t in
      let target = operand-target r lawful deps q m in
      elim (cases_Option (outcomes_of es q)) [
        | inl none ↦ absurd (all q m none)
        | inr some ↦ elim (cases_Option (outcome_at r depth q)) [
          | inl none ↦ absurd (fed q m none)
          | inr other ↦
              let n = decided_count es in
              let known = outcomes_of-deep r lawful request es standing q some.0 target some.1 in
              let here = deeper r lawful n (n + depth) (omega arith) q some.0 target known in
              let there = deeper r lawful depth (n + depth) (omega arith) q other.0 target other.1 in
              other.1 ∙ sym there ∙ here ∙ sym some.1
        ]
      ])
  | inr f ↦ rw f refl
]
