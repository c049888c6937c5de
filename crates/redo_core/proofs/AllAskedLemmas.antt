-- What a target asked for in its check, and then in its script.
use Rattle.std.proofs.Common.{◌≡◌, ◌⊎◌, ℕ, inl, inr, List, Some, sym, ◌∙◌}
use Rattle.redo_record.specs.declared.deps.Dep.{Dep}
use Rattle.redo_record.specs.declared.deps.DepKind.TheVariants.{Change}
use Rattle.redo_record.specs.declared.outcome.Outcome.{Outcome}
use Rattle.redo_record.specs.Entries.{with_all}
use Rattle.redo_record.specs.Paths.{IsAmong}
use Rattle.redo_record.proofs.Public.{entered_operand, operand_entered, operand_target, whole_cases, whole_first}
use Rattle.redo_record.proofs.Public.{whole_second}
use Rattle.redo_build.specs.Rules.{Ask, Rules, operands}
use Rattle.redo_build.specs.Schedule.{only}
use Rattle.redo_build.proofs.DepthLemmas.{cases_Option}
use Rattle.redo_build.proofs.TurnLemmas.{only-among}
use Rattle.redo_core.specs.inside.Checking.{TellsAlike}
use Rattle.redo_core.specs.inside.Slots.{AllAnswered}

-- what the first entries wait for is waited for by all
pub asked-first : (r : Rules) (ds es : List Dep) (q : List ℕ) → IsAmong (operands r ds) q → IsAmong (operands r (with_all ds es)) q
asked-first r ds es q m = entered_operand r.is_source (with_all ds es) q (operand_target r.is_source ds q m)
    (whole_first ds es Change q (operand_entered r.is_source ds q m))

-- and what the others do
pub asked-second : (r : Rules) (ds es : List Dep) (q : List ℕ) → IsAmong (operands r es) q → IsAmong (operands r (with_all ds es)) q
asked-second r ds es q m = entered_operand r.is_source (with_all ds es) q (operand_target r.is_source es q m)
    (whole_second ds es Change q (operand_entered r.is_source es q m))

-- and nothing else
pub asked-cases : (r : Rules) (ds es : List Dep) (q : List ℕ) → IsAmong (operands r (with_all ds es)) q →
    IsAmong (operands r ds) q ⊎ IsAmong (operands r es) q
asked-cases r ds es q m =
    let target = operand_target r.is_source (with_all ds es) q m in
    elim (whole_cases ds es Change q (operand_entered r.is_source (with_all ds es) q m)) [
      | inl first ↦ inl (entered_operand r.is_source ds q target first)
      | inr second ↦ inr (entered_operand r.is_source es q target second)
    ]

-- what tells no more than an ask and has these answers tells alike of them
pub told-alike : (r : Rules) (known a : Ask) (asked : List Dep) → ((q : List ℕ) (o : Outcome) → known q ≡ Some o → a q ≡ Some o) →
    AllAnswered r known asked → TellsAlike r asked known a
told-alike r known a asked told all q m = elim (cases_Option (known q)) [
  | inl none ↦ absurd (all q m none)
  | inr some ↦ some.1 ∙ sym (told q some.0 some.1)
]

-- the answers to all that was asked for are the same to what was asked for first
pub first-alike : (r : Rules) (a : Ask) (ds es : List Dep) → TellsAlike r ds a (only (operands r (with_all ds es)) a)
first-alike r a ds es q m = sym (only-among (operands r (with_all ds es)) a q (asked-first r ds es q m))
