-- What so many looks lead to: a state that is reached, with as many jobs out and no more takes left; and a state that
-- shows the build leaves nothing to look at.
use Rattle.std.proofs.Common.{◌≡◌, ℕ, zero, suc, ◌≤◌, List, length, Option, Some, None}
use Rattle.std.proofs.Common.{true, sym, subst, ◌∙◌, arith}
use Rattle.std.proofs.lemmas.Bool.{and_parts, false_from_ne_true}
use Rattle.redo_record.specs.Paths.{IsAmong}
use Rattle.redo_record.specs.Progress.{Progress}
use Rattle.redo_record.specs.declared.deps.Dep.{Dep}
use Rattle.redo_build.specs.Rules.{Ask, Rules, AreLawful, operands}
use Rattle.redo_build.specs.Outcomes.{outcome_at}
use Rattle.redo_build.specs.Schedule.{Entry, State, Phase, advanced, entered, entry_of, handed_in, happens}
use Rattle.redo_build.specs.Schedule.{is_able_to_go_on, is_due, moved_on, IsDueAt}
use Rattle.redo_build.specs.Schedule.Event.{Look}
use Rattle.redo_build.specs.Schedule.Phase.{Check}
use Rattle.redo_build.specs.Looking.{NoneDue, first_due, looked, looked_once}
use Rattle.redo_build.specs.TakesLeft.{takes_left}
use Rattle.redo_build.specs.Theorems.{ShowsBuild}
use Rattle.redo_build.proofs.CountLemmas.{look-left}
use Rattle.redo_build.proofs.DepthLemmas.{outcome_at-step, settled}
use Rattle.redo_build.proofs.DueLemmas.{none-due-from}
use Rattle.redo_build.proofs.LookingLemmas.{looked-by}
use Rattle.redo_build.proofs.SeenLemmas.{entered-longer, entry_of-among, length-put, outcomes_of-at}
use Rattle.redo_build.proofs.SoundLemmas.{IsSound, is_able_to_go_on-parts, lacks_none-true}

handed-longer : (r : Rules) (phase : Phase) (s : State) (o : Option Entry) →
    length s.entries ≤ length (handed_in r phase s o).entries
handed-longer r phase s None = omega arith
handed-longer r phase s (Some e) =
    let now : Progress = advanced r s.entries e in
    let es : List Entry = entered r s.entries (operands r now.deps) in
    omega (arith, entered-longer r s.entries (operands r now.deps), length-put es (moved_on phase e now))

-- looks forget nothing that was seen
pub looked-longer : (r : Rules) (looks : ℕ) (s : State) → length s.entries ≤ length (looked r looks s).entries
looked-longer r zero s = omega arith
looked-longer r (suc n) s =
    omega (arith, handed-longer r Check s (first_due r s), looked-longer r n (looked_once r s))

module _ (r : Rules) (lawful : AreLawful r) (request : List (List ℕ)) where
  -- looks leave no more to take
  pub looked-left : (limit looks : ℕ) (s : State) → IsSound r request s → length (looked r looks s).entries ≤ limit →
      takes_left limit (looked r looks s) ≤ takes_left limit s
  looked-left limit looks s sound = (looked-by r lawful request
      (λ x y. (length x.entries ≤ length y.entries) × (length y.entries ≤ limit → takes_left limit y ≤ takes_left limit x))
      (λ x. (omega arith, λ few. omega arith)) step looks s sound).1
    where
      step : (x y : State) (target : List ℕ) → IsSound r request x → IsDueAt r x target →
          (length (happens r x (Look target)).entries ≤ length y.entries) ×
          (length y.entries ≤ limit → takes_left limit y ≤ takes_left limit (happens r x (Look target))) →
          (length x.entries ≤ length y.entries) × (length y.entries ≤ limit → takes_left limit y ≤ takes_left limit x)
      step x y target sound' due rest = (
        omega (arith, rest.0, handed-longer r Check x (entry_of x.entries target)),
        λ few.
            let less = look-left r lawful request x sound' target limit due (omega (arith, rest.0, few)) in
            let after = rest.1 few in
            omega (arith, less, after),
      )

  -- what shows the build leaves nothing to look at: what isn't decided there lacks an answer for good
  pub shown-none_due : (limit : ℕ) (s : State) → IsSound r request s → ShowsBuild r request limit s → NoneDue r s
  shown-none_due limit s sound shown =
      none-due-from r s sound.standing.distinct (λ p e at. false_from_ne_true _ (never p e at))
    where
      never : (p : List ℕ) (e : Entry) → entry_of s.entries p ≡ Some e → is_due r s e ≡ true → ⊥
      never p e at due =
          let parts = is_able_to_go_on-parts r s e (and_parts (is_able_to_go_on r s e) _ due).0 in
          let seen = entry_of-among s.entries p e at in
          let end : Ask = outcome_at r limit in
          let waits : end p ≡ None = sym (shown.outcomes p seen) ∙ outcomes_of-at s.entries p e at ∙ parts.0 in
          let stays = (settled r lawful request limit shown.within).same (suc limit) p (omega arith)
          ((shown.members p).0 seen) in
          let open' : (r.progress p end).outcome ≡ None =
          sym (outcome_at-step r lawful limit p (sound.standing.targets p seen)) ∙ stays ∙ waits in
          let lack = (lawful.each p).lacking end open' in
          let A : List Dep → Type 0 = λ ds. IsAmong (operands r ds) lack.0 in
          let asked = subst A (sym (shown.declared p e at)) lack.1 in
          let there = sound.standing.closed p lack.0 e at asked in
          lacks_none-true r s.entries e parts.1 lack.0 asked (shown.outcomes lack.0 there ∙ lack.2)
