-- The board's own looks: they are open, they come to an end, and there is one state that they lead to.
use Rattle.std.proofs.Common.{◌≡◌, ℕ, zero, suc, ◌<◌, ◌≤◌, ◌↔◌, false, ◌⊎◌, inl, inr, List, [], ◌∷◌, length, find, None}
use Rattle.std.proofs.Common.{refl, sym, ap, subst, ◌∙◌, arith, Some}
use Rattle.std.proofs.lemmas.Bool.{cases_lt, and_right}
use Rattle.redo_build.specs.Rules.{Rules, AreLawful}
use Rattle.redo_build.specs.Schedule.{Entry, State, happens, handed_in, is_able_to_go_on, is_due, known_to}
use Rattle.redo_build.specs.Schedule.{IsDueAt}
use Rattle.redo_build.specs.Schedule.Event.{Look}
use Rattle.redo_build.specs.Schedule.Phase.{Check}
use Rattle.redo_build.specs.Looking.{first_due, NoneDue, looked_once, looked, IsLookedOut, Settles, IsLedOn}
use Rattle.redo_build.specs.Looking.{KeepsNothing}
use Rattle.redo_build.specs.TakesLeft.{takes_left}
use Rattle.redo_build.proofs.DepthLemmas.{cases_Option}
use Rattle.redo_build.proofs.DueLemmas.{due-first}
use Rattle.redo_build.proofs.SoundLemmas.{IsSound, happens-sound}
use Rattle.redo_build.proofs.CountLemmas.{look-left}

module _ (r : Rules) where
  none-still : (looks : ℕ) (s : State) → NoneDue r s → looked r looks s ≡ s
  none-still zero s none = refl
  none-still (suc n) s none =
      let still : looked_once r s ≡ s = ap (handed_in r Check s) none in
      let P : State → Type 0 = λ t. looked r n t ≡ s in
      subst P (sym still) (none-still n s none)

  looks-agree : (looks others : ℕ) (s : State) → NoneDue r (looked r looks s) → NoneDue r (looked r others s) →
      looked r looks s ≡ looked r others s
  looks-agree zero others s none gone = sym (none-still others s none)
  looks-agree (suc n) zero s none gone = none-still (suc n) s gone
  looks-agree (suc n) (suc m) s none gone = looks-agree n m (looked_once r s) none gone

  -- there is one state that looks lead to
  pub looked_out-one : (s t u : State) → IsLookedOut r s t → IsLookedOut r s u → t ≡ u
  looked_out-one s t u one other =
      let P : State → Type 0 = λ x. NoneDue r x in
      one.is ∙ looks-agree one.looks other.looks s (subst P one.is one.none_due) (subst P other.is other.none_due)
      ∙ sym other.is

  -- where each script is begun, none is due
  nothing-found : KeepsNothing r → (s : State) (es : List Entry) → find (is_due r s) es ≡ None
  nothing-found all s [] = refl
  nothing-found all s (e ∷ es) =
      let begun = all e.path (known_to r s.entries e) in
      let never : is_due r s e ≡ false = rw begun (and_right (is_able_to_go_on r s e) false refl) in
      rw never (nothing-found all s es)

  pub nothing-due : KeepsNothing r → (s : State) → NoneDue r s
  nothing-due all s = nothing-found all s s.entries

  pub looked_out-same : KeepsNothing r → (s t : State) → IsLookedOut r s t ↔ (t ≡ s)
  looked_out-same all s t = (
    λ out. out.is ∙ none-still out.looks s (nothing-due all s),
    λ same. record { looks = 0; is = same; none_due = nothing-due all t },
  )

module _ (r : Rules) (lawful : AreLawful r) (request : List (List ℕ)) where
  module _ (s : State) (sound : IsSound r request s) (e : Entry) (first : first_due r s ≡ Some e) where
    pub first-open : IsDueAt r s e.path
    first-open =
        let there = due-first r s sound.standing.distinct e first in
        record { entry = e; at = there.0; due = there.1 }

    pub first-look : looked_once r s ≡ happens r s (Look e.path)
    first-look = ap (handed_in r Check s) (first ∙ sym (due-first r s sound.standing.distinct e first).0)

  settles : (fuel limit : ℕ) (s : State) → IsSound r request s → length s.entries ≤ limit → takes_left limit s < fuel →
      Settles r limit s
  settles zero limit s sound few less = absurd (omega arith)
  settles (suc fuel) limit s sound few less = elim (cases_Option (first_due r s)) [
    | inl none ↦ record { looks = 0; ends = inl none }
    | inr due ↦
        let open' = first-open s sound due.0 due.1 in
        let same = first-look s sound due.0 due.1 in
        elim (cases_lt limit (length (happens r s (Look due.0.path)).entries)) [
          | inl over ↦
              let P : State → Type 0 = λ t. limit < length t.entries in
              record { looks = 1; ends = inr (subst P (sym same) over) }
          | inr within ↦
              let left = look-left r lawful request s sound due.0.path limit open' within in
              let next = happens-sound r lawful request s (Look due.0.path) sound open' in
              let rest = settles fuel limit (happens r s (Look due.0.path)) next within (omega (arith, left, less)) in
              let P : State → Type 0 = λ t.
              NoneDue r (looked r rest.looks t) ⊎ (limit < length (looked r rest.looks t).entries) in
              record { looks = suc rest.looks; ends = subst P (sym same) rest.ends }
        ]
  ]

  pub looks-settle : (limit : ℕ) (s : State) → IsSound r request s → length s.entries ≤ limit → Settles r limit s
  looks-settle limit s sound few = settles (suc (takes_left limit s)) limit s sound few (omega arith)

  -- what holds at once, and of each look behind which it holds, holds of so many looks
  pub looked-by : (P : State → State → Type 0) → ((s : State) → P s s) →
      ((s t : State) (target : List ℕ) → IsSound r request s → IsDueAt r s target → P (happens r s (Look target)) t → P s t) →
      (looks : ℕ) (s : State) → IsSound r request s → P s (looked r looks s)
  looked-by P still next zero s sound = still s
  looked-by P still next (suc n) s sound = elim (cases_Option (first_due r s)) [
    | inl none ↦
        let same : looked_once r s ≡ s = ap (handed_in r Check s) none in
        subst (λ t. P s (looked r n t)) (sym same) (looked-by P still next n s sound)
    | inr due ↦
        let open' = first-open s sound due.0 due.1 in
        let after = happens r s (Look due.0.path) in
        let rest = looked-by P still next n after (happens-sound r lawful request s (Look due.0.path) sound open') in
        subst (λ t. P s (looked r n t)) (sym (first-look s sound due.0 due.1))
        (next s (looked r n after) due.0.path sound open' rest)
  ]

  -- so many looks are open ones
  pub looks-lead : (looks : ℕ) (s : State) → IsSound r request s → IsLedOn r s (looked r looks s)
  looks-lead = looked-by (IsLedOn r) (λ s. record { looks = []; are_looks = tt; all_open = tt; is = refl })
      (λ s t target sound open' rest. record {
        looks = Look target ∷ rest.looks;
        are_looks = rest.are_looks;
        all_open = (open', rest.all_open);
        is = rest.is;
      })
