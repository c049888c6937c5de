-- What looks leave as it is, and that a take makes nothing due.
use Rattle.std.proofs.Common.{◌≡◌, ℕ, ◌<◌, ◌↔◌, true, false, inl, inr, List, [], ◌∷◌, ◌++◌, length}
use Rattle.std.proofs.Common.{Some, is_none, slice_get, option_and_then, remove, refl, sym, ap, subst, ◌∙◌}
use Rattle.std.proofs.lemmas.Bool.{both_ways, and_parts, and_from, not-true, not_from_false, false_from_ne_true}
use Rattle.redo_names.proofs.PathLemmas.{among-told, told-among}
use Rattle.redo_record.specs.Paths.{is_among}
use Rattle.redo_build.specs.Rules.{Rules, AreLawful, operands}
use Rattle.redo_build.specs.Schedule.{Entry, State, Event, entry_of, outcomes_of, put, sent_out}
use Rattle.redo_build.specs.Schedule.{taken, advanced, moved_on, happens, known_to, lacks_none}
use Rattle.redo_build.specs.Schedule.{is_able_to_go_on, is_due, run, out_count, AllOpen, IsOutAt}
use Rattle.redo_build.specs.Schedule.Event.{Take, Hand_in, Look}
use Rattle.redo_build.specs.Schedule.Phase.{Check}
use Rattle.redo_build.specs.Looking.{looked, AreLooks, NoneDue}
use Rattle.redo_build.specs.Takes.{place_of, takes}
use Rattle.redo_build.proofs.SeenLemmas.{entry_of-path, new-inside, put-cases, replaced-from, replaced-cases}
use Rattle.redo_build.proofs.QueueLemmas.{remove-cases}
use Rattle.redo_build.proofs.DueLemmas.{none-due, none-due-from}
use Rattle.redo_build.proofs.StandingLemmas.{sent-outcomes}
use Rattle.redo_build.proofs.SoundLemmas.{IsSound, IsTakeOf, GoesOn, take-of, look-of, happens-sound, is_able_to_go_on-parts}
use Rattle.redo_build.proofs.SoundLemmas.{lacks_none-true, lacks_none-from, only-same}
use Rattle.redo_build.proofs.CountLemmas.{look-out}
use Rattle.redo_build.proofs.LookingLemmas.{looked-by}

-- a run goes on where another ended
pub run-behind : (r : Rules) (events more : List Event) (s : State) → run r (events ++ more) s ≡ run r more
    (run r events s)
run-behind r [] more s = refl
run-behind r (event ∷ events) more s = run-behind r events more (happens r s event)

pub AllOpen-behind : (r : Rules) (events more : List Event) (s : State) → AllOpen r s events →
    AllOpen r (run r events s) more → AllOpen r s (events ++ more)
AllOpen-behind r [] more s all rest = rest
AllOpen-behind r (event ∷ events) more s all rest = (all.0, AllOpen-behind r events more (happens r s event) all.1 rest)

-- looks take nothing
looks-take-none : (r : Rules) (looks : List Event) (s : State) → AreLooks looks → takes r looks s ≡ []
looks-take-none r [] s are = refl
looks-take-none r (Take which ∷ looks) s are = absurd are
looks-take-none r (Hand_in target turn ∷ looks) s are = absurd are
looks-take-none r (Look target ∷ looks) s are = looks-take-none r looks (happens r s (Look target)) are

pub takes-looks : (r : Rules) (events looks : List Event) (s : State) → AreLooks looks →
    takes r (events ++ looks) s ≡ takes r events s
takes-looks r [] looks s are = looks-take-none r looks s are
takes-looks r (Take which ∷ events) looks s are =
    ap (λ xs. place_of (option_and_then (entry_of s.entries) (slice_get s.ready which)) ++ xs)
    (takes-looks r events looks (happens r s (Take which)) are)
takes-looks r (Hand_in target turn ∷ events) looks s are =
    takes-looks r events looks (happens r s (Hand_in target turn)) are
takes-looks r (Look target ∷ events) looks s are = takes-looks r events looks (happens r s (Look target)) are

module _ (r : Rules) (lawful : AreLawful r) (request : List (List ℕ)) where
  module _ (s : State) (target : List ℕ) (of : GoesOn r lawful request s (Look target) Check) where
    abbrev asks : List (List ℕ)
    asks = operands r (advanced r s.entries of.entry).deps

    abbrev next : Entry
    next = moved_on Check of.entry (advanced r s.entries of.entry)

    -- what is out stays so
    look-keeps : (q : List ℕ) (turn : ℕ) → IsOutAt s q turn → IsOutAt (happens r s (Look target)) q turn
    look-keeps q turn out = elim (replaced-from r s.entries asks next of.entry of.at q out.entry out.at) [
      | inl here ↦ absurd (both_ways _ (ap (λ (x : Entry). x.is_out) here.0 ∙ of.out) out.is_out)
      | inr other ↦ record {
        entry = out.entry;
        at = ap (λ (t : State). entry_of t.entries q) of.is ∙ other.1;
        is_out = out.is_out;
        at_turn = out.at_turn;
      }
    ]

    -- and nothing else goes out
    look-adds-none : (q : List ℕ) (turn : ℕ) → IsOutAt (happens r s (Look target)) q turn → IsOutAt s q turn
    look-adds-none q turn out =
        elim (replaced-cases r s.entries asks next of.entry of.at q out.entry
        (ap (λ (t : State). entry_of t.entries q) (sym of.is) ∙ out.at)) [
          | inl here ↦ absurd (both_ways _ (ap (λ (x : Entry). x.is_out) here.1) out.is_out)
          | inr other ↦ elim other.1 [
            | inl old ↦ record { entry = out.entry; at = old; is_out = out.is_out; at_turn = out.at_turn }
            | inr fresh ↦ absurd (both_ways _ (ap (λ (x : Entry). x.is_out) fresh ∙ new-inside r q) out.is_out)
          ]
        ]

  -- so many looks leave what is out as it is
  pub looked-out : (looks : ℕ) (s : State) → IsSound r request s → (q : List ℕ) (turn : ℕ) →
      IsOutAt s q turn ↔ IsOutAt (looked r looks s) q turn
  looked-out looks s sound q turn =
      looked-by r lawful request (λ x y. IsOutAt x q turn ↔ IsOutAt y q turn) (λ x. (λ out. out, λ out. out))
      (λ x y target sound' due rest.
      let of = look-of r lawful request x target due in
      (λ out. rest.0 (look-keeps x target of q turn out), λ out. look-adds-none x target of q turn (rest.1 out))) looks s sound

  pub looked-count : (looks : ℕ) (s : State) → IsSound r request s → out_count (looked r looks s) ≡ out_count s
  looked-count = looked-by r lawful request (λ x y. out_count y ≡ out_count x) (λ x. refl)
      (λ x y target sound due rest. rest ∙ look-out r lawful request x sound target due)

  -- a take makes nothing due
  module _ (s : State) (sound : IsSound r request s) (none : NoneDue r s) (which : ℕ) (of : IsTakeOf r lawful request s which)
    where
      abbrev e : Entry
      e = of.entry

      not-due : (q : List ℕ) (x : Entry) → entry_of (put s.entries (sent_out e)) q ≡ Some x →
          is_due r (taken s (Some of.entry) which) x ≡ true → ⊥
      not-due q x there due =
          let then' : State = taken s (Some e) which in
          let both = and_parts (is_able_to_go_on r then' x) _ due in
          let parts = is_able_to_go_on-parts r then' x both.0 in
          let before : (e.path ≡ q → ⊥) × (entry_of s.entries q ≡ Some x) =
          (elim (put-cases s.entries (sent_out e) e of.at q x there) [
            | inl sent ↦ absurd (
                let out : (sent_out e).is_out ≡ true = refl in
                both_ways _ parts.2 (ap (λ (y : Entry). y.is_out) sent.1 ∙ out))
            | inr old ↦ old
          ]) in
          let same = sent-outcomes r lawful request s.entries sound.standing e of.at of.open_yet in
          let fed : lacks_none r s.entries x ≡ true = lacks_none-from r s.entries x (λ y m missing.
          lacks_none-true r then'.entries x parts.1 y m (same y ∙ missing)) in
          let waits : is_among s.ready x.path ≡ false = false_from_ne_true _ (λ t.
          elim (remove-cases s.ready which e.path x.path of.ready (among-told s.ready x.path t)) [
            | inl taken' ↦ before.0 (taken' ∙ entry_of-path s.entries q x before.1)
            | inr left ↦ both_ways _ parts.3 (told-among (remove s.ready which) x.path left)
          ]) in
          let known : r.begins x.path (known_to r then'.entries x) ≡ r.begins x.path (known_to r s.entries x) =
          lawful.begins_local x.path (known_to r then'.entries x) (known_to r s.entries x) (λ y m.
          only-same (operands r x.deps) (outcomes_of then'.entries) (outcomes_of s.entries)
          (λ z k. same z) y) in
          let begun : r.begins x.path (known_to r s.entries x) ≡ false = sym known ∙ not-true _ both.1 in
          let open_yet : is_none x.outcome ≡ true = rw parts.0 refl in
          let go : is_able_to_go_on r s x ≡ true =
          and_from _ _ (and_from _ _ (and_from _ _ open_yet fed) (not_from_false _ parts.2)) (not_from_false _ waits) in
          let was : is_due r s x ≡ true = and_from _ _ go (not_from_false _ begun) in
          both_ways _ (none-due r s none q x before.1) was

  pub take-none-due : (s : State) → IsSound r request s → NoneDue r s → (which : ℕ) → which < length s.ready →
      NoneDue r (happens r s (Take which))
  take-none-due s sound none which below =
      let of = take-of r lawful request s sound which below in
      let next = happens-sound r lawful request s (Take which) sound below in
      let S : State → Type 0 = IsSound r request in
      let N : State → Type 0 = NoneDue r in
      subst N (sym of.is) (none-due-from r (taken s (Some of.entry) which) (subst S of.is next).standing.distinct
      (λ q x there. false_from_ne_true _ (not-due s sound none which of q x there)))
