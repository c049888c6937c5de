-- No target is taken twice at one turn.
use Rattle.std.proofs.Common.{◌≡◌, ℕ, ◌<◌, ◌≤◌, true, ◌⊎◌, inl, inr, List, [], ◌∷◌, ◌++◌, Some, None, is_some}
use Rattle.std.proofs.Common.{refl, sym, ap, subst, ◌∙◌, arith}
use Rattle.std.proofs.lemmas.Bool.{cases_Bool, both_ways}
use Rattle.redo_build.specs.Rules.{Rules, AreLawful, operands}
use Rattle.redo_build.specs.Schedule.{Entry, State, Event, Phase, entry_of, entered, put, sent_out, advanced, moved_on}
use Rattle.redo_build.specs.Schedule.{happens, IsOpen, AllOpen}
use Rattle.redo_build.specs.Schedule.Event.{Take, Hand_in, Look}
use Rattle.redo_build.specs.Schedule.Phase.{Check, Script}
use Rattle.redo_build.specs.Takes.{takes, IsTaken, AreOnce}
use Rattle.redo_build.specs.inside.Standing.{is_script}
use Rattle.redo_build.proofs.SeenLemmas.{entry_of-entered_old, put-new, put-from, wider-at}
use Rattle.redo_build.proofs.SoundLemmas.{IsSound, GoesOn, happens-sound, take-of, hand-of, look-of, taken_by, takes-first}

taken-append : (xs ys : List ((List ℕ) × ℕ)) (p : List ℕ) (n : ℕ) → IsTaken (xs ++ ys) p n → IsTaken xs p n ⊎ IsTaken ys p n
taken-append [] ys p n m = inr m
taken-append (x ∷ xs) ys p n m = elim m [
  | inl here ↦ inl (inl here)
  | inr later ↦ elim (taken-append xs ys p n later) [ inl l ↦ inl (inr l) | inr r ↦ inr r ]
]

append-taken : (xs ys : List ((List ℕ) × ℕ)) (p : List ℕ) (n : ℕ) → IsTaken xs p n ⊎ IsTaken ys p n → IsTaken (xs ++ ys) p n
append-taken [] ys p n m = elim m [ inl none ↦ absurd none | inr later ↦ later ]
append-taken (x ∷ xs) ys p n m = elim m [
  | inl l ↦ elim l [ inl here ↦ inl here | inr rest ↦ inr (append-taken xs ys p n (inl rest)) ]
  | inr r ↦ inr (append-taken xs ys p n (inr r))
]

-- what is taken is taken by the first event or later
pub taken-cases : (r : Rules) (event : Event) (events : List Event) (s : State) (p : List ℕ) (n : ℕ) →
    IsTaken (takes r (event ∷ events) s) p n → IsTaken (taken_by s event) p n ⊎ IsTaken (takes r events (happens r s event)) p n
taken-cases r event events s p n m =
    let M : List ((List ℕ) × ℕ) → Type 0 = λ xs. IsTaken xs p n in
    taken-append (taken_by s event) (takes r events (happens r s event)) p n (subst M (takes-first r event events s) m)

pub cases-taken : (r : Rules) (event : Event) (events : List Event) (s : State) (p : List ℕ) (n : ℕ) →
    IsTaken (taken_by s event) p n ⊎ IsTaken (takes r events (happens r s event)) p n → IsTaken (takes r (event ∷ events) s) p n
cases-taken r event events s p n m =
    let M : List ((List ℕ) × ℕ) → Type 0 = λ xs. IsTaken xs p n in
    subst M (sym (takes-first r event events s)) (append-taken (taken_by s event) (takes r events (happens r s event)) p n m)

-- how an entry may change
pub record Evolves (old new : Entry) : Type 0 where
  pub open_before : new.outcome ≡ None → old.outcome ≡ None
  pub no_earlier : old.turn ≤ new.turn
  pub out_or_later : old.is_out ≡ true → (new.is_out ≡ true) ⊎ (new.outcome ≡ None → old.turn < new.turn)

stays : (e : Entry) → Evolves e e
stays e = record { open_before = λ h. h; no_earlier = omega arith; out_or_later = λ h. inl h }

-- replacing an entry changes that one
put-evolves : (es : List Entry) (new : Entry) (old : Entry) → entry_of es new.path ≡ Some old → Evolves old new →
    (p : List ℕ) (e : Entry) → entry_of es p ≡ Some e → (f : Entry) × (entry_of (put es new) p ≡ Some f) × Evolves e f
put-evolves es new old at how p e h = elim (put-from es new old at p e h) [
  | inl here ↦ let R : Entry → Type 0 = λ x. Evolves x new in (new, here.2, subst R (sym here.0) how)
  | inr other ↦ (e, other.1, stays e)
]

moved-evolves : (r : Rules) (phase : Phase) (es : List Entry) (e : Entry) → e.outcome ≡ None → e.is_out ≡ is_script phase →
    Evolves e (moved_on phase e (advanced r es e))
moved-evolves r Check es e open' inside = record {
  open_before = λ h. open';
  no_earlier = omega arith;
  out_or_later = λ h. absurd (both_ways _ inside h);
}
moved-evolves r Script es e open' out = record {
  open_before = λ h. open';
  no_earlier = elim (cases_Bool (is_some (advanced r es e).outcome)) [ inl t ↦ rw t (omega arith) | inr f ↦ rw f (omega arith) ];
  out_or_later = λ h. inr (λ none. rw none (omega arith));
}

module _ (r : Rules) (lawful : AreLawful r) (request : List (List ℕ)) where
  going-evolves : (s : State) (event : Event) (phase : Phase) → GoesOn r lawful request s event phase → (p : List ℕ) (e : Entry) →
      entry_of s.entries p ≡ Some e → (f : Entry) × (entry_of (happens r s event).entries p ≡ Some f) × Evolves e f
  going-evolves s event phase of p e h =
      let new = operands r (advanced r s.entries of.entry).deps in
      let next = moved_on phase of.entry (advanced r s.entries of.entry) in
      let P : State → Type 0 = λ t. (f : Entry) × (entry_of t.entries p ≡ Some f) × Evolves e f in
      subst P (sym of.is) (put-evolves (entered r s.entries new) next of.entry (wider-at r s.entries new next of.entry of.at)
      (moved-evolves r phase s.entries of.entry of.parts.0 of.out) p e (entry_of-entered_old r s.entries new p e h))

  happens-evolves : (s : State) (event : Event) → IsSound r request s → IsOpen r s event → (p : List ℕ) (e : Entry) →
      entry_of s.entries p ≡ Some e → (f : Entry) × (entry_of (happens r s event).entries p ≡ Some f) × Evolves e f
  happens-evolves s (Take which) sound open' p e h =
      let of = take-of r lawful request s sound which open' in
      let P : State → Type 0 = λ t. (f : Entry) × (entry_of t.entries p ≡ Some f) × Evolves e f in
      subst P (sym of.is) (put-evolves s.entries (sent_out of.entry) of.entry of.at
      (record { open_before = λ k. k; no_earlier = omega arith; out_or_later = λ k. inl refl }) p e h)
  happens-evolves s (Hand_in target turn) sound open' p e h =
      going-evolves s (Hand_in target turn) Script (hand-of r lawful request s sound target turn open') p e h
  happens-evolves s (Look target) sound open' p e h =
      going-evolves s (Look target) Check (look-of r lawful request s target open') p e h

  after-step : (event : Event) (events : List Event) (s : State) → IsSound r request s → IsOpen r s event →
      AllOpen r (happens r s event) events → (p : List ℕ) (turn : ℕ) → IsTaken (takes r events (happens r s event)) p turn →
      (e : Entry) → entry_of s.entries p ≡ Some e →
      ((f : Entry) → entry_of (happens r s event).entries p ≡ Some f → (f.outcome ≡ None) × (f.turn ≤ turn) × (f.is_out ≡ true → f.turn < turn)) →
      (e.outcome ≡ None) × (e.turn ≤ turn) × (e.is_out ≡ true → e.turn < turn)
  after-step event events s sound open' rest p turn m e h later =
      let found = happens-evolves s event sound open' p e h in
      let then = later found.0 found.1 in
      let how = found.2 in (
        how.open_before then.0,
        omega (arith, how.no_earlier, then.1),
        λ out. elim (how.out_or_later out) [
          | inl still ↦ let after = then.2 still in omega (arith, how.no_earlier, after)
          | inr moved ↦ let more = moved then.0 in omega (arith, more, then.1)
        ],
      )

  -- what is taken now is at its turn
  taken-now : (s : State) (event : Event) → IsSound r request s → IsOpen r s event → (p : List ℕ) (turn : ℕ) →
      IsTaken (taken_by s event) p turn → (e : Entry) → entry_of s.entries p ≡ Some e →
      (e.outcome ≡ None) × (e.turn ≤ turn) × (e.is_out ≡ true → e.turn < turn)
  taken-now s (Take which) sound open' p turn m e h =
      let of = take-of r lawful request s sound which open' in
      let M : List ((List ℕ) × ℕ) → Type 0 = λ xs. IsTaken xs p turn in
      elim (subst M of.place m) [
        | inl now ↦
            let R : List ℕ → Type 0 = λ x. entry_of s.entries x ≡ Some of.entry in
            let same : of.entry ≡ e = let both : Some of.entry ≡ Some e = sym (subst R now.0 of.at) ∙ h in cc in
            let at = ap (λ (x : Entry). x.turn) same in (
              sym (ap (λ (x : Entry). x.outcome) same) ∙ of.open_yet,
              omega (arith, at, now.1),
              λ out. absurd (both_ways _ of.is_in (ap (λ (x : Entry). x.is_out) same ∙ out)),
            )
        | inr none ↦ absurd none
      ]
  taken-now s _ sound open' p turn m e h = absurd m

  -- what is taken from a state on has not passed its turn there
  taken-later : (events : List Event) (s : State) → IsSound r request s → AllOpen r s events → (p : List ℕ) (turn : ℕ) →
      IsTaken (takes r events s) p turn → (e : Entry) → entry_of s.entries p ≡ Some e →
      (e.outcome ≡ None) × (e.turn ≤ turn) × (e.is_out ≡ true → e.turn < turn)
  taken-later [] s sound open' p turn m e h = absurd m
  taken-later (event ∷ events) s sound open' p turn m e h =
      let next = happens-sound r lawful request s event sound open'.0 in
      elim (taken-cases r event events s p turn m) [
        | inl now ↦ taken-now s event sound open'.0 p turn now e h
        | inr later ↦ after-step event events s sound open'.0 open'.1 p turn later e h
            (taken-later events (happens r s event) next open'.1 p turn later)
      ]

  pub takes-once : (events : List Event) (s : State) → IsSound r request s → AllOpen r s events → AreOnce (takes r events s)
  takes-once [] s sound open' = tt
  takes-once (Take which ∷ events) s sound open' =
      let of = take-of r lawful request s sound which open'.0 in
      let next = happens-sound r lawful request s (Take which) sound open'.0 in
      let P : List ((List ℕ) × ℕ) → Type 0 = λ xs. AreOnce (xs ++ takes r events (happens r s (Take which))) in
      let there = ap (λ (t : State). entry_of t.entries of.entry.path) of.is ∙ put-new s.entries (sent_out of.entry) of.entry of.at in
      subst P (sym of.place) (
        (λ m.
            let later = taken-later events (happens r s (Take which)) next open'.1 of.entry.path of.entry.turn m (sent_out of.entry) there in
            absurd (let above = later.2 refl in omega (arith, above))),
        takes-once events (happens r s (Take which)) next open'.1,
      )
  takes-once (Hand_in target at ∷ events) s sound open' =
      takes-once events (happens r s (Hand_in target at)) (happens-sound r lawful request s (Hand_in target at) sound open'.0) open'.1
  takes-once (Look target ∷ events) s sound open' =
      takes-once events (happens r s (Look target)) (happens-sound r lawful request s (Look target) sound open'.0)
      open'.1
