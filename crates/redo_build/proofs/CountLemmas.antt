-- How many jobs are out, and how many may still be taken, after each event.
use Rattle.std.proofs.Common.{◌≡◌, ℕ, suc, ◌+◌, ◌*◌, ◌-◌, ◌<◌, ◌≤◌, false, cond, inl, inr, List, [], ◌∷◌, ◌++◌}
use Rattle.std.proofs.Common.{length, length-append, filter, Option, Some, None, is_some, slice_get}
use Rattle.std.proofs.Common.{refl, sym, ap, subst, ◌∙◌, arith, bytes_eq}
use Rattle.std.proofs.lemmas.Bool.{cases_Bool}
use Rattle.redo_record.specs.Paths.{is_among}
use Rattle.redo_build.specs.Rules.{Rules, AreLawful, operands}
use Rattle.redo_build.specs.Outcomes.{requested_targets}
use Rattle.redo_build.specs.Schedule.{Entry, State, Event, Phase, paths_of, entry_of, new_entry, entered, put, sent_out}
use Rattle.redo_build.specs.Schedule.{advanced, moved_on, happens, out_count, opening, IsOutAt, IsDueAt}
use Rattle.redo_build.specs.Schedule.Event.{Take, Hand_in, Look}
use Rattle.redo_build.specs.Schedule.Phase.{Check, Script}
use Rattle.redo_build.specs.TakesLeft.{turns_left, turns_of, takes_left}
use Rattle.redo_build.specs.inside.Standing.{is_script}
use Rattle.redo_build.proofs.SeenLemmas.{length-paths, length-put, new-inside, entered-longer, phase_cases, put-new, wider-at}
use Rattle.redo_build.proofs.SoundLemmas.{IsSound, GoesOn, take-of, hand-of, look-of}
use Rattle.redo_build.proofs.TurnBoundLemmas.{turn-below}

none-from : {A : Type 0} (o : Option A) → is_some o ≡ false → o ≡ None
none-from None h = refl
none-from (Some x) h = cc

-- a number for each entry, added up
abbrev total : (Entry → ℕ) → List Entry → ℕ
total w [] = 0
total w (e ∷ es) = w e + total w es

total-put : (w : Entry → ℕ) (es : List Entry) (new old : Entry) → entry_of es new.path ≡ Some old →
    total w (put es new) + w old ≡ total w es + w new
total-put w [] new old h = cc
total-put w (x ∷ es) new old h = elim (cases_Bool (bytes_eq x.path new.path)) [
  | inl t ↦
      let same : x ≡ old = let now = rw t at h in cc in
      let number = ap w same in
      rw t (omega (arith, number))
  | inr f ↦ let rest = total-put w es new old (rw f at h) in rw f (omega (arith, rest))
]

total-push : (w : Entry → ℕ) (es : List Entry) (x : Entry) → total w (es ++ x ∷ []) ≡ total w es + w x
total-push w [] x = omega arith
total-push w (y ∷ es) x = let rest = total-push w es x in omega (arith, rest)

abbrev one_out : Entry → ℕ
one_out e = cond e.is_out 1 0

count-total : (es : List Entry) → length (filter (λ e. e.is_out) es) ≡ total one_out es
count-total [] = refl
count-total (e ∷ es) = let rest = count-total es in
    elim (cases_Bool e.is_out) [ inl t ↦ rw t (omega (arith, rest)) | inr f ↦ rw f (omega (arith, rest)) ]

turns-total : (limit : ℕ) (es : List Entry) → turns_of limit es ≡ total (turns_left limit) es
turns-total limit [] = refl
turns-total limit (e ∷ es) = ap (λ n. turns_left limit e + n) (turns-total limit es)

-- the bound, from the entries alone
abbrev left : ℕ → List Entry → ℕ
left limit es = turns_of limit es + limit * (limit - length es)

turns_left-most : (limit : ℕ) (e : Entry) → turns_left limit e ≤ limit
turns_left-most limit e = elim (cases_Bool (is_some e.outcome)) [ inl t ↦ rw t (omega arith) | inr f ↦ rw f (omega arith) ]

mul-step : (limit n : ℕ) → n + 1 ≤ limit → limit * (limit - n) ≡ limit + limit * (limit - (n + 1))
mul-step limit n h =
    let one : limit - n ≡ suc (limit - (n + 1)) = omega (arith, h) in
    ap (λ k. limit * k) one ∙ omega arith

left-push : (limit : ℕ) (es : List Entry) (x : Entry) → length es + 1 ≤ limit → left limit (es ++ x ∷ []) ≤ left limit es
left-push limit es x room =
    let len : length (es ++ x ∷ []) ≡ length es + 1 = length-append es (x ∷ []) in
    let all = ap (λ k. limit * (limit - k)) len in
    let step = mul-step limit (length es) room in
    omega (arith, all, step, turns_left-most limit x, turns-total limit es, turns-total limit (es ++ x ∷ []), total-push (turns_left limit) es x)

module _ (r : Rules) where
  -- what is entered isn't out
  out-entered : (es : List Entry) (ps : List (List ℕ)) → total one_out (entered r es ps) ≡ total one_out es
  out-entered es [] = refl
  out-entered es (p ∷ ps) = elim (cases_Bool (is_among (paths_of es) p)) [
    | inl t ↦ rw t (out-entered es ps)
    | inr f ↦
        let new : one_out (new_entry r p) ≡ 0 = rw (new-inside r p) refl in
        rw f (out-entered (es ++ new_entry r p ∷ []) ps ∙ (let more = total-push one_out es (new_entry r p) in omega (arith, more, new)))
  ]

  left-entered : (limit : ℕ) (es : List Entry) (ps : List (List ℕ)) → length (entered r es ps) ≤ limit → left limit (entered r es ps) ≤ left limit es
  left-entered limit es [] h = omega arith
  left-entered limit es (p ∷ ps) h = elim (cases_Bool (is_among (paths_of es) p)) [
    | inl t ↦ rw t (left-entered limit es ps (rw t at h))
    | inr f ↦
        let inside : length (entered r (es ++ new_entry r p ∷ []) ps) ≤ limit = rw f at h in
        let longer = entered-longer r (es ++ new_entry r p ∷ []) ps in
        let len = length-append es (new_entry r p ∷ []) in
        let rest = left-entered limit (es ++ new_entry r p ∷ []) ps inside in
        let first = left-push limit es (new_entry r p) (omega (arith, inside, longer, len)) in
        rw f (omega (arith, rest, first))
  ]

  -- at the opening nothing is out, and no more may be taken than each of as many targets as the limit at each turn below it
  pub opening-out : (request : List (List ℕ)) → out_count (opening r request) ≡ 0
  opening-out request = count-total (entered r [] (requested_targets r request)) ∙ out-entered [] (requested_targets r request)

  pub opening-left : (request : List (List ℕ)) (limit : ℕ) → length (opening r request).entries ≤ limit → takes_left limit (opening r request) ≤ limit * limit
  opening-left request limit few =
      let inside = left-entered limit [] (requested_targets r request) few in
      let none : limit - 0 ≡ limit = omega arith in
      let whole = ap (λ k. limit * k) none in
      omega (arith, inside, whole)

module _ (r : Rules) (lawful : AreLawful r) (request : List (List ℕ)) (s : State) (sound : IsSound r request s) where
  -- one more job is out
  pub take-out : (which : ℕ) → which < length s.ready → out_count (happens r s (Take which)) ≡ out_count s + 1
  take-out which below =
      let of = take-of r lawful request s sound which below in
      let moved = total-put one_out s.entries (sent_out of.entry) of.entry of.at in
      let before : one_out of.entry ≡ 0 = rw of.is_in refl in
      let old = count-total s.entries in
      count-total (happens r s (Take which)).entries ∙ ap (λ (t : State). total one_out t.entries) of.is ∙
      omega (arith, moved, before, old)

  -- it is out at its turn
  pub take-at : (which : ℕ) (p : List ℕ) (e : Entry) → which < length s.ready → slice_get s.ready which ≡ Some p → entry_of s.entries p ≡ Some e →
      IsOutAt (happens r s (Take which)) p e.turn
  take-at which p e below spot h =
      let of = take-of r lawful request s sound which below in
      let same : of.entry.path ≡ p = let both : Some of.entry.path ≡ Some p = sym of.ready ∙ spot in cc in
      let P : List ℕ → Type 0 = λ x. entry_of s.entries x ≡ Some e in
      let is : of.entry ≡ e = let both : Some of.entry ≡ Some e = sym of.at ∙ subst P (sym same) h in cc in
      let Q : List ℕ → Type 0 = λ x. entry_of (put s.entries (sent_out of.entry)) x ≡ Some (sent_out of.entry) in
      record {
        entry = sent_out of.entry;
        at = ap (λ (t : State). entry_of t.entries p) of.is ∙ subst Q same (put-new s.entries (sent_out of.entry) of.entry of.at);
        is_out = refl;
        at_turn = ap (λ (x : Entry). x.turn) is;
      }

  -- fewer may still be taken
  pub take-left : (which limit : ℕ) → which < length s.ready → length s.entries ≤ limit →
      takes_left limit (happens r s (Take which)) < takes_left limit s
  take-left which limit below few =
      let of = take-of r lawful request s sound which below in
      let new = sent_out of.entry in
      let moved = total-put (turns_left limit) s.entries new of.entry of.at in
      let turn = turn-below r lawful request s.entries sound.standing of.entry.path of.entry of.at of.open_yet of.fed in
      let before : turns_left limit of.entry ≡ limit - (of.entry.looks + of.entry.turn + 0) = rw (of.open_yet, of.is_in) refl in
      let after : turns_left limit new ≡ limit - (of.entry.looks + of.entry.turn + 1) = rw of.open_yet refl in
      let rest = ap (λ n. limit * (limit - n)) (length-put s.entries new) in
      let whole = ap (takes_left limit) of.is in
      omega (
        arith,
        moved,
        before,
        after,
        rest,
        whole,
        turns-total limit s.entries,
        turns-total limit (put s.entries new),
        turn,
        length-paths s.entries,
        few,
      )

  -- a check or a script goes on: its entry is replaced
  module _ (event : Event) (phase : Phase) (of : GoesOn r lawful request s event phase) where
    abbrev asks : List (List ℕ)
    asks = operands r (advanced r s.entries of.entry).deps

    abbrev wide : List Entry
    wide = entered r s.entries asks

    abbrev next : Entry
    next = moved_on phase of.entry (advanced r s.entries of.entry)

    going-total : (w : Entry → ℕ) → total w (happens r s event).entries + w of.entry ≡ total w wide + w next
    going-total w = ap (λ (t : State). total w t.entries + w of.entry) of.is ∙
        total-put w wide next of.entry (wider-at r s.entries asks next of.entry of.at)

    -- one job fewer is out behind a script
    going-out : out_count (happens r s event) + cond (is_script phase) 1 0 ≡ out_count s
    going-out =
        let moved = going-total one_out in
        let before : one_out of.entry ≡ cond (is_script phase) 1 0 = ap {B = ℕ} (λ b. cond b 1 0) of.out in
        let after : one_out next ≡ 0 = refl in
        let counted = count-total (happens r s event).entries in
        omega (arith, moved, before, after, counted, out-entered r s.entries asks, count-total s.entries)

    stops : next.outcome ≡ None → next.looks + next.turn ≡ of.entry.looks + of.entry.turn + 1
    stops none = elim (phase_cases phase) [ inl t ↦ rw (t, none) (omega arith) | inr f ↦ rw (f, none) (omega arith) ]

    either : cond (is_script phase) 0 1 + cond (is_script phase) 1 0 ≡ 1
    either = elim (phase_cases phase) [ inl t ↦ rw t refl | inr f ↦ rw f refl ]

    -- it may go on once less, after a look
    going-turns : (limit : ℕ) → of.entry.looks + of.entry.turn < limit →
        turns_left limit next + cond (is_script phase) 0 1 ≤ turns_left limit of.entry
    going-turns limit room =
        let before : turns_left limit of.entry ≡ limit - (of.entry.looks + of.entry.turn + cond (is_script phase) 1 0) =
        rw (of.parts.0, of.out) refl in
        elim (cases_Bool (is_some next.outcome)) [
          | inl t ↦ rw t (omega (arith, before, room, either))
          | inr f ↦ let later = stops (none-from next.outcome f) in rw f (omega (arith, later, before, room, either))
        ]

    going-left : (limit : ℕ) → length (happens r s event).entries ≤ limit →
        takes_left limit (happens r s event) + cond (is_script phase) 0 1 ≤ takes_left limit s
    going-left limit few =
        let moved = going-total (turns_left limit) in
        let size = ap (λ (t : State). length t.entries) of.is ∙ length-put wide next in
        let longer = entered-longer r s.entries asks in
        let turn = turn-below r lawful request s.entries sound.standing of.entry.path of.entry of.at of.parts.0 of.parts.1 in
        let after = going-turns limit (omega (arith, turn, length-paths s.entries, few, size, longer)) in
        let inside = left-entered r limit s.entries asks (omega (arith, few, size)) in
        let rest = ap (λ n. limit * (limit - n)) size in
        omega (arith, moved, after, rest, inside, turns-total limit wide, turns-total limit (happens r s event).entries)

  -- one job fewer is out
  pub hand_in-out : (target : List ℕ) (turn : ℕ) → IsOutAt s target turn → out_count (happens r s (Hand_in target turn)) + 1 ≡ out_count s
  hand_in-out target turn out = going-out (Hand_in target turn) Script (hand-of r lawful request s sound target turn out)

  -- no more may be taken than before
  pub hand_in-left : (target : List ℕ) (turn limit : ℕ) → IsOutAt s target turn → length (happens r s (Hand_in target turn)).entries ≤ limit →
      takes_left limit (happens r s (Hand_in target turn)) ≤ takes_left limit s
  hand_in-left target turn limit out few =
      let less : takes_left limit (happens r s (Hand_in target turn)) + 0 ≤ takes_left limit s =
      going-left (Hand_in target turn) Script (hand-of r lawful request s sound target turn out) limit few in
      omega (arith, less)

  -- behind a look as many are out
  pub look-out : (target : List ℕ) → IsDueAt r s target → out_count (happens r s (Look target)) ≡ out_count s
  look-out target due =
      let same : out_count (happens r s (Look target)) + 0 ≡ out_count s =
      going-out (Look target) Check (look-of r lawful request s target due) in
      omega (arith, same)

  -- and fewer looks may follow: so the board's own events come to an end
  pub look-left : (target : List ℕ) (limit : ℕ) → IsDueAt r s target →
      length (happens r s (Look target)).entries ≤ limit →
      takes_left limit (happens r s (Look target)) < takes_left limit s
  look-left target limit due few =
      let less : takes_left limit (happens r s (Look target)) + 1 ≤ takes_left limit s =
      going-left (Look target) Check (look-of r lawful request s target due) limit few in
      omega (arith, less)
