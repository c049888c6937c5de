-- The opening of a build on the table.
use Rattle.std.proofs.Common.{slice_get, ◌≡◌, ℕ, ◌+◌, ◌*◌, ◌<◌, ◌≤◌, true, false, cond, not, List, [], ◌∷◌}
use Rattle.std.proofs.Common.{◌++◌, Some, inl, inr, length, take, drop, take-append-drop, refl, sym, ap, subst}
use Rattle.std.proofs.Common.{◌∙◌, arith}
use Rattle.std.proofs.lemmas.Bool.{cases_Bool}
use Rattle.std.proofs.lemmas.List.Elements.{filter-append}
use Rattle.redo_names.proofs.ListLemmas.{with_new-second}
use Rattle.redo_names.proofs.PathLemmas.{among-told}
use Rattle.redo_record.specs.Paths.{IsAmong, is_among, with_new}
use Rattle.redo_build.specs.Rules.{Rules}
use Rattle.redo_build.specs.Outcomes.{IsTooMany}
use Rattle.redo_build.specs.Schedule.{Entry, State, paths_of, entered, enqueued, opening, out_count}
use Rattle.redo_build.specs.inside.Standing.{AreStanding}
use Rattle.redo_rules.proofs.Public.{lawful_for}
use Rattle.redo_core.specs.declared.board.Board.TheInside.{Inside}
use Rattle.redo_build.proofs.QuietLemmas.{is_part}
use Rattle.redo_build.specs.Looking.{IsLookedOut, looked}
use Rattle.redo_build.specs.TakesLeft.{takes_left}
use Rattle.redo_build.proofs.CountLemmas.{opening-left, opening-out}
use Rattle.redo_build.proofs.StillLemmas.{looked-count}
use Rattle.redo_table.specs.Schedule.{StageView, ScheduleView, EachLacks, NoneDue, no_targets, stage_at}
use Rattle.redo_table.specs.Schedule.StageView.{InHand as AtHand, Waiting as AtWaiting}
use Rattle.redo_core.specs.inside.Slots.{is_fresh, IsKept, table_entries, table_state, targets_in, AreEnteredInto}
use Rattle.redo_core.specs.inside.Slots.{AreEnqueued, IsFirstTable, IsLookedOn, rules_inside, state_of, GivenView}
use Rattle.redo_core.specs.inside.Slots.{rules_for, Table}
use Rattle.redo_core.proofs.LookLemmas.{none_due}
use Rattle.redo_build.proofs.LookedLemmas.{looked-left, looked-longer}
use Rattle.redo_build.proofs.SeenLemmas.{paths_of-entered}
use Rattle.redo_build.proofs.SoundLemmas.{IsSound, opening-sound}
use Rattle.redo_core.proofs.EnterAllLemmas.{entered-append, entered-seen, path-take, too-many-behind}
use Rattle.redo_core.proofs.EnqueueLemmas.{enqueued-resting, enqueued-table, enqueued-state}

pub targets-more : (r : Rules) (ps : List (List ℕ)) (i : ℕ) (p : List ℕ) → slice_get ps i ≡ Some p → targets_in r (take (i + 1) ps) ≡ targets_in r (take i ps) ++ targets_in r (p ∷ [])
targets-more r ps i p get = ap (targets_in r) (path-take ps i p get) ∙ filter-append (λ q. not (r.is_source q)) (take i ps) (p ∷ [])

pub one-target : (r : Rules) (p : List ℕ) → not (r.is_source p) ≡ true → targets_in r (p ∷ []) ≡ p ∷ []
one-target r p h = rw h refl

pub no-target : (r : Rules) (p : List ℕ) → not (r.is_source p) ≡ false → targets_in r (p ∷ []) ≡ []
no-target r p h = rw h refl

-- where one passes the limit, all do
pub too-many-requested : (r : Rules) (es mid : List Entry) (limit : ℕ) (ps : List (List ℕ)) (i : ℕ) (p : List ℕ) → slice_get ps i ≡ Some p → not (r.is_source p) ≡ true →
    mid ≡ entered r es (targets_in r (take i ps)) → limit < length (entered r mid (p ∷ [])) → limit < length (entered r es (targets_in r ps))
too-many-requested r es mid limit ps i p get is at many =
    let L : List (List ℕ) → Type 0 = λ xs. limit < length (entered r es xs) in
    let back = targets_in r (drop (i + 1) ps) in
    let front = targets-more r ps i p get ∙ ap (λ xs. targets_in r (take i ps) ++ xs) (one-target r p is) in
    let whole = ap (λ xs. xs ++ back) (sym front) ∙ sym (filter-append (λ q. not (r.is_source q)) (take (i + 1) ps) (drop (i + 1) ps))
    ∙ ap (targets_in r) (take-append-drop (i + 1) ps) in
    subst L whole (too-many-behind r es mid limit (targets_in r (take i ps)) back p at many)

entered-new : (r : Rules) (es : List Entry) (ps qs : List (List ℕ)) → entered r es (with_new ps qs) ≡ entered r (entered r es ps) qs
entered-new r es ps [] = refl
entered-new r es ps (q ∷ qs) =
    let E = entered r es ps in
    let one : entered r es (cond (is_among ps q) ps (ps ++ q ∷ [])) ≡ entered r E (q ∷ []) = elim (cases_Bool (is_among ps q)) [
      | inl t ↦
          let A : List (List ℕ) → Type 0 = λ xs. IsAmong xs q in
          let there = subst A (sym (paths_of-entered r es ps)) (with_new-second (paths_of es) ps q (among-told ps q t)) in
          rw t (sym (entered-seen r E (q ∷ []) (λ x m. elim m [ inl here ↦ (let B : List ℕ → Type 0 = IsAmong (paths_of E) in subst B here there) | inr none ↦ absurd none ])))
      | inr f ↦ rw f (entered-append r es ps (q ∷ []))
    ] in
    entered-new r es (cond (is_among ps q) ps (ps ++ q ∷ [])) qs ∙ ap (λ xs. entered r xs qs) one

-- the entries of the opening
pub opening-entries : (given : GivenView) (request : List (List ℕ)) → (opening (rules_for given) request).entries ≡ entered (rules_for given) [] (targets_in (rules_for given) request)
opening-entries given request = entered-new (rules_for given) [] [] (targets_in (rules_for given) request)

pub first-is : (given : GivenView) (t u v : Table) → t.targets ≡ [] → t.slots.items ≡ [] → t.schedule ≡ no_targets →
    AreEnteredInto given t u (targets_in (rules_for given) given.request) → AreEnqueued u v → IsFirstTable given v
first-is given t u v keys slots schedule a w =
    let r = rules_for given in
    let request = given.request in
    let none : table_entries given t ≡ [] = rw keys refl in
    let entries : table_entries given u ≡ (opening r request).entries = a.entries ∙ ap (λ es. entered r es (targets_in (rules_for given) request)) none ∙ sym (opening-entries given request) in
    let S : List Entry → Type 0 = AreStanding r request in
    let standing = subst S (sym entries) (opening-sound r (lawful_for given) request).standing in
    let ready : u.schedule.ready ≡ [] = a.ready ∙ ap (λ (x : ScheduleView). x.ready) schedule in
    let T : List Entry → List (List ℕ) → State = λ xs ps. record { entries = xs; ready = ps } in
    let before : table_state given u ≡ T (opening r request).entries [] = (let numbers : table_state given u ≡ T (table_entries given u) [] = rw ready refl in numbers ∙ ap (λ xs. T xs []) entries) in
    record {
      table = enqueued-table given request u v a.table standing lacks w;
      resting = enqueued-resting given request u v a.table standing lacks w (λ k h.
          absurd (let bad : false ≡ true = fresh k AtHand h in cc));
      state = enqueued-state given request u v a.table standing lacks w ∙ ap (enqueued r) before;
    }
  where
    -- each target is due, ready or decided
    fresh : (k : ℕ) (s : StageView) → stage_at u.schedule k ≡ Some s → is_fresh s ≡ true
    fresh k s h = elim (a.fresh k s h) [
      | inl old ↦ absurd (let bad : slice_get {X = StageView} [] k ≡ Some s = sym (ap (λ (x : ScheduleView). stage_at x k) schedule) ∙ old in none-there k s bad)
      | inr new ↦ new
    ]
      where
        none-there : (j : ℕ) (x : StageView) → slice_get {X = StageView} [] j ≡ Some x → ⊥
        none-there j x g = cc

    lacks : EachLacks u.schedule.stages
    lacks k on h = absurd (let bad : false ≡ true = fresh k (AtWaiting on) h in cc)

-- what a board has come to that was opened and has looked ahead
module _ (b : Inside) (t : Table) (first : IsFirstTable b.build t) (ahead : IsLookedOn b.build t b.table) (none : NoneDue b.table.schedule) where
  pub opened-kept : IsKept b
  opened-kept = record { at_rest = ahead.at_rest; none_due = none }

  pub opened-state : state_of b ≡ looked (rules_inside b) ahead.looks (opening (rules_inside b) b.build.request)
  opened-state = ahead.state ∙ ap (looked (rules_inside b) ahead.looks) first.state

  pub opened-looked : IsLookedOut (rules_inside b) (opening (rules_inside b) b.build.request) (state_of b)
  opened-looked = record { looks = ahead.looks; is = opened-state; none_due = none_due b.build b.table ahead.at_rest none }

  first-sound : IsSound (rules_inside b) b.build.request (opening (rules_inside b) b.build.request)
  first-sound = opening-sound (rules_inside b) (lawful_for b.build) b.build.request

  pub opened-out : out_count (state_of b) ≡ 0
  opened-out =
      let r = rules_inside b in
      ap out_count opened-state
      ∙ looked-count r (lawful_for b.build) b.build.request ahead.looks (opening r b.build.request) first-sound
      ∙ opening-out r b.build.request

  pub opened-left : length (state_of b).entries ≤ b.build.limits.targets →
      takes_left b.build.limits.targets (state_of b) ≤ b.build.limits.targets * b.build.limits.targets
  opened-left few =
      let r = rules_inside b in
      let limit : ℕ = b.build.limits.targets in
      let start : State = opening r b.build.request in
      let P : State → Type 0 = λ s. length s.entries ≤ limit → takes_left limit s ≤ limit * limit in
      let whole : P (looked r ahead.looks start) = λ within.
      let behind = looked-left r (lawful_for b.build) b.build.request limit ahead.looks start first-sound within in
      let longer = looked-longer r ahead.looks start in
      let before = opening-left r b.build.request limit (omega (arith, within, longer)) in
      omega (arith, behind, before) in
      (subst P (sym opened-state) whole) few

pub opening-many : (given : GivenView) (request : List (List ℕ)) → given.limits.targets < length (opening (rules_for given) request).entries → IsTooMany (rules_for given) request given.limits.targets
opening-many given request many =
    let r = rules_for given in
    let lawful = lawful_for given in
    (is_part r lawful request (opening r request) (opening-sound r lawful request) given.limits.targets).too_many many
