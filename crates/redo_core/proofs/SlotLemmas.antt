-- How the slots stand for the entries.
use Rattle.std.proofs.Common.{map, remove, slice_get, slice_set, option_and_then, ◌≡◌, ℕ, zero, suc}
use Rattle.std.proofs.Common.{◌≤◌, true, false, inl, inr, List, [], ◌∷◌, length, filter, Option, Some, None}
use Rattle.std.proofs.Common.{is_some, IsNone, rules, refl, sym, ap, subst, ◌∙◌, arith, bytes_eq}
use Rattle.std.specs.Prelude.{count_by}
use Rattle.std.proofs.lemmas.Bool.{cases_Bool}
use Rattle.std.proofs.lemmas.List.Sums.{length-filter}
use Rattle.redo_names.proofs.ListLemmas.{IsAmong-same}
use Rattle.redo_names.proofs.PathLemmas.{place-among}
use Rattle.redo_build.specs.Rules.{Ask, Rules, AreLawful, operands}
use Rattle.redo_build.specs.Outcomes.{outcome_at}
use Rattle.redo_build.proofs.SeenLemmas.{entry_of-path, decided_count-length}
use Rattle.redo_build.specs.inside.Standing.{decided_count, AreStanding, rounds}
use Rattle.redo_build.proofs.DepthLemmas.{deeper}
use Rattle.redo_build.proofs.TurnLemmas.{deps_at_turn-more, Extends-trans'}
use Rattle.redo_build.proofs.StandingLemmas.{outcomes_of-deep}
use Rattle.redo_build.specs.Schedule.{Entry, paths_of, entry_of, only, outcomes_of, State, put, sent_out, taken, happens}
use Rattle.redo_core.specs.inside.Slots.{rounds_of, slot_entries, stage_outcome, is_stage_out, is_stage_ready, Fits}
use Rattle.redo_core.specs.inside.Slots.{AllAnswered, decided_slots, is_stage_decided, entries_from, slot_entry}
use Rattle.redo_core.specs.inside.Slots.{stage_deps, path_at, state_from, IsParked, GivenView, Slot, Stage, Due}
use Rattle.redo_core.specs.inside.Slots.{Checking, Waiting, Ready, Out, Decided}
use Rattle.redo_core.specs.declared.work.Work.{Work}
use Rattle.redo_record.specs.Paths.{AreDistinct}
use Rattle.redo_build.specs.Schedule.Event.{Take}
use Rattle.redo_build.specs.inside.Turns.{deps_at_turn}
use Rattle.redo_build.proofs.SoundLemmas.{IsSound}
use Rattle.redo_record.specs.declared.deps.Dep.{Dep}
use Rattle.redo_record.specs.declared.outcome.Outcome.{Outcome}
use Rattle.std.proofs.lemmas.Slice.Eq.{bytes_eq-Decides}

-- as many entries are out as slots
pub out_count-slots : (r : Rules) (a : Ask) (ps : List (List ℕ)) (slots : List Slot) → length slots ≡ length ps →
    length (filter (λ e. e.is_out) (slot_entries r a ps slots)) ≡ length (filter (λ slot. is_stage_out slot.stage) slots)
out_count-slots r a [] [] h = refl
out_count-slots r a (p ∷ ps) (slot ∷ slots) h =
    let rest = out_count-slots r a ps slots (omega arith) in
    elim (cases_Bool (is_stage_out slot.stage)) [ inl t ↦ rw t (ap suc rest) | inr f ↦ rw f rest ]
out_count-slots r a _ _ h = absurd (omega arith)

pub decided-outcome : (stage : Stage) → is_some (stage_outcome stage) ≡ is_stage_decided stage
decided-outcome (Due held) = refl
decided-outcome (Checking awaiting) = refl
decided-outcome (Waiting begun) = refl
decided-outcome (Ready work) = refl
decided-outcome Out = refl
decided-outcome (Decided fact) = refl

decided-slots : (r : Rules) (a : Ask) (ps : List (List ℕ)) (slots : List Slot) → length slots ≡ length ps →
    length (filter (λ e. is_some e.outcome) (slot_entries r a ps slots)) ≡ length (filter (λ slot. is_stage_decided slot.stage) slots)
decided-slots r a [] [] h = refl
decided-slots r a (p ∷ ps) (slot ∷ slots) h =
    let rest = decided-slots r a ps slots (omega arith) in
    let same = decided-outcome slot.stage in
    elim (cases_Bool (is_stage_decided slot.stage)) [
      | inl t ↦ rw (same, t) (ap suc rest)
      | inr f ↦ rw (same, f) rest
    ]
decided-slots r a _ _ h = absurd (omega arith)

-- as many entries have an outcome as slots are decided
pub decided_count-slots : (r : Rules) (a : Ask) (ps : List (List ℕ)) (slots : List Slot) → length slots ≡ length ps →
    count_by (λ e. is_some e.outcome) (slot_entries r a ps slots) ≡ decided_slots slots
decided_count-slots r a ps slots h =
    sym (length-filter (λ e. is_some e.outcome) (slot_entries r a ps slots)) ∙ decided-slots r a ps slots h
    ∙ length-filter (λ slot. is_stage_decided slot.stage) slots

-- there are as many entries as slots
pub length-slots : (r : Rules) (a : Ask) (ps : List (List ℕ)) (slots : List Slot) → length slots ≡ length ps →
    length (slot_entries r a ps slots) ≡ length slots
length-slots r a [] [] h = refl
length-slots r a (p ∷ ps) (slot ∷ slots) h = ap suc (length-slots r a ps slots (omega arith))
length-slots r a _ _ h = absurd (omega arith)

pub IsNone-from : {A : Type 0} (o : Option A) → is_some o ≡ false → IsNone o
IsNone-from None h = search rules
IsNone-from (Some x) h = cc

pub paths_of-slots : (r : Rules) (a : Ask) (ps : List (List ℕ)) (slots : List Slot) → length slots ≡ length ps →
    paths_of (slot_entries r a ps slots) ≡ ps
paths_of-slots r a [] slots h = refl
paths_of-slots r a (p ∷ ps) [] h = absurd (omega arith)
paths_of-slots r a (p ∷ ps) (slot ∷ slots) h = ap (λ x. p ∷ x) (paths_of-slots r a ps slots (omega arith))

pub entry_of-slots : (r : Rules) (a : Ask) (ps : List (List ℕ)) (slots : List Slot) (i : ℕ) (p : List ℕ) (slot : Slot) → AreDistinct ps →
    slice_get ps i ≡ Some p → slice_get slots i ≡ Some slot → entry_of (slot_entries r a ps slots) p ≡ Some (slot_entry r a p slot)
entry_of-slots r a (q ∷ ps) (s ∷ slots) zero p slot d here there =
    let path : q ≡ p = cc in
    let is : s ≡ slot = cc in
    let same : bytes_eq q p ≡ true = (bytes_eq-Decides q p).1 path in
    rw same (rw (path, is) refl)
entry_of-slots r a (q ∷ ps) (s ∷ slots) (suc i) p slot d here there = elim (cases_Bool (bytes_eq q p)) [
  | inl t ↦ absurd (d.0 (IsAmong-same ps p q (sym ((bytes_eq-Decides q p).0 t)) (place-among ps i p here)))
  | inr f ↦ rw f (entry_of-slots r a ps slots i p slot d.1 here there)
]
entry_of-slots r a _ _ i p slot d here there = cc

pub slot_entries-set : (r : Rules) (a : Ask) (ps : List (List ℕ)) (slots : List Slot) (i : ℕ) (p : List ℕ) (slot new : Slot) → AreDistinct ps →
    slice_get ps i ≡ Some p → slice_get slots i ≡ Some slot →
    slot_entries r a ps (slice_set slots i new) ≡ put (slot_entries r a ps slots) (slot_entry r a p new)
slot_entries-set r a (q ∷ ps) (s ∷ slots) zero p slot new d here there =
    let path : q ≡ p = cc in
    let same : bytes_eq q p ≡ true = (bytes_eq-Decides q p).1 path in
    rw same (ap (λ x. slot_entry r a x new ∷ slot_entries r a ps slots) path)
slot_entries-set r a (q ∷ ps) (s ∷ slots) (suc i) p slot new d here there = elim (cases_Bool (bytes_eq q p)) [
  | inl t ↦ absurd (d.0 (IsAmong-same ps p q (sym ((bytes_eq-Decides q p).0 t)) (place-among ps i p here)))
  | inr f ↦ rw f (ap (λ x. slot_entry r a q s ∷ x) (slot_entries-set r a ps slots i p slot new d.1 here there))
]
slot_entries-set r a _ _ i p slot new d here there = cc

pub map-remove : (f : ℕ → List ℕ) (xs : List ℕ) (i : ℕ) → map f (remove xs i) ≡ remove (map f xs) i
map-remove f [] zero = refl
map-remove f [] (suc i) = refl
map-remove f (x ∷ xs) zero = refl
map-remove f (x ∷ xs) (suc i) = ap (λ ys. f x ∷ ys) (map-remove f xs i)

pub slice_get-map : (f : ℕ → List ℕ) (xs : List ℕ) (i x : ℕ) → slice_get xs i ≡ Some x → slice_get (map f xs) i ≡ Some (f x)
slice_get-map f [] i x h = cc
slice_get-map f (y ∷ xs) zero x h = let is : y ≡ x = cc in ap (λ z. Some (f z)) is
slice_get-map f (y ∷ xs) (suc i) x h = slice_get-map f xs i x h

-- a ready slot has its job
pub ready-job : (r : Rules) (a : Ask) (given : GivenView) (p : List ℕ) (turn : ℕ) (stage : Stage) → Fits r a given p turn stage →
    is_stage_ready stage ≡ true → (work : Work) × (stage ≡ Ready work) × IsParked given p turn work × AllAnswered r a work.deps ×
    (r.begins p (only (operands r work.deps) a) ≡ true)
ready-job r a given p turn (Ready work) h t = (work, refl, h.0, h.1, h.2)
ready-job r a given p turn _ h t = cc

-- the entry of a slot stopped at each of its looks and turns
pub slot-rounds : (r : Rules) (a : Ask) (p : List ℕ) (slot : Slot) → rounds (slot_entry r a p slot) ≡ rounds_of slot
slot-rounds r a p slot = refl

-- an undecided entry's record is that of its turn under the build at any depth that is no less than the number of entries
pub deps_deep : (r : Rules) (lawful : AreLawful r) (request : List (List ℕ)) (es : List Entry) (standing : AreStanding r request es) (n : ℕ) →
    length (paths_of es) ≤ n → (p : List ℕ) (e : Entry) → entry_of es p ≡ Some e → e.outcome ≡ None →
    e.deps ≡ deps_at_turn r p (outcome_at r n) (rounds e)
deps_deep r lawful request es standing n within p e at open' =
    let way = standing.under_way p e at open' in
    let P : List ℕ → Type 0 = λ x. e.deps ≡ deps_at_turn r x (outcome_at r n) (rounds e) in
    let deep = Extends-trans' r (outcomes_of es) (outcome_at r (decided_count es)) (outcome_at r n) (outcomes_of-deep r lawful request es standing)
    (deeper r lawful (decided_count es) n (omega (arith, decided_count-length es, within))) in
    subst P (entry_of-path es p e at) (way.is ∙ deps_at_turn-more r lawful e.path (outcomes_of es) (outcome_at r n) deep (rounds e) way.came)

-- taking what stands at a place leaves the state after that event
module _ (r : Rules) (lawful : AreLawful r) (n : ℕ) (request : List (List ℕ)) (ps : List (List ℕ)) (slots : List Slot) (ready : List ℕ)
    (sound : IsSound r request (state_from r n ps slots ready)) (one_each : length slots ≡ length ps) (within : length slots ≤ n)
    (which at : ℕ) (p : List ℕ) (slot : Slot) (work : Work)
    (first : slice_get ready which ≡ Some at) (path : slice_get ps at ≡ Some p) (there : slice_get slots at ≡ Some slot)
    (parked : slot.stage ≡ Ready work) where
  distinct_paths : AreDistinct ps
  distinct_paths =
      let P : List (List ℕ) → Type 0 = AreDistinct in
      subst P (paths_of-slots r (outcome_at r n) ps slots one_each) sound.standing.distinct

  pub entry : entry_of (state_from r n ps slots ready).entries p ≡ Some (slot_entry r (outcome_at r n) p slot)
  entry = entry_of-slots r (outcome_at r n) ps slots at p slot distinct_paths path there

  still_open : stage_outcome slot.stage ≡ None
  still_open = rw parked refl

  -- a job that goes out keeps its record
  pub same_deps : stage_deps r (outcome_at r n) p (rounds_of slot) slot.stage ≡ deps_at_turn r p (outcome_at r n) (rounds_of slot)
  same_deps = deps_deep r lawful request (entries_from r n ps slots) sound.standing n
      (let paths = ap length (paths_of-slots r (outcome_at r n) ps slots one_each) in omega (arith, paths, one_each, within))
      p (slot_entry r (outcome_at r n) p slot) entry still_open
      ∙ ap (deps_at_turn r p (outcome_at r n)) (slot-rounds r (outcome_at r n) p slot)

  abbrev out_slot : Slot
  out_slot = record slot { stage = Out }

  sent : slot_entry r (outcome_at r n) p out_slot ≡ sent_out (slot_entry r (outcome_at r n) p slot)
  sent =
      let P : List Dep → Type 0 = λ ds. record { path = p; looks = slot.looks; turn = slot.turn; deps = ds; outcome = None; is_out = true } ≡
      sent_out (slot_entry r (outcome_at r n) p slot) in
      let Q : Stage → Type 0 = λ stage. stage_outcome stage ≡ None in
      let R : Option Outcome → Type 0 = λ o. record { path = p; looks = slot.looks; turn = slot.turn; deps = stage_deps r (outcome_at r n) p (rounds_of slot) slot.stage; outcome = o; is_out = true } ≡
      sent_out (slot_entry r (outcome_at r n) p slot) in
      subst P same_deps (subst R still_open refl)

  pub state_taken : state_from r n ps (slice_set slots at (record slot { stage = Out })) (remove ready which) ≡
      happens r (state_from r n ps slots ready) (Take which)
  state_taken =
      let here : slice_get (map (path_at ps) ready) which ≡ Some p = slice_get-map (path_at ps) ready which at first ∙ (rw path refl) in
      let entries : slot_entries r (outcome_at r n) ps (slice_set slots at (record slot { stage = Out })) ≡
      put (slot_entries r (outcome_at r n) ps slots) (sent_out (slot_entry r (outcome_at r n) p slot)) =
      slot_entries-set r (outcome_at r n) ps slots at p slot (record slot { stage = Out }) distinct_paths path there ∙
      ap (put (slot_entries r (outcome_at r n) ps slots)) sent in
      let P : Option (List ℕ) → Type 0 = λ x. state_from r n ps (slice_set slots at (record slot { stage = Out })) (remove ready which) ≡
      taken (state_from r n ps slots ready) (option_and_then (entry_of (state_from r n ps slots ready).entries) x) which in
      let Q : Option Entry → Type 0 = λ x. state_from r n ps (slice_set slots at (record slot { stage = Out })) (remove ready which) ≡
      taken (state_from r n ps slots ready) x which in
      let both : State = record { entries = put (slot_entries r (outcome_at r n) ps slots) (sent_out (slot_entry r (outcome_at r n) p slot)); ready = remove (map (path_at ps) ready) which } in
      subst P (sym here) (subst Q (sym entry)
      (ap (λ es. record { entries = es; ready = map (path_at ps) (remove ready which) }) entries ∙
      ap (λ q. record { entries = put (slot_entries r (outcome_at r n) ps slots) (sent_out (slot_entry r (outcome_at r n) p slot)); ready = q })
      (map-remove (path_at ps) ready which)))
