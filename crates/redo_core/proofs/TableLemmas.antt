-- What changes of single slots keep.
use Rattle.redo_names.proofs.PathLemmas.{among-told}
use Rattle.redo_build.proofs.SoundLemmas.{only-same}
use Rattle.std.proofs.Common.{slice_get, slice_set, ◌≡◌, ℕ, suc, inl, inr, List}
use Rattle.std.proofs.Common.{◌∷◌, Some, None, refl, sym, ap, subst, ◌∙◌, bytes_eq}
use Rattle.std.proofs.lemmas.Bool.{cases_Bool, both_ways}
use Rattle.redo_record.specs.Paths.{IsAmong, AreDistinct, is_among}
use Rattle.redo_build.specs.Rules.{Ask, Rules, AreLawful, Extends, operands}
use Rattle.redo_build.proofs.SeenLemmas.{entry_of-put_other}
use Rattle.redo_record.specs.declared.deps.Dep.{Dep}
use Rattle.redo_build.specs.Outcomes.{outcome_at}
use Rattle.redo_build.specs.Schedule.{only, outcome_of, outcomes_of}
use Rattle.redo_rules.proofs.Public.{lawful_for}
use Rattle.redo_table.proofs.TargetLemmas.{get-same, set-cases}
use Rattle.redo_core.specs.inside.Slots.{entries_from, slot_entry, stage_outcome, path_at, Fits, AllAnswered, AllFit}
use Rattle.redo_core.specs.inside.Slots.{GivenView, rules_for, Slot, Stage, Due, Checking, Waiting, Ready, Out}
use Rattle.redo_core.specs.inside.Works.{all_asked}
use Rattle.redo_core.specs.inside.Checking.{TellsAlike}
use Rattle.redo_build.proofs.DepthLemmas.{cases_Option, operand-target}
use Rattle.redo_core.proofs.SlotLemmas.{entry_of-slots, slot_entries-set}
use Rattle.std.proofs.lemmas.Slice.Eq.{bytes_eq-Decides}
use Rattle.redo_core.proofs.CheckingLemmas.{due-moves, waiting-moves}
use Rattle.redo_core.proofs.NumberLemmas.{same-some}

-- with more answers those to these entries stay as they are
pub answered-alike : (r : Rules) (lawful : AreLawful r) (a b : Ask) (ds : List Dep) → Extends r a b → AllAnswered r a ds → TellsAlike r ds a b
answered-alike r lawful a b ds more all q m = elim (cases_Option (a q)) [
  | inl none ↦ absurd (all q m none)
  | inr some ↦ some.1 ∙ sym (more q some.0 (operand-target r lawful ds q m) some.1)
]

-- and stay answers
pub answered-more : (r : Rules) (lawful : AreLawful r) (a b : Ask) (ds : List Dep) → Extends r a b → AllAnswered r a ds → AllAnswered r b ds
answered-more r lawful a b ds more all q m none = all q m (answered-alike r lawful a b ds more all q m ∙ none)

pub Fits-more : (given : GivenView) (a b : Ask) (p : List ℕ) (turn : ℕ) (stage : Stage) → Extends (rules_for given) a b →
    Fits (rules_for given) a given p turn stage → Fits (rules_for given) b given p turn stage
Fits-more given a b p turn (Due held) more h =
    let r = rules_for given in
    let lawful = lawful_for given in
    let alike = answered-alike r lawful a b held.value.check.asked more h.answered in
    record {
      is_held = h.is_held;
      is_due = due-moves given p held.value.check a b h.is_due alike;
      answered = answered-more r lawful a b held.value.check.asked more h.answered;
      exact = λ q. h.exact q ∙ only-same (operands r held.value.check.asked) a b alike q;
    }
Fits-more given a b p turn (Checking awaiting) more h =
    let r = rules_for given in
    let lawful = lawful_for given in
    let check = awaiting.held.value.check in
    let alike : (x : List ℕ) → IsAmong (operands r check.asked) x → (awaiting.path ≡ x → ⊥) → a x ≡ b x = λ x m other. elim (cases_Option (a x)) [
      | inl none ↦ absurd (h.answered x m other none)
      | inr some ↦ some.1 ∙ sym (more x some.0 (operand-target r lawful check.asked x m) some.1)
    ] in
    record {
      is_held = h.is_held;
      waits = waiting-moves given p check a b awaiting.path h.waits (λ x m other. alike x m (λ e. other (sym e)));
      answered = λ q m other none. h.answered q m other (alike q m other ∙ none);
      exact = λ q other. h.exact q other ∙ elim (cases_Bool (is_among (operands r check.asked) q)) as
          (λ _. only (operands r check.asked) a q ≡ only (operands r check.asked) b q) [
            | inl t ↦ rw t (alike q (among-told (operands r check.asked) q t) other)
            | inr f ↦ rw f refl
          ];
      lacks = h.lacks;
    }
Fits-more given a b p turn (Waiting begun) more h =
    let r = rules_for given in
    let lawful = lawful_for given in
    record {
      is_job = h.is_job;
      of_target = h.of_target;
      at_turn = h.at_turn;
      stopped = h.stopped;
      told = λ q o known. let was = h.told q o known in (was.0, more q o (operand-target r lawful (all_asked begun.value.job begun.value.facts) q was.0) was.1);
      behind = h.behind;
      checked = h.checked;
      own = h.own;
      goes_on = h.goes_on;
    }
Fits-more given a b p turn (Ready work) more h =
    let r = rules_for given in
    let lawful = lawful_for given in
    let qs = operands r work.deps in
    let alike = answered-alike r lawful a b work.deps more h.1 in
    let here : Extends r (only qs a) (only qs b) = λ q o source some. sym (only-same qs a b alike q) ∙ some in
    (h.0, answered-more r lawful a b work.deps more h.1, lawful.begins_stays p (only qs a) (only qs b) here h.2)
Fits-more given a b p turn _ more h = h

module _ (r : Rules) (lawful : AreLawful r) (n : ℕ) (ps : List (List ℕ)) (slots : List Slot) (at : ℕ) (p : List ℕ) (old new : Slot) (distinct : AreDistinct ps)
    (path : slice_get ps at ≡ Some p) (there : slice_get slots at ≡ Some old) where
  -- outcomes but for that of one slot
  pub outcomes-other : (q : List ℕ) → (p ≡ q → ⊥) → outcomes_of (entries_from r n ps (slice_set slots at new)) q ≡ outcomes_of (entries_from r n ps slots) q
  outcomes-other q other =
      let set = slot_entries-set r (outcome_at r n) ps slots at p old new distinct path there in
      ap (λ es. outcomes_of es q) set ∙ ap outcome_of (entry_of-put_other (entries_from r n ps slots) (slot_entry r (outcome_at r n) p new) q other)

  pub outcomes-here : (slots' : List Slot) (x : Slot) → slice_get slots' at ≡ Some x → outcomes_of (entries_from r n ps slots') p ≡ stage_outcome x.stage
  outcomes-here slots' x h = ap outcome_of (entry_of-slots r (outcome_at r n) ps slots' at p x distinct path h)

  pub outcomes-kept : stage_outcome new.stage ≡ stage_outcome old.stage →
      (q : List ℕ) → outcomes_of (entries_from r n ps (slice_set slots at new)) q ≡ outcomes_of (entries_from r n ps slots) q
  outcomes-kept same q = elim (cases_Bool (bytes_eq p q)) [
    | inl t ↦
        let is = (bytes_eq-Decides p q).0 t in
        let P : List ℕ → Type 0 = λ x. outcomes_of (entries_from r n ps (slice_set slots at new)) x ≡ outcomes_of (entries_from r n ps slots) x in
        subst P is (outcomes-here (slice_set slots at new) new (get-same slots at old new there) ∙ same ∙ sym (outcomes-here slots old there))
    | inr f ↦ outcomes-other q (λ is. both_ways _ f ((bytes_eq-Decides p q).1 is))
  ]

  -- a slot that was open may be decided: every answer stays
  pub outcomes-more : stage_outcome old.stage ≡ None → Extends r (outcomes_of (entries_from r n ps slots)) (outcomes_of (entries_from r n ps (slice_set slots at new)))
  outcomes-more open' q o target h = elim (cases_Bool (bytes_eq p q)) [
    | inl t ↦
        let is = (bytes_eq-Decides p q).0 t in
        let P : List ℕ → Type 0 = λ x. outcomes_of (entries_from r n ps slots) x ≡ Some o in
        let none = sym open' ∙ sym (outcomes-here slots old there) ∙ subst P (sym is) h in
        cc
    | inr f ↦ outcomes-other q (λ is. both_ways _ f ((bytes_eq-Decides p q).1 is)) ∙ h
  ]

  pub fits-set : (given : GivenView) → (r ≡ rules_for given) → Extends r (outcomes_of (entries_from r n ps slots)) (outcomes_of (entries_from r n ps (slice_set slots at new))) →
      AllFit r n given ps slots →
      Fits r (outcomes_of (entries_from r n ps (slice_set slots at new))) given (path_at ps at) new.turn new.stage →
      AllFit r n given ps (slice_set slots at new)
  fits-set given same more fits fit k x g = elim (set-cases slots at k old new x there g) [
    | inl here ↦
        let P : Slot → Type 0 = λ y. Fits r (outcomes_of (entries_from r n ps (slice_set slots at new))) given (path_at ps k) y.turn y.stage in
        let Q : ℕ → Type 0 = λ j. Fits r (outcomes_of (entries_from r n ps (slice_set slots at new))) given (path_at ps j) new.turn new.stage in
        subst P here.1 (subst Q here.0 fit)
    | inr before ↦
        let M : Rules → Type 0 = λ x. (a b : Ask) (q : List ℕ) (turn : ℕ) (stage : Stage) → Extends x a b → Fits x a given q turn stage → Fits x b given q turn stage in
        subst M (sym same) (Fits-more given) (outcomes_of (entries_from r n ps slots)) (outcomes_of (entries_from r n ps (slice_set slots at new))) (path_at ps k) x.turn x.stage more
        (fits k x before.1)
  ]

-- an item that is replaced twice
pub set-twice : {X : Type 0} (xs : List X) (at : ℕ) (x y : X) → slice_set (slice_set xs at x) at y ≡ slice_set xs at y
set-twice (z ∷ xs) (suc at) x y = ap (λ ys. z ∷ ys) (set-twice xs at x y)
set-twice _ _ x y = refl

-- a slot whose stage was taken out for a while, and that is written again
pub put-again : (slots : List Slot) (at : ℕ) (slot gone found : Slot) → slice_get slots at ≡ Some slot → gone ≡ record slot { stage = Out } →
    slice_get (slice_set slots at gone) at ≡ Some found → (stage : Stage) →
    slice_set (slice_set slots at gone) at (record found { stage = stage }) ≡ slice_set slots at (record slot { stage = stage })
put-again slots at slot gone found there is again stage =
    let same : found ≡ gone = same-some _ _ _ again (get-same slots at slot gone there) in
    set-twice slots at gone (record found { stage = stage }) ∙ ap (λ (y : Slot). slice_set slots at (record y { stage = stage })) (same ∙ is)
