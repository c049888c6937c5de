-- What a handed in piece does to the table is what the schedule says.
use Rattle.std.proofs.Common.{map, slice_get, ◌≡◌, ℕ, suc, ◌+◌, ◌<◌, max, true, false}
use Rattle.std.proofs.Common.{inl, inr, List, [], ◌∷◌, length}
use Rattle.std.proofs.Common.{Some, None, refl, sym, ap, subst, ◌∙◌, arith, Global}
use Rattle.std.proofs.lemmas.Bool.{cases_Bool, cases_lt}
use Rattle.redo_names.proofs.ListLemmas.{with_new-second}
use Rattle.redo_names.proofs.PathLemmas.{among-told}
use Rattle.redo_record.specs.declared.deps.Dep.{Dep}
use Rattle.redo_record.specs.declared.deps.DepKind.TheVariants.{Change}
use Rattle.redo_record.specs.declared.outcome.Outcome.{Outcome}
use Rattle.redo_step.specs.JobView.{JobView, found_deps, record_so_far}
use Rattle.redo_record.specs.Entries.{is_entered, with_entry, with_all}
use Rattle.redo_record.specs.Progress.{Progress}
use Rattle.redo_record.specs.Paths.{IsAmong, AreDistinct, is_among}
use Rattle.redo_record.proofs.Public.{entered_operand, one_entered, operand_entered, operand_target, sources_alone}
use Rattle.redo_build.specs.Rules.{Ask, Rules, AreLawful, Extends, operands}
use Rattle.redo_build.specs.Outcomes.{outcome_at}
use Rattle.redo_build.specs.Schedule.{Entry, State, outcomes_of, paths_of, entry_of, entered, put, only, advanced}
use Rattle.redo_build.specs.Schedule.{moved_on, enqueued, IsOutAt}
use Rattle.redo_build.specs.Schedule.Event.{Hand_in}
use Rattle.redo_build.specs.Schedule.Phase.{Script}
use Rattle.redo_build.specs.inside.Standing.{decided_count, rounds, AreStanding}
use Rattle.redo_build.specs.inside.Turns.{CameTo, IsBegunAt, begins_at, deps_at_turn}
use Rattle.redo_rules.proofs.Public.{lawful_for}
use Rattle.redo_core.specs.Views.{FactView}
use Rattle.redo_core.specs.inside.Works.{all_asked, job_deps, told_in, waited_by, IsStopped}
use Rattle.redo_core.specs.inside.Checking.{IsBegunBehind}
use Rattle.redo_core.specs.inside.Ends.{end_progress}
use Rattle.redo_core.specs.inside.Slots.{outcomes_at_limit, rounds_of, table_entries, table_state, slot_entry}
use Rattle.redo_core.specs.inside.Slots.{stage_deps, stage_outcome, is_stage_out, path_at, AreNumbers, IsWaitingWith}
use Rattle.redo_core.specs.inside.Slots.{AreEnteredInto, IsParkedAt, MayConclude, IsConcludedAt, concluded_entry}
use Rattle.redo_core.specs.inside.Slots.{IsOutThere, MayTakeIn, IsPutBackThere, state_after, Agrees, AreSeen}
use Rattle.redo_core.specs.inside.Slots.{IsSettled, IsStandingTable, IsTableOf, GivenView, rules_for, sources_for}
use Rattle.redo_core.specs.inside.Slots.{Slot, Stage, Waiting, Table}
use Rattle.redo_table.specs.Schedule.{IsOpen, ScheduleView}
use Rattle.redo_table.specs.Schedule.StageView.{InHand as AtHand, Waiting as AtWaiting}
use Rattle.redo_core.proofs.AgreeLemmas.{agreed-stage}
use Rattle.redo_core.proofs.NumberLemmas.{numbers-number, same-some}
use Rattle.std.specs.Prelude.{Box, is_none}
use Rattle.std.specs.declared.vec.Vec.{Vec}
use Rattle.redo_core.specs.declared.work.Begun.{Begun}
use Rattle.redo_core.specs.declared.work.End.{End}
use Rattle.redo_core.specs.declared.work.End.TheVariants.{Ended, Stopped}
use Rattle.redo_build.proofs.DepthLemmas.{cases_Option, ended_stays, operand-target, deeper}
use Rattle.redo_build.proofs.SeenLemmas.{paths_of-entered}
use Rattle.redo_core.proofs.JobLemmas.{found_sources}
use Rattle.redo_build.proofs.TurnLemmas.{asked-more, only-some, only-Extends, deps_at_turn-more, Extends-trans'}
use Rattle.redo_build.proofs.StandingLemmas.{outcomes_of-deep}
use Rattle.redo_build.proofs.SoundLemmas.{IsSound, happens-sound, out-parts}
use Rattle.redo_build.proofs.HandoverLemmas.{looks_agree, piece-advanced}
use Rattle.redo_core.proofs.ConcludeSteps.{conclude-may, conclude-put}
use Rattle.redo_core.proofs.EnteredLemmas.{entered-distinct, entered-in_hand, entered-known, entered-number, entered-out, entered-path}
use Rattle.redo_core.proofs.EntryLemmas.{entry-there, known-deep, rest-distinct, rest-sound, rounds-few}
use Rattle.redo_build.proofs.SeenLemmas.{length-put}
use Rattle.std.proofs.lemmas.Option.{slice_get_within}
use Rattle.redo_core.proofs.PutSteps.{put-entries, put-none_in_hand, parked-table}
use Rattle.redo_core.proofs.EnterAllLemmas.{entered-append, entered-passed, entered-seen, operands-append}

job_deps-stopped : (job : JobView) (n : ℕ) → job.turn ≡ suc n → job_deps job ≡ record_so_far job
job_deps-stopped job n e = rw e refl

-- entering what a record asks for is entering what each of its parts asks for
pub all-entered : (r : Rules) (es : List Entry) (ds xs : List Dep) → entered r es (operands r (with_all ds xs)) ≡ entered r (entered r es (operands r ds)) (operands r xs)
all-entered r es ds [] = refl
all-entered r es ds (x ∷ xs) =
    all-entered r es (with_entry ds x.kind x.path) xs ∙ ap (λ us. entered r us (operands r xs)) one ∙
    sym (ap (entered r (entered r es (operands r ds))) (operands-append r (x ∷ []) xs) ∙ entered-append r (entered r es (operands r ds)) (operands r (x ∷ [])) (operands r xs))
  where
    seen : is_entered ds x.kind x.path ≡ true → (q : List ℕ) → IsAmong (operands r (x ∷ [])) q → IsAmong (paths_of (entered r es (operands r ds))) q
    seen t q m =
        let change : is_entered (x ∷ []) Change q ≡ true = operand_entered r.is_source (x ∷ []) q m in
        let kind = one_entered x Change q change in
        let K : Rattle.redo_record.specs.declared.deps.DepKind.DepKind → Type 0 = λ k. is_entered ds k x.path ≡ true in
        let P : List ℕ → Type 0 = λ p. is_entered ds Change p ≡ true in
        let there = subst P kind.1 (subst K kind.0 t) in
        let source = operand_target r.is_source (x ∷ []) q m in
        let A : List (List ℕ) → Type 0 = λ ps. IsAmong ps q in
        subst A (sym (paths_of-entered r es (operands r ds))) (with_new-second (paths_of es) (operands r ds) q (entered_operand r.is_source ds q source there))

    one : entered r es (operands r (with_entry ds x.kind x.path)) ≡ entered r (entered r es (operands r ds)) (operands r (x ∷ []))
    one = elim (cases_Bool (is_entered ds x.kind x.path)) [
      | inl t ↦ rw t (sym (entered-seen r (entered r es (operands r ds)) (operands r (x ∷ [])) (seen t)))
      | inr f ↦ rw f (ap (entered r es) (operands-append r ds (x ∷ [])) ∙ entered-append r es (operands r ds) (operands r (x ∷ [])))
    ]

module _ (given : GivenView) (t : Table) (at : ℕ) (end : End) (may : MayTakeIn given t at end) where
  abbrev r : Rules
  r = rules_for given

  abbrev es : List Entry
  es = table_entries given t

  abbrev s : State
  s = table_state given t

  abbrev target : List ℕ
  target = path_at t.targets at

  abbrev e : Entry
  e = slot_entry (rules_for given) (outcomes_at_limit given) (path_at t.targets at) may.slot

  lawful : AreLawful (rules_for given)
  lawful = lawful_for given

  sound : IsSound (rules_for given) given.request (table_state given t)
  sound = rest-sound given t may.at_rest

  entry-at : entry_of (table_entries given t) (path_at t.targets at) ≡ Some (slot_entry (rules_for given) (outcomes_at_limit given) (path_at t.targets at) may.slot)
  entry-at = entry-there given t t.schedule.stages may.at_rest.table given.request sound.standing at may.slot may.there

  e-out : is_stage_out may.slot.stage ≡ true
  e-out = ap is_stage_out may.is_out

  e-open : stage_outcome may.slot.stage ≡ None
  e-open = ap stage_outcome may.is_out

  e-fed : (q : List ℕ) → IsAmong (operands (rules_for given) (stage_deps (rules_for given) (outcomes_at_limit given) (path_at t.targets at) (rounds_of may.slot) may.slot.stage)) q →
      outcomes_of (table_entries given t) q ≡ None → ⊥
  e-fed q m none =
      let fed = sound.queued.out_fed target e entry-at e-out in
      let same : fed.0 ≡ e = same-some _ _ _ fed.1 entry-at in
      let P : Entry → Type 0 = λ x. IsAmong (operands r x.deps) q in
      fed.3 q (subst P (sym same) m) none

  now-is : end_progress end ≡ advanced (rules_for given) (table_entries given t) (slot_entry (rules_for given) (outcomes_at_limit given) (path_at t.targets at) may.slot)
  now-is = piece-advanced r lawful given.request es sound.standing target e entry-at e-open e-fed
      (out-parts r lawful given.request s sound target e entry-at e-out).2 (end_progress end) may.is_end.is_piece

  open-event : IsOutAt (table_state given t) (path_at t.targets at) may.slot.turn
  open-event = record { entry = e; at = entry-at; is_out = e-out; at_turn = refl }

  pub after-sound : IsSound (rules_for given) given.request (state_after given Script t at)
  after-sound = happens-sound r lawful given.request s (Hand_in target may.slot.turn) sound open-event

  pub moved : List Entry
  moved = put (entered (rules_for given) (table_entries given t) (operands (rules_for given) (end_progress end).deps))
      (moved_on Script (slot_entry (rules_for given) (outcomes_at_limit given) (path_at t.targets at) may.slot) (end_progress end))

  pub after-state : state_after given Script t at ≡ enqueued (rules_for given) (record { entries = moved; ready = map (path_at t.targets) t.schedule.ready })
  unfolding moved
  after-state =
      let N : Progress → State = λ now. enqueued r (record { entries = put (entered r es (operands r now.deps)) (moved_on Script e now); ready = map (path_at t.targets) t.schedule.ready }) in
      let first : state_after given Script t at ≡ N (advanced r es e) = rw entry-at refl in
      first ∙ ap N (sym now-is)

  pub after-entries : (state_after given Script t at).entries ≡ moved
  after-entries = ap (λ (x : State). x.entries) after-state

  open-there : IsOpen t.schedule at
  open-there =
      let stage = agreed-stage r t.targets t.slots.items t.schedule.stages may.at_rest.table.agreed at may.slot may.there in
      let A : Stage → Type 0 = λ st. Agrees r t.targets st stage.0 in
      elim (subst A may.is_out stage.2) as (λ _. IsOpen t.schedule at) [
        | inl out ↦ inl (stage.1 ∙ ap Some out)
        | inr hand ↦ inr (stage.1 ∙ ap Some hand)
      ]

  small : at < 65536
  small = omega (arith, slice_get_within t.slots.items at may.slot may.there, may.at_rest.table.within_limit, may.at_rest.table.few)

  few-rounds : rounds_of may.slot < 65536
  few-rounds = rounds-few given t t.schedule.stages may.at_rest.table given.request sound.standing target e entry-at e-open e-fed

  -- what is decided is the build's at the limit
  deep-limit : Extends (rules_for given) (outcomes_of (table_entries given t)) (outcomes_at_limit given)
  deep-limit = known-deep given t t.schedule.stages may.at_rest.table given.request sound.standing

  -- a script that ended asked for what is decided alone
  module _ (fact : FactView) (asked : List Dep) (ended : end ≡ Ended fact asked) where
    fact-now : record { outcome = Some fact.outcome; deps = with_all asked fact.deps } ≡ advanced (rules_for given) (table_entries given t) (slot_entry (rules_for given) (outcomes_at_limit given) (path_at t.targets at) may.slot)
    fact-now = let P : End → Type 0 = λ x. end_progress x ≡ advanced r es e in subst P ended now-is

    asked-seen : (q : List ℕ) → IsAmong (operands (rules_for given) (with_all asked fact.deps)) q → IsAmong (paths_of (table_entries given t)) q
    asked-seen q m =
        let ask : Ask = only (operands r e.deps) (outcomes_of es) in
        let outcome : (r.progress target ask).outcome ≡ Some fact.outcome = ap (λ (x : Progress). x.outcome) (sym fact-now) in
        let D : Progress → Type 0 = λ x. IsAmong (operands r x.deps) q in
        let asked' = subst D fact-now m in
        elim (cases_Bool (is_among (operands r e.deps) q)) [
          | inl yes' ↦ sound.standing.closed target q e entry-at (among-told (operands r e.deps) q yes')
          | inr no' ↦ absurd ((lawful.each target).answered q ask fact.outcome outcome asked' (rw no' refl))
        ]

    -- under all that the build decides it asked for the same
    decided_deps : with_all asked fact.deps ≡ ((rules_for given).progress (path_at t.targets at) (outcomes_at_limit given)).deps
    decided_deps =
        let ask : Ask = only (operands r e.deps) (outcomes_of es) in
        let outcome : (r.progress target ask).outcome ≡ Some fact.outcome = ap (λ (x : Progress). x.outcome) (sym fact-now) in
        let far = Extends-trans' r ask (outcomes_of es) (outcomes_at_limit given) (only-Extends r (operands r e.deps) (outcomes_of es) (outcomes_of es) (λ q o s h. h)) deep-limit in
        ap (λ (x : Progress). x.deps) (fact-now ∙ ended_stays r lawful target ask (outcomes_at_limit given) fact.outcome far outcome)

    concluded-moved : put (table_entries given t) (concluded_entry given (path_at t.targets at) may.slot fact) ≡ moved
    unfolding moved
    concluded-moved =
        let M : List Dep → Entry = λ ds. record { path = target; looks = may.slot.looks; turn = may.slot.turn; deps = ds; outcome = Some fact.outcome; is_out = false } in
        let E : End → List Entry = λ x. put (entered r es (operands r (end_progress x).deps)) (moved_on Script e (end_progress x)) in
        let seen = entered-seen r es (operands r (with_all asked fact.deps)) asked-seen in
        ap (λ ds. put es (M ds)) (sym decided_deps) ∙ sym (ap (λ xs. put xs (M (with_all asked fact.deps))) seen) ∙ ap E (sym ended)

    concluded-after : put (table_entries given t) (concluded_entry given (path_at t.targets at) may.slot fact) ≡ (state_after given Script t at).entries
    concluded-after = concluded-moved ∙ sym after-entries

    pub may-conclude : MayConclude given t at fact
    may-conclude =
        let P : End → Type 0 = λ x. Rattle.redo_core.specs.inside.Ends.IsEndOf given may.is_end.is_piece.depth may.is_end.is_piece.looks target may.slot.turn x in
        conclude-may given t at fact may.slot may.there (state_after given Script t at) concluded-after may.at_rest.table (rest-distinct given t may.at_rest)
        (open-there, (may.slot, may.there, may.is_out, few-rounds, small)) (λ k h. absurd (may.at_rest.resting.put_back k h))
        (subst P ended may.is_end.is_end) given.request after-sound.standing

    pub concluded-put : (u : Table) → IsConcludedAt given t u at fact → IsPutBackThere given (state_after given Script t at) t u
    concluded-put = conclude-put given t at fact may.slot may.there (state_after given Script t at) concluded-after

  -- a script that stopped
  module _ (begun : Box Begun Global) (paths : Vec (List ℕ) Global) (stopped : end ≡ Stopped begun paths) where
    is_stop : IsStopped given may.is_end.is_piece.depth may.is_end.is_piece.looks (path_at t.targets at) may.slot.turn begun.value.job begun.value.facts ×
        (paths.items ≡ waited_by (rules_for given) begun.value)
    is_stop =
        let P : End → Type 0 = λ x. Rattle.redo_core.specs.inside.Ends.IsEndOf given may.is_end.is_piece.depth may.is_end.is_piece.looks target may.slot.turn x in
        subst P stopped may.is_end.is_end

    pub is_stopped : IsStopped given may.is_end.is_piece.depth may.is_end.is_piece.looks (path_at t.targets at) may.slot.turn begun.value.job begun.value.facts
    is_stopped = is_stop.0

    -- the paths are those that it waits for
    pub paths-waited : paths.items ≡ waited_by (rules_for given) begun.value
    paths-waited = is_stop.1

    way : CameTo (rules_for given) (path_at t.targets at) (outcomes_of (table_entries given t)) (rounds (slot_entry (rules_for given) (outcomes_at_limit given) (path_at t.targets at) may.slot)) ×
        (stage_deps (rules_for given) (outcomes_at_limit given) (path_at t.targets at) (rounds_of may.slot) may.slot.stage ≡
        deps_at_turn (rules_for given) (path_at t.targets at) (outcomes_of (table_entries given t)) (rounds (slot_entry (rules_for given) (outcomes_at_limit given) (path_at t.targets at) may.slot)))
    way =
        let w = sound.standing.under_way target e entry-at e-open in (w.came, w.is)

    deep : Extends (rules_for given) (outcomes_of (table_entries given t)) (outcome_at (rules_for given) (decided_count (table_entries given t)))
    deep = outcomes_of-deep r lawful given.request es sound.standing

    begun-here : IsBegunAt (rules_for given) (path_at t.targets at) (outcomes_of (table_entries given t)) may.slot.looks
    begun-here =
        let w = sound.standing.under_way target e entry-at e-open in
        let starts = (out-parts r lawful given.request s sound target e entry-at e-out).2 in
        record {
          in_check = w.in_check;
          begun = elim (cases_lt 0 may.slot.turn) [
            | inl later ↦ w.begun later
            | inr now ↦
                let same : rounds e ≡ may.slot.looks = omega arith in
                let P : ℕ → Type 0 = λ k. begins_at r target (outcomes_of es) k ≡ true in
                let Q : List Dep → Type 0 = λ ds. r.begins target (only (operands r ds) (outcomes_of es)) ≡ true in
                subst P same (subst Q w.is starts)
          ];
        }

    -- the script was begun behind as many looks as the schedule says
    same-looks : may.slot.looks ≡ may.is_end.is_piece.looks
    same-looks =
        let piece = may.is_end.is_piece in
        let depth = max piece.depth (decided_count es) in
        let far = Extends-trans' r (outcomes_of es) (outcome_at r (decided_count es)) (outcome_at r depth) deep (deeper r lawful (decided_count es) depth (omega arith)) in
        let F : List Dep → Type 0 = λ ds. (q : List ℕ) → IsAmong (operands r ds) q → outcomes_of es q ≡ None → ⊥ in
        sym (looks_agree r lawful target (outcome_at r piece.depth) (outcomes_of es) (outcome_at r depth)
        (deeper r lawful piece.depth depth (omega arith)) far
        piece.looks may.slot.looks may.slot.turn may.slot.turn piece.came way.0 piece.fed (subst F way.1 e-fed) piece.begun begun-here)

    same-rounds : rounds (slot_entry (rules_for given) (outcomes_at_limit given) (path_at t.targets at) may.slot) ≡ may.is_end.is_piece.looks + may.slot.turn
    same-rounds = ap (λ n. n + may.slot.turn) same-looks

    -- the record at its turn is the same under the outcomes that the job held
    same-deps : stage_deps (rules_for given) (outcomes_at_limit given) (path_at t.targets at) (rounds_of may.slot) may.slot.stage ≡
        deps_at_turn (rules_for given) (path_at t.targets at) (outcome_at (rules_for given) may.is_end.is_piece.depth) (may.is_end.is_piece.looks + may.slot.turn)
    same-deps =
        let n = may.is_end.is_piece.depth in
        let m = max n (decided_count es) in
        let one = deps_at_turn-more r lawful target (outcomes_of es) (outcome_at r m)
        (Extends-trans' r (outcomes_of es) (outcome_at r (decided_count es)) (outcome_at r m) deep (deeper r lawful (decided_count es) m (omega arith))) (rounds e) way.0 in
        let two = deps_at_turn-more r lawful target (outcome_at r n) (outcome_at r m) (deeper r lawful n m (omega arith)) (may.is_end.is_piece.looks + may.slot.turn) may.is_end.is_piece.came in
        way.1 ∙ one ∙ ap (deps_at_turn r target (outcome_at r m)) same-rounds ∙ sym two

    -- what it held is known, and it had asked for it
    held-known : (q : List ℕ) (o : Outcome) → told_in begun.value.facts q ≡ Some o →
        IsAmong (operands (rules_for given) (stage_deps (rules_for given) (outcomes_at_limit given) (path_at t.targets at) (rounds_of may.slot) may.slot.stage)) q ×
        (outcomes_of (table_entries given t) q ≡ Some o)
    held-known q o h =
        let n = may.is_end.is_piece.depth in
        let m = max n (decided_count es) in
        let held : only (operands r (deps_at_turn r target (outcome_at r n) (may.is_end.is_piece.looks + may.slot.turn))) (outcome_at r n) q ≡ Some o = sym (is_stopped.exact q) ∙ h in
        let value = only-some (operands r (deps_at_turn r target (outcome_at r n) (may.is_end.is_piece.looks + may.slot.turn))) (outcome_at r n) q o held in
        elim (cases_Bool (is_among (operands r (deps_at_turn r target (outcome_at r n) (may.is_end.is_piece.looks + may.slot.turn))) q)) [
          | inl yes' ↦
              let there = among-told (operands r (deps_at_turn r target (outcome_at r n) (may.is_end.is_piece.looks + may.slot.turn))) q yes' in
              let D : List Dep → Type 0 = λ ds. IsAmong (operands r ds) q in
              let asked = subst D (sym same-deps) there in
              let source = operand-target r lawful e.deps q asked in
              elim (cases_Option (outcomes_of es q)) [
                | inl none ↦ absurd (e-fed q asked none)
                | inr some ↦
                    let one = deeper r lawful (decided_count es) m (omega arith) q some.0 source (deep q some.0 source some.1) in
                    let two = deeper r lawful n m (omega arith) q o source value in
                    let both : Some some.0 ≡ Some o = sym one ∙ two in
                    (asked, some.1 ∙ both)
              ]
          | inr no' ↦ absurd (let bad = rw no' at held in cc)
        ]

    -- entering what it waits for is entering all that its record asks for, since what has an answer was seen
    pub enters-same : entered (rules_for given) (table_entries given t) (waited_by (rules_for given) begun.value) ≡
        entered (rules_for given) (table_entries given t) (operands (rules_for given) (end_progress end).deps)
    enters-same =
        let none = sources_alone (rules_for given).is_source (found_deps begun.value.job) (found_sources given begun.value.job is_stopped.is_job) in
        let checked = entered-seen r es (operands r begun.value.facts.asked) (λ q m. elim (cases_Option (told_in begun.value.facts q)) [
          | inl lost ↦ absurd (is_stopped.checked q m lost)
          | inr some ↦ sound.standing.closed target q e entry-at (held-known q some.0 some.1).0
        ]) in
        let whole = all-entered r es begun.value.facts.asked (record_so_far begun.value.job)
        ∙ ap (λ xs. entered r xs (operands r (record_so_far begun.value.job))) checked
        ∙ all-entered r es (found_deps begun.value.job) begun.value.job.state.entries ∙ ap (λ qs. entered r (entered r es qs) (operands r begun.value.job.state.entries)) none in
        let seen = entered-passed r (λ q. is_none (told_in begun.value.facts q)) es (operands r begun.value.job.state.entries) (λ q m known.
        elim (cases_Option (told_in begun.value.facts q)) [
          | inl lost ↦ absurd (let bad = rw lost at known in cc)
          | inr some ↦ sound.standing.closed target q e entry-at (held-known q some.0 some.1).0
        ]) in
        let E : End → List Entry = λ x. entered r es (operands r (end_progress x).deps) in
        seen ∙ sym (ap E stopped ∙ whole)

    pub after-length : length (entered (rules_for given) (table_entries given t) (waited_by (rules_for given) begun.value)) ≡ length (state_after given Script t at).entries
    unfolding moved
    after-length =
        let wide = entered r es (operands r (end_progress end).deps) in
        ap length enters-same ∙ sym (ap length after-entries ∙ length-put wide (moved_on Script e (end_progress end)))

    module _ (v : Table) (a : AreEnteredInto given t v (waited_by (rules_for given) begun.value)) where
      there-still : slice_get v.slots.items at ≡ Some may.slot
      there-still = a.slots_kept at may.slot may.there

      pub out-still : IsOutThere v at
      out-still = entered-out given t v (waited_by r begun.value) may.at_rest.table a at (open-there, (may.slot, may.there, may.is_out, few-rounds, small))

      pub are-seen : (ns : List ℕ) → AreNumbers v.targets ns (waited_by (rules_for given) begun.value) → AreSeen v ns
      are-seen ns are i n h =
          let path = numbers-number v.targets ns (waited_by r begun.value) i n are h in
          entered-number given t v (waited_by r begun.value) may.at_rest.table a n path.0 path.2

      path-still : path_at v.targets at ≡ path_at t.targets at
      path-still = entered-path given t v (waited_by r begun.value) may.at_rest.table a at may.slot may.there

      wider-entries : table_entries given v ≡ entered (rules_for given) (table_entries given t) (operands (rules_for given) (end_progress end).deps)
      wider-entries = a.entries ∙ enters-same

      wider-distinct : AreDistinct v.targets
      wider-distinct = entered-distinct given t v (waited_by r begun.value) may.at_rest.table a sound.standing.distinct

      one-more : begun.value.job.turn ≡ suc may.slot.turn
      one-more = omega (arith, is_stopped.at_turn)

      job-record : all_asked begun.value.job begun.value.facts ≡ (end_progress end).deps
      job-record =
          let P : End → Type 0 = λ x. all_asked begun.value.job begun.value.facts ≡ (end_progress x).deps in
          subst P (sym stopped) (ap (with_all begun.value.facts.asked) (job_deps-stopped begun.value.job may.slot.turn one-more))

      asked-still : (q : List ℕ) (o : Outcome) → told_in begun.value.facts q ≡ Some o → IsAmong (operands (rules_for given) (all_asked begun.value.job begun.value.facts)) q
      asked-still q o h =
          let n = may.is_end.is_piece.depth in
          let D : List Dep → Type 0 = λ ds. IsAmong (operands r ds) q in
          let before = subst D same-deps (held-known q o h).0 in
          let more = asked-more r lawful target (outcome_at r n) (may.is_end.is_piece.looks + may.slot.turn) may.is_end.is_piece.came q before in
          subst D (sym (job-record ∙ ap (λ (x : Progress). x.deps) may.is_end.is_piece.is)) more

      module _ (u : Table) (on : List ℕ) (are : AreNumbers v.targets on (waited_by (rules_for given) begun.value)) (d : IsParkedAt v u at begun on) where
        old-there : d.old ≡ may.slot
        old-there = let both : Some d.old ≡ Some may.slot = sym d.put_back.there ∙ there-still in cc

        new-turn : d.old.turn + 1 ≡ may.slot.turn + 1
        new-turn = ap (λ (y : Slot). y.turn + 1) old-there

        waits : IsWaitingWith (rules_for given) (outcomes_of (table_entries given v)) given (path_at v.targets at) (d.old.turn + 1)
            begun.value
        waits = record {
          is_job = is_stopped.is_job;
          of_target = is_stopped.of_target ∙ sym path-still;
          at_turn = is_stopped.at_turn ∙ sym new-turn;
          stopped = omega (arith, new-turn);
          told = λ q o h. (asked-still q o h, entered-known given t v (waited_by r begun.value) may.at_rest.table a q o (held-known q o h).1);
          behind = (let B : List ℕ → Type 0 = λ p. IsBegunBehind given p begun.value.facts.asked (told_in begun.value.facts) in subst B (sym path-still) is_stopped.behind);
          checked = is_stopped.checked;
          own = (let B : List ℕ → Type 0 = λ p. (sources_for given).progress p (told_in begun.value.facts) ≡ record { outcome = None; deps = record_so_far begun.value.job } in subst B (sym path-still) is_stopped.own);
          goes_on = is_stopped.goes_on;
        }

        parked-moved : table_entries given u ≡ moved
        unfolding moved
        parked-moved =
            let put-in = put-entries given v u a.table wider-distinct at d.old (record d.old { turn = d.old.turn + 1; stage = Waiting begun }) (AtWaiting on) d.put_back in
            let Y : Slot → Entry = λ y. record { path = path_at v.targets at; looks = y.looks; turn = y.turn + 1; deps = all_asked begun.value.job begun.value.facts; outcome = None; is_out = false } in
            let M : List ℕ → List Dep → Entry = λ p ds. record { path = p; looks = may.slot.looks; turn = may.slot.turn + 1; deps = ds; outcome = None; is_out = false } in
            let entry' = ap Y old-there ∙ ap (λ p. M p (all_asked begun.value.job begun.value.facts)) path-still ∙ ap (M target) job-record in
            let N : End → Type 0 = λ x. M target (end_progress x).deps ≡ moved_on Script e (end_progress x) in
            let last : M target (end_progress end).deps ≡ moved_on Script e (end_progress end) = subst N (sym stopped) refl in
            put-in ∙ ap (put (table_entries given v)) (entry' ∙ last) ∙ ap (λ xs. put xs (moved_on Script e (end_progress end))) wider-entries

        pub suspended-table : IsTableOf given u
        suspended-table = parked-table given v u a.table wider-distinct at begun on d waits are

        pub suspended-standing : IsStandingTable given u
        suspended-standing =
            let P : List Entry → Type 0 = AreStanding r given.request in
            (given.request, subst P (sym (parked-moved ∙ sym after-entries)) after-sound.standing)

        -- and what could go on did
        pub suspended-put : (x : Table) → IsSettled given u x → IsPutBackThere given (state_after given Script t at) t x
        suspended-put x settled = record {
          table = settled.0.table;
          entries = settled.0.entries ∙ parked-moved ∙ sym after-entries;
          ready = settled.0.ready ∙ ap (λ (y : ScheduleView). y.ready) d.put_back.schedule ∙ a.ready;
          keys_kept = λ k p h. rw (settled.0.targets, d.put_back.targets) (a.keys_kept k p h);
          lacks = settled.1;
          put_back = λ k h. put-none_in_hand given v u a.table wider-distinct at d.old (record d.old { turn = d.old.turn + 1; stage = Waiting begun }) (AtWaiting on) d.put_back
              (λ e. let bad : AtWaiting on ≡ AtHand = e in cc)
              (λ j g. absurd (may.at_rest.resting.put_back j (entered-in_hand given t v (waited_by r begun.value) may.at_rest.table a j g))) k (settled.0.in_hand k h);
        }
