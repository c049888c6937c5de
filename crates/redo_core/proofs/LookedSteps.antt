-- What a look comes to: the target is kept, or its check asks for the next path.
use Rattle.std.proofs.Common.{map, slice_get, ◌≡◌, ℕ, ◌+◌, ◌<◌, false, ◌⊎◌, inl, inr, List, [], ◌∷◌, length}
use Rattle.std.proofs.Common.{Some, None, refl, sym, ap, subst, ◌∙◌, Global}
use Rattle.std.specs.Prelude.{Box, ◌&&◌}
use Rattle.std.proofs.lemmas.Bool.{cases_Bool, both_ways, and_right, false_from_ne_true}
use Rattle.redo_names.proofs.ListLemmas.{IsAmong-append, IsAmong-left}
use Rattle.redo_names.proofs.PathLemmas.{among-told, told-among}
use Rattle.redo_record.specs.declared.deps.Dep.{Dep}
use Rattle.redo_record.specs.declared.deps.DepKind.TheVariants as kinds
use Rattle.redo_record.specs.declared.outcome.Outcome.{Outcome}
use Rattle.redo_record.specs.declared.outcome.Outcome.TheVariants.{Built}
use Rattle.redo_record.specs.Entries.{is_entered, with_entry}
use Rattle.redo_record.specs.Paths.{IsAmong, AreDistinct, is_among}
use Rattle.redo_record.specs.Progress.{Progress}
use Rattle.redo_build.specs.Rules.{Ask, Rules, AreLawful, Extends, operands}
use Rattle.redo_build.specs.Schedule.{Entry, advanced, entered, moved_on, only, outcomes_of, put}
use Rattle.redo_build.specs.Schedule.Phase.{Check as In_check}
use Rattle.redo_build.specs.inside.Standing.{AreStanding}
use Rattle.redo_build.proofs.DepthLemmas.{cases_Option, ended_stays, operand-target}
use Rattle.redo_build.proofs.TurnLemmas.{only-Extends, only-among, Extends-trans'}
use Rattle.redo_skip.specs.Checks.{built, shown}
use Rattle.redo_tree.specs.Tree.{file_at}
use Rattle.redo_rules.proofs.Public.{lawful_for}
use Rattle.redo_core.specs.Views.{FactView}
use Rattle.redo_core.specs.inside.Checking.{IsWaitingCheck, asks_next, entries_in}
use Rattle.redo_core.specs.inside.Decided.{IsDecided}
use Rattle.redo_table.specs.Schedule.{ScheduleView, stage_at}
use Rattle.redo_table.specs.Schedule.StageView.{InHand as AtHand, Waiting as AtWaiting}
use Rattle.redo_core.specs.inside.Slots.{outcomes_at_limit, AreEnteredInto, IsAskedAt, IsCheckingWith, IsConcludedAt}
use Rattle.redo_core.specs.inside.Slots.{IsOutThere, IsPutBackThere, MayConclude, IsSettled, IsStandingTable}
use Rattle.redo_core.specs.inside.Slots.{IsTableOf, MayLook, concluded_entry, path_at, slot_entry, state_after}
use Rattle.redo_core.specs.inside.Slots.{table_entries, GivenView, rules_for, InCheck, Slot, Checking, Out, Table}
use Rattle.redo_core.proofs.CheckingLemmas.{due-asks, due-kept, due-waits, waiting-moves}
use Rattle.redo_core.proofs.EnterAllLemmas.{entered-seen, operands-append}
use Rattle.redo_core.proofs.PutSteps.{asked-table, put-entries, put-none_in_hand}
use Rattle.redo_core.proofs.ConcludeSteps.{conclude-may, conclude-put}
use Rattle.redo_core.proofs.EnteredLemmas.{entered-distinct, entered-in_hand, entered-known, entered-number, entered-out, entered-path}
use Rattle.redo_core.proofs.EntryLemmas.{entry-paths}
use Rattle.redo_build.proofs.SeenLemmas.{length-put}
use Rattle.redo_core.proofs.TakeInLemmas.{all-entered}
use Rattle.redo_core.proofs.LookSteps.{fits, look-after_entries, look-alone, look-deep, look-distinct, look-known, look-out}
use Rattle.redo_core.proofs.LookSteps.{look-outcomes, look-path, look-seen, look-sound, look-table, look-there}

-- the operands of entries to which one was added
entry-cases : (r : Rules) (ds : List Dep) (d : Dep) (x : List ℕ) → IsAmong (operands r (with_entry ds d.kind d.path)) x →
    IsAmong (operands r ds) x ⊎ IsAmong (operands r (d ∷ [])) x
entry-cases r ds d x m = elim (cases_Bool (is_entered ds d.kind d.path)) [
  | inl t ↦ inl (rw t at m)
  | inr f ↦
      let A : List (List ℕ) → Type 0 = λ qs. IsAmong qs x in
      IsAmong-append (operands r ds) (operands r (d ∷ [])) x (subst A (operands-append r ds (d ∷ [])) (rw f at m))
]

entry-keeps : (r : Rules) (ds : List Dep) (d : Dep) (x : List ℕ) → IsAmong (operands r ds) x → IsAmong (operands r (with_entry ds d.kind d.path)) x
entry-keeps r ds d x m = elim (cases_Bool (is_entered ds d.kind d.path)) [
  | inl t ↦ rw t m
  | inr f ↦
      let A : List (List ℕ) → Type 0 = λ qs. IsAmong qs x in
      rw f (subst A (sym (operands-append r ds (d ∷ []))) (IsAmong-left (operands r ds) (operands r (d ∷ [])) x m))
]

module _ (given : GivenView) (u : Table) (at : ℕ) (held : Box InCheck Global) (may : MayLook given u at held) where
  abbrev r : Rules
  r = rules_for given

  abbrev lim : ℕ
  lim = given.limits.targets

  abbrev al : Ask
  al = outcomes_at_limit given

  abbrev p : List ℕ
  p = path_at may.whole.targets at

  abbrev eu : List Entry
  eu = table_entries given u

  abbrev ew : List Entry
  ew = table_entries given may.whole

  abbrev e : Entry
  e = (slot_entry (rules_for given) (outcomes_at_limit given) (path_at may.whole.targets at) may.taken.old)

  abbrev asked : List Dep
  asked = held.value.check.asked

  -- what its check knows
  abbrev known : Ask
  known = only (operands (rules_for given) held.value.check.asked) (outcomes_of (table_entries given may.whole))

  lawful : AreLawful (rules_for given)
  lawful = lawful_for given

  deep : Extends (rules_for given) (only (operands (rules_for given) held.value.check.asked) (outcomes_of (table_entries given may.whole))) (outcomes_at_limit given)
  deep = Extends-trans' r known (outcomes_of ew) al (only-Extends r (operands r asked) (outcomes_of ew) (outcomes_of ew) (λ q o s h. h)) (look-deep given u at held may)

  -- all entries stand
  module _ (stands : asks_next given held.value.check ≡ None) where
    kept-now : advanced (rules_for given) (table_entries given may.whole) (slot_entry (rules_for given) (outcomes_at_limit given) (path_at may.whole.targets at) may.taken.old) ≡ built (file_at given.past.tree (path_at may.whole.targets at)) held.value.check.asked
    kept-now = look-known given u at held may ∙ (due-kept given p held.value.check (outcomes_of ew) (fits given u at held may).is_due stands).0

    kept-end : (rules_for given).progress (path_at may.whole.targets at) (outcomes_at_limit given) ≡ built (file_at given.past.tree (path_at may.whole.targets at)) held.value.check.asked
    kept-end =
        let here = (due-kept given p held.value.check (outcomes_of ew) (fits given u at held may).is_due stands).0 in
        sym (ended_stays r lawful p known al (Built (file_at given.past.tree p)) deep (ap (λ (x : Progress). x.outcome) here)) ∙ here

    -- what is asked for has the same answers in the end
    kept-alike : (q : List ℕ) → IsAmong (operands (rules_for given) ((rules_for given).progress (path_at may.whole.targets at) (only (operands (rules_for given) held.value.check.asked) (outcomes_of (table_entries given may.whole)))).deps) q → (only (operands (rules_for given) held.value.check.asked) (outcomes_of (table_entries given may.whole))) q ≡ outcomes_at_limit given q
    kept-alike q m =
        let here = (due-kept given p held.value.check (outcomes_of ew) (fits given u at held may).is_due stands).0 in
        let D : Progress → Type 0 = λ x. IsAmong (operands r x.deps) q in
        let among : IsAmong (operands r asked) q = subst D here m in
        elim (cases_Option (outcomes_of ew q)) [
          | inl none ↦ absurd ((fits given u at held may).answered q among none)
          | inr some ↦ only-among (operands r asked) (outcomes_of ew) q among ∙ some.1 ∙ sym (look-deep given u at held may q some.0 (operand-target r lawful asked q among) some.1)
        ]

    pub kept-decided : IsDecided given (path_at may.whole.targets at) (Built (file_at given.past.tree (path_at may.whole.targets at))) (map shown (entries_in given held.value.check)) false
    kept-decided =
        let kept = due-kept given p held.value.check (outcomes_of ew) (fits given u at held may).is_due stands in
        let begins : r.begins p al ≡ false = sym (lawful.begins_local p known al kept-alike) ∙ kept.1 in (
          asked,
          record {
            depth = lim;
            is = kept-end;
            recorded = sym kept.2 ∙ lawful.recorded_local p known al kept-alike;
            begun = sym (ap (λ b. r.has_rule p && b) begins ∙ and_right (r.has_rule p) false refl);
          },
        )

    module _ (fact : FactView) (of_given : fact.given ≡ given) (of_target : fact.target ≡ (path_at may.whole.targets at)) (of_outcome : fact.outcome ≡ Built (file_at given.past.tree (path_at may.whole.targets at))) where
      kept-after : put (table_entries given u) (concluded_entry given (path_at u.targets at) (record may.taken.old { stage = Out }) fact) ≡ (state_after given In_check u at).entries
      kept-after =
          let M : List Dep → Outcome → Entry = λ ds o. record { path = p; looks = may.taken.old.looks; turn = may.taken.old.turn; deps = ds; outcome = Some o; is_out = false } in
          let N : Progress → List Entry = λ n. put (entered r eu (operands r n.deps)) (moved_on In_check e n) in
          let seen = entered-seen r eu (operands r asked) (look-seen given u at held may) in
          ap (λ q. put eu (concluded_entry given q (record may.taken.old { stage = Out }) fact)) (look-path given u at held may)
          ∙ ap (λ xs. put eu (M xs fact.outcome)) (ap (λ (x : Progress). x.deps) kept-end)
          ∙ ap (λ o. put eu (M asked o)) of_outcome
          ∙ sym (ap (λ xs. put xs (M asked (Built (file_at given.past.tree p)))) seen)
          ∙ sym (ap N kept-now) ∙ sym (look-after_entries given u at held may)

      pub kept-may : MayConclude given u at fact
      kept-may =
          conclude-may given u at fact (record may.taken.old { stage = Out }) (look-there given u at held may) (state_after given In_check u at) kept-after
          (look-table given u at held may) (look-distinct given u at held may) (look-out given u at held may) (look-alone given u at held may)
          (of_given, of_target ∙ sym (look-path given u at held may)) given.request (look-sound given u at held may).standing

      pub kept-put : (v : Table) → IsConcludedAt given u v at fact → IsPutBackThere given (state_after given In_check u at) u v
      kept-put = conclude-put given u at fact (record may.taken.old { stage = Out }) (look-there given u at held may) (state_after given In_check u at) kept-after

  -- the next entry asks for a path
  module _ (q : List ℕ) (next : asks_next given held.value.check ≡ Some q) where
    -- all that it asked for then
    abbrev more : List Dep
    more = with_entry held.value.check.asked kinds.Change q

    abbrev asks : ((rules_for given).progress (path_at may.whole.targets at) (only (operands (rules_for given) held.value.check.asked) (outcomes_of (table_entries given may.whole))) ≡ record { outcome = None; deps = with_entry held.value.check.asked kinds.Change q }) ×
        ((rules_for given).begins (path_at may.whole.targets at) (only (operands (rules_for given) held.value.check.asked) (outcomes_of (table_entries given may.whole))) ≡ false) × ((rules_for given).is_source q ≡ false) × (IsAmong (operands (rules_for given) held.value.check.asked) q → ⊥)
    asks = due-asks given p held.value.check (outcomes_of ew) (fits given u at held may).is_due q next

    asked-now : advanced (rules_for given) (table_entries given may.whole) (slot_entry (rules_for given) (outcomes_at_limit given) (path_at may.whole.targets at) may.taken.old) ≡ record { outcome = None; deps = with_entry held.value.check.asked kinds.Change q }
    asked-now = look-known given u at held may ∙ asks.0

    alone : operands (rules_for given) (record { kind = kinds.Change; path = q } ∷ []) ≡ q ∷ []
    alone = rw asks.2 refl

    pub asked-enters : entered (rules_for given) (table_entries given u) (operands (rules_for given) (with_entry held.value.check.asked kinds.Change q)) ≡ entered (rules_for given) (table_entries given u) (q ∷ [])
    asked-enters =
        all-entered r eu asked (record { kind = kinds.Change; path = q } ∷ [])
        ∙ ap (λ xs. entered r xs (operands r (record { kind = kinds.Change; path = q } ∷ []))) (entered-seen r eu (operands r asked) (look-seen given u at held may))
        ∙ ap (entered r eu) alone

    asked-after : put (entered (rules_for given) (table_entries given u) (q ∷ [])) (record { path = (path_at may.whole.targets at); looks = may.taken.old.looks + 1; turn = may.taken.old.turn; deps = with_entry held.value.check.asked kinds.Change q; outcome = None; is_out = false }) ≡
        (state_after given In_check u at).entries
    asked-after =
        let N : Progress → List Entry = λ n. put (entered r eu (operands r n.deps)) (moved_on In_check e n) in
        let m : Entry = record { path = p; looks = may.taken.old.looks + 1; turn = may.taken.old.turn; deps = more; outcome = None; is_out = false } in
        sym (ap (λ xs. put xs m) asked-enters) ∙ sym (ap N asked-now) ∙ sym (look-after_entries given u at held may)

    pub asked-length : length (entered (rules_for given) (table_entries given u) (q ∷ [])) ≡ length (state_after given In_check u at).entries
    asked-length = sym (length-put (entered r eu (q ∷ [])) (record { path = p; looks = may.taken.old.looks + 1; turn = may.taken.old.turn; deps = more; outcome = None; is_out = false })) ∙ ap length asked-after

    -- what it asked for, but for that path, it had asked for before
    other-asked : (x : List ℕ) → IsAmong (operands (rules_for given) (with_entry held.value.check.asked kinds.Change q)) x → (q ≡ x → ⊥) → IsAmong (operands (rules_for given) held.value.check.asked) x
    other-asked x m other = elim (entry-cases r asked (record { kind = kinds.Change; path = q }) x m) [
      | inl before ↦ before
      | inr here ↦ absurd (let A : List (List ℕ) → Type 0 = λ qs. IsAmong qs x in elim (subst A alone here) as (λ _. ⊥) [ inl is ↦ other is | inr none ↦ none ])
    ]

    asked-still : (x : List ℕ) → IsAmong (operands (rules_for given) held.value.check.asked) x → IsAmong (operands (rules_for given) (with_entry held.value.check.asked kinds.Change q)) x
    asked-still x m = entry-keeps r asked (record { kind = kinds.Change; path = q }) x m

    module _ (v : Table) (place : ℕ) (a : AreEnteredInto given u v (q ∷ [])) (number : slice_get v.targets place ≡ Some q) where
      pub asked-out : IsOutThere v at
      asked-out = entered-out given u v (q ∷ []) (look-table given u at held may) a at (look-out given u at held may)

      pub asked-seen : place < length v.schedule.stages
      asked-seen = entered-number given u v (q ∷ []) (look-table given u at held may) a place q number

      -- it alone is in hand
      asked-alone : (k : ℕ) → stage_at v.schedule k ≡ Some AtHand → at ≡ k
      asked-alone k h = look-alone given u at held may k (entered-in_hand given u v (q ∷ []) (look-table given u at held may) a k h)

      asked-path : path_at v.targets at ≡ path_at may.whole.targets at
      asked-path = entered-path given u v (q ∷ []) (look-table given u at held may) a at _ (look-there given u at held may) ∙ look-path given u at held may

      asked-distinct : AreDistinct v.targets
      asked-distinct =
          let table = look-table given u at held may in
          let D : List (List ℕ) → Type 0 = AreDistinct in
          entered-distinct given u v (q ∷ []) table a (subst D (sym (entry-paths given u u.schedule.stages table)) (look-distinct given u at held may))

      -- answers stay
      asked-more : Extends (rules_for given) (outcomes_of (table_entries given may.whole)) (outcomes_of (table_entries given v))
      asked-more x o source h = entered-known given u v (q ∷ []) (look-table given u at held may) a x o (look-outcomes given u at held may x ∙ h)

      asked-same : (x : List ℕ) → IsAmong (operands (rules_for given) held.value.check.asked) x → outcomes_of (table_entries given may.whole) x ≡ outcomes_of (table_entries given v) x
      asked-same x m = elim (cases_Option (outcomes_of ew x)) [
        | inl none ↦ absurd ((fits given u at held may).answered x m none)
        | inr some ↦ some.1 ∙ sym (asked-more x some.0 (operand-target r lawful asked x m) some.1)
      ]

      module _ (w : Table) (held' : Box InCheck Global) (is : held'.value ≡ record held.value { check = record held.value.check { asked = with_entry held.value.check.asked kinds.Change q } })
          (d : IsAskedAt v w at (record { held = held'; path = q }) place) where
        slot-old : d.old ≡ record may.taken.old { stage = Out }
        slot-old =
            let both : Some d.old ≡ Some (record may.taken.old { stage = Out }) = sym d.put_back.there ∙ a.slots_kept at _ (look-there given u at held may) in cc

        checking-raw : IsCheckingWith (rules_for given) (outcomes_of (table_entries given v)) given (path_at may.whole.targets at) may.taken.old.turn
            (record { held = record held' { value = record held.value { check = record held.value.check { asked = with_entry held.value.check.asked kinds.Change q } } }; path = q })
        checking-raw =
            let due = fits given u at held may in
            let waits : IsWaitingCheck given p (outcomes_of ew) q (record held.value.check { asked = more }) = due-waits given p (outcomes_of ew) q held.value.check due.is_due next in
            record {
              is_held = record { found = due.is_held.found; at_first = due.is_held.at_first; none_behind = due.is_held.none_behind };
              waits = waiting-moves given p (record held.value.check { asked = more }) (outcomes_of ew) (outcomes_of (table_entries given v)) q waits
                  (λ x m other. asked-same x (other-asked x m (λ is'. other (sym is'))));
              answered = λ x m other none. due.answered x (other-asked x m other) (asked-same x (other-asked x m other) ∙ none);
              exact = λ x other. due.exact x ∙ elim (cases_Bool (is_among (operands r asked) x)) as
                  (λ _. only (operands r asked) (outcomes_of ew) x ≡ only (operands r more) (outcomes_of (table_entries given v)) x) [
                    | inl t ↦
                        let m = among-told (operands r asked) x t in
                        only-among (operands r asked) (outcomes_of ew) x m ∙ asked-same x m ∙ sym (only-among (operands r more) (outcomes_of (table_entries given v)) x (asked-still x m))
                    | inr f ↦
                        let no' : is_among (operands r more) x ≡ false = false_from_ne_true _ (λ t.
                        both_ways _ f (told-among (operands r asked) x (other-asked x (among-told (operands r more) x t) other))) in
                        rw (f, no') refl
                  ];
              lacks = due.exact q ∙ elim (cases_Bool (is_among (operands r asked) q)) as (λ _. only (operands r asked) (outcomes_of ew) q ≡ None) [
                | inl t ↦ absurd (asks.3 (among-told (operands r asked) q t))
                | inr f ↦ rw f refl
              ];
            }

        checking : IsCheckingWith (rules_for given) (outcomes_of (table_entries given v)) given (path_at v.targets at) d.old.turn (record { held = held'; path = q })
        checking =
            let C : List ℕ → ℕ → Box InCheck Global → Type 0 = λ x n h. IsCheckingWith r (outcomes_of (table_entries given v)) given x n (record { held = h; path = q }) in
            let X : List ℕ → Type 0 = λ x. C x d.old.turn held' in
            let Y : ℕ → Type 0 = λ n. C p n held' in
            let Z : InCheck → Type 0 = λ h. C p may.taken.old.turn (record held' { value = h }) in
            subst X (sym asked-path) (subst Y (sym (ap (λ (x : Slot). x.turn) slot-old)) (subst Z (sym is) checking-raw))

        asked-moved : table_entries given w ≡ (state_after given In_check u at).entries
        asked-moved =
            let put-in = put-entries given v w a.table asked-distinct at d.old (record d.old { looks = d.old.looks + 1; stage = Checking (record { held = held'; path = q }) }) (AtWaiting (place ∷ [])) d.put_back in
            let Y : Slot → Entry = λ y. record { path = path_at v.targets at; looks = y.looks + 1; turn = y.turn; deps = held'.value.check.asked; outcome = None; is_out = false } in
            let M : List ℕ → List Dep → Entry = λ x ds. record { path = x; looks = may.taken.old.looks + 1; turn = may.taken.old.turn; deps = ds; outcome = None; is_out = false } in
            let entry' = ap Y slot-old ∙ ap (λ x. M x held'.value.check.asked) asked-path ∙ ap (λ (h : InCheck). M p h.check.asked) is in
            put-in ∙ ap (put (table_entries given v)) entry' ∙ ap (λ xs. put xs (M p more)) a.entries ∙ asked-after

        pub asked-table' : IsTableOf given w
        asked-table' = asked-table given v w a.table asked-distinct at (record { held = held'; path = q }) place d checking number

        pub asked-standing : IsStandingTable given w
        asked-standing =
            let S : List Entry → Type 0 = AreStanding r given.request in
            (given.request, subst S (sym asked-moved) (look-sound given u at held may).standing)

        -- and what could go on did
        pub asked-put : (x : Table) → IsSettled given w x → IsPutBackThere given (state_after given In_check u at) u x
        asked-put x settled = record {
          table = settled.0.table;
          entries = settled.0.entries ∙ asked-moved;
          ready = settled.0.ready ∙ ap (λ (y : ScheduleView). y.ready) d.put_back.schedule ∙ a.ready;
          keys_kept = λ k y h. rw (settled.0.targets, d.put_back.targets) (a.keys_kept k y h);
          lacks = settled.1;
          put_back = λ k h. put-none_in_hand given v w a.table asked-distinct at d.old (record d.old { looks = d.old.looks + 1; stage = Checking (record { held = held'; path = q }) })
              (AtWaiting (place ∷ [])) d.put_back
              (λ e. let bad : AtWaiting (place ∷ []) ≡ AtHand = e in cc) asked-alone k (settled.0.in_hand k h);
        }
