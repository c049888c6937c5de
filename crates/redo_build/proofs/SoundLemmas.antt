-- What holds of every state that a run of open events reaches.
use Rattle.std.proofs.Common.{◌≡◌, ℕ, ◌<◌, Bool, true, false, ◌⊎◌, inl, inr, List, [], ◌∷◌, ◌++◌, filter, length}
use Rattle.std.proofs.Common.{Option, Some, None}
use Rattle.std.proofs.Common.{is_none, slice_get, remove, option_and_then, refl, sym, ap, subst, ◌∙◌}
use Rattle.std.specs.List.{list_any}
use Rattle.std.proofs.lemmas.Bool.{cases_Bool, both_ways, and_parts, or_parts, or_cases, not-true, not-false, false_from_ne_true}
use Rattle.std.proofs.lemmas.Bool.{not_from_false, and_from}
use Rattle.redo_names.proofs.ListLemmas.{IsAmong-same, IsAmong-append, IsAmong-left, IsAmong-right}
use Rattle.redo_names.proofs.PathLemmas.{among-told, place-among, told-among}
use Rattle.redo_record.specs.Paths.{is_among, IsAmong, AreDistinct}
use Rattle.redo_record.specs.Progress.{Progress}
use Rattle.redo_record.specs.declared.outcome.Outcome.{Outcome}
use Rattle.redo_build.specs.Rules.{Rules, AreLawful, Extends, operands, Ask}
use Rattle.redo_build.specs.Outcomes.{outcome_at, requested_targets}
use Rattle.redo_build.specs.Schedule.{Entry, State, Event, paths_of, entry_of, outcomes_of, only, entered}
use Rattle.redo_build.specs.Schedule.{put, lacks_none, is_able_to_go_on, enqueued, opening, sent_out, taken}
use Rattle.redo_build.specs.Schedule.{advanced, moved_on, handed_in, happens, IsOpen, run, AllOpen, known_to, may_run}
use Rattle.redo_build.specs.Schedule.{is_due, IsDueAt, IsOutAt, Phase}
use Rattle.redo_build.specs.Schedule.Event.{Take, Hand_in, Look}
use Rattle.redo_build.specs.Schedule.Phase.{Check, Script}
use Rattle.redo_build.specs.inside.Standing.{AreStanding, IsNeeded, decided_count, is_script}
use Rattle.redo_build.proofs.DepthLemmas.{cases_Option, operand-target, requested-target}
use Rattle.redo_build.proofs.SeenLemmas.{entry_of-path, entry_of-among, paths_of-put}
use Rattle.redo_build.proofs.SeenLemmas.{entry_of-entered_old, entry_of-entered_cases, entry_of-put_other}
use Rattle.redo_build.proofs.SeenLemmas.{put-cases, put-from, replaced-cases, new-inside, nowhere}
use Rattle.redo_build.proofs.QueueLemmas.{slice_get-below, remove-cases, remove-from, remove-distinct}
use Rattle.redo_build.proofs.QueueLemmas.{remove-gone, AreDistinct-append, paths_of-filter_from, paths_of-filter_to}
use Rattle.redo_build.proofs.QueueLemmas.{paths_of-filter_distinct}
use Rattle.redo_build.proofs.TurnLemmas.{only-Extends, progress-more, begins-more}
use Rattle.redo_build.proofs.StandingLemmas.{IsNeeded-asked, outcomes_of-deep, entered-outcomes, paths-entered}
use Rattle.redo_build.proofs.StandingLemmas.{entered-standing, moved-outcomes, moved-standing, sent-outcomes}
use Rattle.redo_build.proofs.StandingLemmas.{sent-standing}
use Rattle.redo_build.specs.Takes.{place_of, takes}

-- the path has an entry that isn't decided, that has every answer that it asked for, and whose script is begun
abbrev pub IsFed : Rules → List Entry → List ℕ → Type 0
IsFed r es p = (e : Entry) × (entry_of es p ≡ Some e) × (e.outcome ≡ None) ×
    ((q : List ℕ) → IsAmong (operands r e.deps) q → outcomes_of es q ≡ None → ⊥) ×
    (r.begins e.path (known_to r es e) ≡ true)

-- what is ready and what is out can go on, each once
pub record AreQueued (r : Rules) (s : State) : Type 0 where
  pub ready_fed : (p : List ℕ) → IsAmong s.ready p → IsFed r s.entries p
  pub out_fed : (p : List ℕ) (e : Entry) → entry_of s.entries p ≡ Some e → e.is_out ≡ true → IsFed r s.entries p
  pub ready_distinct : AreDistinct s.ready
  pub apart : (p : List ℕ) (e : Entry) → IsAmong s.ready p → entry_of s.entries p ≡ Some e → e.is_out ≡ false

-- what isn't decided, ready or out waits for an undecided path that it asked for, or its check can go on
abbrev pub AllOthersWait : Rules → State → Type 0
AllOthersWait r s = (p : List ℕ) (e : Entry) → entry_of s.entries p ≡ Some e → e.outcome ≡ None →
    (IsAmong s.ready p → ⊥) → e.is_out ≡ false →
    ((q : List ℕ) × IsAmong (operands r e.deps) q × (outcomes_of s.entries q ≡ None)) ⊎
    (((q : List ℕ) → IsAmong (operands r e.deps) q → outcomes_of s.entries q ≡ None → ⊥) ×
    (r.begins e.path (known_to r s.entries e) ≡ false))

pub record IsSound (r : Rules) (request : List (List ℕ)) (s : State) : Type 0 where
  pub standing : AreStanding r request s.entries
  pub requested : (p : List ℕ) → IsAmong (requested_targets r request) p → IsAmong (paths_of s.entries) p
  pub queued : AreQueued r s
  pub others_wait : AllOthersWait r s

-- what an event takes
abbrev pub taken_by : State → Event → List ((List ℕ) × ℕ)
taken_by s (Take which) = place_of (option_and_then (entry_of s.entries) (slice_get s.ready which))
taken_by s _ = []

pub takes-first : (r : Rules) (event : Event) (events : List Event) (s : State) →
    takes r (event ∷ events) s ≡ taken_by s event ++ takes r events (happens r s event)
takes-first r (Take which) events s = refl
takes-first r (Hand_in target turn) events s = refl
takes-first r (Look target) events s = refl

pub list_any-true : (f : List ℕ → Bool) (ps : List (List ℕ)) → list_any f ps ≡ true → (q : List ℕ) × IsAmong ps q ×
    (f q ≡ true)
list_any-true f [] h = cc
list_any-true f (x ∷ ps) h = elim (or_cases (f x) (list_any f ps) h) [
  | inl here ↦ (x, inl refl, here)
  | inr later ↦ let found = list_any-true f ps later in (found.0, inr found.1, found.2)
]

pub list_any-false : (f : List ℕ → Bool) (ps : List (List ℕ)) → list_any f ps ≡ false → (q : List ℕ) → IsAmong ps q →
    f q ≡ false
list_any-false f [] h q m = absurd m
list_any-false f (x ∷ ps) h q m =
    let parts = or_parts (f x) (list_any f ps) h in
    elim m [ inl here ↦ ap f (sym here) ∙ parts.0 | inr later ↦ list_any-false f ps parts.1 q later ]

is_none-true : (o : Option Outcome) → is_none o ≡ true → o ≡ None
is_none-true None h = refl
is_none-true (Some v) h = cc

is_none-from : (o : Option Outcome) → o ≡ None → is_none o ≡ true
is_none-from o h = rw h refl

module _ (r : Rules) where
  pub lacks_none-true : (es : List Entry) (e : Entry) → lacks_none r es e ≡ true →
      (q : List ℕ) → IsAmong (operands r e.deps) q → outcomes_of es q ≡ None → ⊥
  lacks_none-true es e h q m none =
      both_ways _ (list_any-false (λ x. is_none (outcomes_of es x)) (operands r e.deps) (not-true _ h) q m)
      (is_none-from (outcomes_of es q) none)

  pub lacks_none-false : (es : List Entry) (e : Entry) → lacks_none r es e ≡ false →
      (q : List ℕ) × IsAmong (operands r e.deps) q × (outcomes_of es q ≡ None)
  lacks_none-false es e h =
      let found = list_any-true (λ x. is_none (outcomes_of es x)) (operands r e.deps) (not-false _ h) in
      (found.0, found.1, is_none-true (outcomes_of es found.0) found.2)

  pub lacks_none-from : (es : List Entry) (e : Entry) →
      ((q : List ℕ) → IsAmong (operands r e.deps) q → outcomes_of es q ≡ None → ⊥) →
      lacks_none r es e ≡ true
  lacks_none-from es e fed = elim (cases_Bool (lacks_none r es e)) [
    | inl t ↦ t
    | inr f ↦ let found = lacks_none-false es e f in absurd (fed found.0 found.1 found.2)
  ]

  -- what an entry is that can go on
  pub is_able_to_go_on-parts : (s : State) (e : Entry) → is_able_to_go_on r s e ≡ true →
      (e.outcome ≡ None) × (lacks_none r s.entries e ≡ true) × (e.is_out ≡ false) × (is_among s.ready e.path ≡ false)
  is_able_to_go_on-parts s e h =
      let third = and_parts _ _ h in
      let second = and_parts _ _ third.0 in
      let first = and_parts _ _ second.0 in
      (is_none-true e.outcome first.0, first.1, not-true _ second.1, not-true _ third.1)

  -- what a free entry is
  pub may_run-parts : (s : State) (e : Entry) → may_run r s e ≡ true →
      (e.outcome ≡ None) × (lacks_none r s.entries e ≡ true) × (e.is_out ≡ false) × (is_among s.ready e.path ≡ false) ×
      (r.begins e.path (known_to r s.entries e) ≡ true)
  may_run-parts s e h =
      let last = and_parts (is_able_to_go_on r s e) (r.begins e.path (known_to r s.entries e)) h in
      let parts = is_able_to_go_on-parts s e last.0 in
      (parts.0, parts.1, parts.2, parts.3, last.1)

-- where two asks tell alike of some paths, they do so of those alone
pub only-same : (ps : List (List ℕ)) (a b : Ask) → ((q : List ℕ) → IsAmong ps q → a q ≡ b q) → (q : List ℕ) →
    only ps a q ≡ only ps b q
only-same ps a b same q = elim (cases_Bool (is_among ps q)) [
  | inl t ↦ rw t (same q (among-told ps q t))
  | inr f ↦ rw f refl
]

module _ (r : Rules) (lawful : AreLawful r) (request : List (List ℕ)) where
  only-more : (ps : List (List ℕ)) (a b : Ask) → Extends r a b → Extends r (only ps a) (only ps b)
  only-more ps a b more q o s e = elim (cases_Bool (is_among ps q)) [
    | inl t ↦ rw t (more q o s (rw t at e))
    | inr f ↦ absurd (let bad : None ≡ Some o = rw f at e in cc)
  ]

  pub enqueued-sound : (s : State) → AreStanding r request s.entries →
      ((p : List ℕ) → IsAmong (requested_targets r request) p → IsAmong (paths_of s.entries) p) →
      AreQueued r s → IsSound r request (enqueued r s)
  enqueued-sound s standing requested queued = record {
    standing = standing;
    requested = requested;
    queued = record {
      ready_fed = λ p m. elim (IsAmong-append s.ready (paths_of (filter (may_run r s) s.entries)) p m) [
        | inl old ↦ queued.ready_fed p old
        | inr new ↦
            let found = paths_of-filter_from (may_run r s) s.entries p standing.distinct new in
            let parts = may_run-parts r s found.0 found.2 in
            (found.0, found.1, parts.0, lacks_none-true r s.entries found.0 parts.1, parts.4)
      ];
      out_fed = queued.out_fed;
      ready_distinct = AreDistinct-append s.ready (paths_of (filter (may_run r s) s.entries)) queued.ready_distinct
          (paths_of-filter_distinct (may_run r s) s.entries standing.distinct)
          (λ p old new.
          let found = paths_of-filter_from (may_run r s) s.entries p standing.distinct new in
          both_ways _ (not_ready-at p found.0 found.1 found.2) (told-among s.ready p old));
      apart = λ p e m at. elim (IsAmong-append s.ready (paths_of (filter (may_run r s) s.entries)) p m) [
        | inl old ↦ queued.apart p e old at
        | inr new ↦
            let found = paths_of-filter_from (may_run r s) s.entries p standing.distinct new in
            let same : found.0 ≡ e = let both : Some found.0 ≡ Some e = sym found.1 ∙ at in cc in
            sym (ap (λ (x : Entry). x.is_out) same) ∙ (may_run-parts r s found.0 found.2).2
      ];
    };
    others_wait = λ p e at open' not_ready not_out.
        let path = entry_of-path s.entries p e at in
        elim (cases_Bool (lacks_none r s.entries e)) [
          | inl all ↦ elim (cases_Bool (r.begins e.path (known_to r s.entries e))) [
            | inr in_check ↦ inr (lacks_none-true r s.entries e all, in_check)
            | inl starts ↦ absurd (
                let a : is_none e.outcome ≡ true = is_none-from e.outcome open' in
                let b : is_among s.ready e.path ≡ false = false_from_ne_true _ (λ told.
                not_ready (IsAmong-left s.ready (paths_of (filter (may_run r s) s.entries)) p
                (IsAmong-same s.ready e.path p path (among-told s.ready e.path told)))) in
                let free : may_run r s e ≡ true =
                and_from _ _ (and_from _ _ (and_from _ _ (and_from _ _ a all) (not_from_false _ not_out))
                (not_from_false _ b)) starts in
                not_ready (IsAmong-right s.ready (paths_of (filter (may_run r s) s.entries)) p
                (paths_of-filter_to (may_run r s) s.entries p e at free)))
          ]
          | inr some ↦ inl (lacks_none-false r s.entries e some)
        ];
  }
    where
      not_ready-at : (p : List ℕ) (e : Entry) → entry_of s.entries p ≡ Some e → may_run r s e ≡ true →
          is_among s.ready p ≡ false
      not_ready-at p e at free =
          let P : List ℕ → Type 0 = λ x. is_among s.ready x ≡ false in
          subst P (entry_of-path s.entries p e at) (may_run-parts r s e free).3

  pub nothing-standing : AreStanding r request []
  nothing-standing = record {
    distinct = tt;
    targets = λ p m. absurd m;
    needed = λ p m. absurd m;
    closed = λ p q e at m. cc;
    decided = λ p e o at done. absurd (nowhere e at);
    under_way = λ p e at open'. absurd (nowhere e at);
  }

  -- nothing is out that was only entered
  fresh : (ps : List (List ℕ)) (p : List ℕ) (e : Entry) → entry_of (entered r [] ps) p ≡ Some e → e.is_out ≡ false
  fresh ps p e at = elim (entry_of-entered_cases r [] ps p e at) [
    | inl old ↦ absurd (nowhere e old)
    | inr new ↦ ap (λ (x : Entry). x.is_out) new.1 ∙ new-inside r p
  ]

  pub opening-sound : IsSound r request (opening r request)
  opening-sound =
      let targets : (q : List ℕ) → IsAmong (requested_targets r request) q → r.is_source q ≡ false = requested-target r lawful request in
      let needed : (q : List ℕ) → IsAmong (requested_targets r request) q → IsNeeded r request q = λ q m. (0, m) in
      enqueued-sound (record { entries = entered r [] (requested_targets r request); ready = [] })
      (entered-standing r lawful request [] nothing-standing (requested_targets r request) targets needed)
      (λ p m. paths-entered r lawful request [] nothing-standing (requested_targets r request) targets needed p (inr m))
      (record {
        ready_fed = λ p m. absurd m;
        out_fed = λ p e at out. absurd (both_ways _ (fresh (requested_targets r request) p e at) out);
        ready_distinct = tt;
        apart = λ p e m at. absurd m;
      })

  -- the entry of what is taken
  pub record IsTakeOf (s : State) (which : ℕ) : Type 0 where
    pub entry : Entry
    pub ready : slice_get s.ready which ≡ Some entry.path
    pub at : entry_of s.entries entry.path ≡ Some entry
    pub open_yet : entry.outcome ≡ None
    pub fed : (q : List ℕ) → IsAmong (operands r entry.deps) q → outcomes_of s.entries q ≡ None → ⊥
    pub is_in : entry.is_out ≡ false
    pub is : happens r s (Take which) ≡ taken s (Some entry) which
    pub place : taken_by s (Take which) ≡ (entry.path, entry.turn) ∷ []

  pub take-of : (s : State) → IsSound r request s → (which : ℕ) → which < length s.ready → IsTakeOf s which
  take-of s sound which below =
      let spot = slice_get-below s.ready which below in
      let among = place-among s.ready which spot.0 spot.1 in
      let fed = sound.queued.ready_fed spot.0 among in
      let path = entry_of-path s.entries spot.0 fed.0 fed.1 in
      let P : List ℕ → Type 0 = λ x. entry_of s.entries x ≡ Some fed.0 in
      let own : entry_of s.entries fed.0.path ≡ Some fed.0 = subst P (sym path) fed.1 in
      let ready : slice_get s.ready which ≡ Some fed.0.path = spot.1 ∙ ap Some (sym path) in
      let found : option_and_then (entry_of s.entries) (slice_get s.ready which) ≡ Some fed.0 =
      ap (option_and_then (entry_of s.entries)) ready ∙ own in
      record {
        entry = fed.0;
        ready = ready;
        at = own;
        open_yet = fed.2;
        fed = fed.3;
        is_in = sound.queued.apart spot.0 fed.0 among fed.1;
        is = ap (λ x. taken s x which) found;
        place = ap place_of found;
      }

  module _ (s : State) (sound : IsSound r request s) (which : ℕ) (of : IsTakeOf s which) where
    abbrev e : Entry
    e = of.entry

    take_among : IsAmong s.ready of.entry.path
    take_among = place-among s.ready which e.path of.ready

    take_lacks : (q : List ℕ) → outcomes_of (put s.entries (sent_out of.entry)) q ≡ outcomes_of s.entries q
    take_lacks = sent-outcomes r lawful request s.entries sound.standing e of.at of.open_yet

    take_begins : (x : Entry) (t : Bool) → r.begins x.path (known_to r s.entries x) ≡ t →
        r.begins x.path (known_to r (put s.entries (sent_out e)) x) ≡ t
    take_begins x t h =
        sym (lawful.begins_local x.path (known_to r s.entries x) (known_to r (put s.entries (sent_out e)) x)
        (λ q m. only-same (operands r x.deps) (outcomes_of s.entries) (outcomes_of (put s.entries (sent_out e)))
        (λ y n. sym (take_lacks y)) q)) ∙ h

    take_fed : (q : List ℕ) → IsFed r s.entries q → IsFed r (put s.entries (sent_out e)) q
    take_fed q fed = elim (put-from s.entries (sent_out e) e of.at q fed.0 fed.1) [
      | inl here ↦ (
        sent_out e,
        here.2,
        of.open_yet,
        λ x m none. of.fed x m (sym (take_lacks x) ∙ none),
        take_begins e true (let R : Entry → Type 0 = λ y. r.begins y.path (known_to r s.entries y) ≡ true in
            subst R here.0 fed.4),
      )
      | inr other ↦
          (fed.0, other.1, fed.2, λ x m none. fed.3 x m (sym (take_lacks x) ∙ none), take_begins fed.0 true fed.4)
    ]

    pub taken-sound : IsSound r request (taken s (Some of.entry) which)
    taken-sound = record {
      standing = sent-standing r lawful request s.entries sound.standing e of.at of.open_yet;
      requested = λ q m.
          let P : List (List ℕ) → Type 0 = λ xs. IsAmong xs q in
          subst P (sym (paths_of-put s.entries (sent_out e))) (sound.requested q m);
      queued = record {
        ready_fed = λ q m. take_fed q (sound.queued.ready_fed q (remove-from s.ready which q m));
        out_fed = λ q x h out. elim (put-cases s.entries (sent_out e) e of.at q x h) [
          | inl new ↦ take_fed q (sound.queued.ready_fed q (IsAmong-same s.ready e.path q new.0 take_among))
          | inr old ↦ take_fed q (sound.queued.out_fed q x old.1 out)
        ];
        ready_distinct = remove-distinct s.ready which sound.queued.ready_distinct;
        apart = λ q x m h. elim (put-cases s.entries (sent_out e) e of.at q x h) [
          | inl new ↦ absurd (remove-gone s.ready which e.path sound.queued.ready_distinct of.ready
              (IsAmong-same (remove s.ready which) q e.path (sym new.0) m))
          | inr old ↦ sound.queued.apart q x (remove-from s.ready which q m) old.1
        ];
      };
      others_wait = λ q x h open' not_ready not_out. elim (put-cases s.entries (sent_out e) e of.at q x h) [
        | inl new ↦ absurd (both_ways _ not_out (ap (λ (y : Entry). y.is_out) new.1))
        | inr old ↦
            let waits = sound.others_wait q x old.1 open'
            (λ m. elim (remove-cases s.ready which e.path q of.ready m) [
              | inl same ↦ old.0 same
              | inr rest ↦ not_ready rest
            ]) not_out in
            elim waits [
              | inl lack ↦ inl (lack.0, lack.1, take_lacks lack.0 ∙ lack.2)
              | inr due ↦ inr ((λ y m none. due.0 y m (sym (take_lacks y) ∙ none)), take_begins x false due.1)
            ]
      ];
    }

  module _ (phase : Phase) (s : State) (sound : IsSound r request s) (e : Entry)
      (at : entry_of s.entries e.path ≡ Some e)
      (out_is_fed : (e.outcome ≡ None) ×
      ((q : List ℕ) → IsAmong (operands r e.deps) q → outcomes_of s.entries q ≡ None → ⊥))
      (not_queued : IsAmong s.ready e.path → ⊥) (how : r.begins e.path (known_to r s.entries e) ≡ is_script phase) where
    new_targets : (q : List ℕ) → IsAmong (operands r (advanced r s.entries e).deps) q → r.is_source q ≡ false
    new_targets q m = operand-target r lawful (advanced r s.entries e).deps q m

    new_needed : (q : List ℕ) → IsAmong (operands r (advanced r s.entries e).deps) q → IsNeeded r request q
    new_needed q m =
        IsNeeded-asked r lawful request e.path q (decided_count s.entries)
        (sound.standing.needed e.path (entry_of-among s.entries e.path e at))
        ((lawful.each e.path).grows q (only (operands r e.deps) (outcomes_of s.entries)) (outcome_at r (decided_count s.entries))
        (only-Extends r (operands r e.deps) (outcomes_of s.entries) (outcome_at r (decided_count s.entries))
        (outcomes_of-deep r lawful request s.entries sound.standing)) m)

    wider : List Entry
    wider = entered r s.entries (operands r (advanced r s.entries e).deps)

    wider_standing : AreStanding r request wider
    unfolding wider
    wider_standing = entered-standing r lawful request s.entries sound.standing (operands r (advanced r s.entries e).deps) new_targets new_needed

    wider_more : Extends r (outcomes_of s.entries) (outcomes_of wider)
    unfolding wider
    wider_more = entered-outcomes r lawful request s.entries sound.standing (operands r (advanced r s.entries e).deps) new_targets new_needed

    wider_paths : (q : List ℕ) → IsAmong (paths_of s.entries) q ⊎ IsAmong (operands r (advanced r s.entries e).deps) q → IsAmong (paths_of wider) q
    unfolding wider
    wider_paths = paths-entered r lawful request s.entries sound.standing (operands r (advanced r s.entries e).deps) new_targets new_needed

    wider_entry : (q : List ℕ) (x : Entry) → entry_of s.entries q ≡ Some x → entry_of wider q ≡ Some x
    unfolding wider
    wider_entry q x h = entry_of-entered_old r s.entries (operands r (advanced r s.entries e).deps) q x h

    wider_fed : (q : List ℕ) → IsAmong (operands r e.deps) q → outcomes_of wider q ≡ None → ⊥
    wider_fed q m none = elim (cases_Option (outcomes_of s.entries q)) [
      | inl no_answer ↦ out_is_fed.1 q m no_answer
      | inr some ↦ let also = wider_more q some.0 (operand-target r lawful e.deps q m) some.1 in cc
    ]

    wider_how : r.begins e.path (known_to r wider e) ≡ is_script phase
    wider_how =
        sym (begins-more r lawful e.path e.deps (outcomes_of s.entries) (outcomes_of wider) wider_more out_is_fed.1)
        ∙ how

    -- among more entries it comes as far
    same_advance : advanced r wider e ≡ advanced r s.entries e
    same_advance = sym (progress-more r lawful e.path e.deps (outcomes_of s.entries) (outcomes_of wider) wider_more out_is_fed.1)

    moved : List Entry
    moved = put wider (moved_on phase e (advanced r s.entries e))

    moved_is : moved ≡ put wider (moved_on phase e (advanced r wider e))
    unfolding moved
    moved_is = ap (λ x. put wider (moved_on phase e x)) (sym same_advance)

    entered_all : (q : List ℕ) → IsAmong (operands r (advanced r wider e).deps) q → IsAmong (paths_of wider) q
    entered_all q m =
        let P : Progress → Type 0 = λ x. IsAmong (operands r x.deps) q in
        wider_paths q (inr (subst P same_advance m))

    moved_standing : AreStanding r request moved
    moved_standing =
        let P : List Entry → Type 0 = AreStanding r request in
        subst P (sym moved_is) (moved-standing r lawful request wider wider_standing phase e
        (wider_entry e.path e at) out_is_fed.0 wider_fed entered_all wider_how)

    moved_more : Extends r (outcomes_of wider) (outcomes_of moved)
    moved_more =
        let P : List Entry → Type 0 = λ es. Extends r (outcomes_of wider) (outcomes_of es) in
        subst P (sym moved_is) (moved-outcomes r lawful request wider wider_standing phase e
        (wider_entry e.path e at) out_is_fed.0 wider_fed entered_all wider_how)

    moved_fed : (q : List ℕ) → (e.path ≡ q → ⊥) → IsFed r s.entries q → IsFed r moved q
    unfolding moved
    moved_fed q other fed = (
      fed.0,
      entry_of-put_other wider (moved_on phase e (advanced r s.entries e)) q other ∙ wider_entry q fed.0 fed.1,
      fed.2,
      λ x m none. elim (cases_Option (outcomes_of s.entries x)) [
        | inl no_answer ↦ fed.3 x m no_answer
        | inr some ↦
            let target = operand-target r lawful fed.0.deps x m in
            let bad : None ≡ Some some.0 = sym none ∙ moved_more x some.0 target (wider_more x some.0 target some.1) in
            absurd (let both = bad in cc)
      ],
      lawful.begins_stays fed.0.path (known_to r s.entries fed.0) (known_to r moved fed.0)
          (only-more (operands r fed.0.deps) (outcomes_of s.entries) (outcomes_of moved)
          (λ x o t h. moved_more x o t (wider_more x o t h))) fed.4,
    )

    moved_cases : (q : List ℕ) (x : Entry) → entry_of moved q ≡ Some x → x.is_out ≡ true → (e.path ≡ q → ⊥) × (entry_of s.entries q ≡ Some x)
    unfolding moved wider
    moved_cases q x h is_out =
        elim (replaced-cases r s.entries (operands r (advanced r s.entries e).deps)
        (moved_on phase e (advanced r s.entries e)) e at q x h) [
          | inl here ↦ absurd (both_ways _ (ap (λ (y : Entry). y.is_out) here.1) is_out)
          | inr other ↦ elim other.1 [
            | inl old ↦ (other.0, old)
            | inr new ↦ absurd (both_ways _ (ap (λ (y : Entry). y.is_out) new ∙ new-inside r q) is_out)
          ]
        ]

    pub handed_in-sound : IsSound r request (handed_in r phase s (Some e))
    unfolding moved wider
    handed_in-sound = enqueued-sound
        (record { entries = moved; ready = s.ready })
        moved_standing
        (λ q m.
        let P : List (List ℕ) → Type 0 = λ xs. IsAmong xs q in
        subst P (sym (paths_of-put wider (moved_on phase e (advanced r s.entries e))))
        (wider_paths q (inl (sound.requested q m))))
        (record {
          ready_fed = λ q m. moved_fed q (λ same. not_ready q m same) (sound.queued.ready_fed q m);
          out_fed = λ q x h is_out. let old = moved_cases q x h is_out in moved_fed q old.0 (sound.queued.out_fed q x old.1 is_out);
          ready_distinct = sound.queued.ready_distinct;
          apart = λ q x m h. elim (cases_Bool x.is_out) [
            | inl is_out ↦ let old = moved_cases q x h is_out in sound.queued.apart q x m old.1
            | inr inside ↦ inside
          ];
        })
      where
        not_ready : (q : List ℕ) → IsAmong s.ready q → e.path ≡ q → ⊥
        not_ready q m same = not_queued (IsAmong-same s.ready q e.path (sym same) m)

  -- of an entry that is out, or whose check can go on
  pub out-parts : (s : State) → IsSound r request s → (p : List ℕ) (e : Entry) → entry_of s.entries p ≡ Some e →
      e.is_out ≡ true →
      ((e.outcome ≡ None) × ((q : List ℕ) → IsAmong (operands r e.deps) q → outcomes_of s.entries q ≡ None → ⊥)) ×
      (IsAmong s.ready p → ⊥) ×
      (r.begins e.path (known_to r s.entries e) ≡ true)
  out-parts s sound p e at out =
      let fed = sound.queued.out_fed p e at out in
      let same : fed.0 ≡ e = let both : Some fed.0 ≡ Some e = sym fed.1 ∙ at in cc in
      let P : Entry → Type 0 = λ x. (x.outcome ≡ None) ×
      ((q : List ℕ) → IsAmong (operands r x.deps) q → outcomes_of s.entries q ≡ None → ⊥) in
      let Q : Entry → Type 0 = λ x. r.begins x.path (known_to r s.entries x) ≡ true in
      (subst P same (fed.2, fed.3), (λ m. both_ways _ (sound.queued.apart p e m at) out), subst Q same fed.4)

  pub due-parts : (s : State) (p : List ℕ) (e : Entry) → entry_of s.entries p ≡ Some e → is_due r s e ≡ true →
      ((e.outcome ≡ None) × ((q : List ℕ) → IsAmong (operands r e.deps) q → outcomes_of s.entries q ≡ None → ⊥)) ×
      (IsAmong s.ready p → ⊥) ×
      (r.begins e.path (known_to r s.entries e) ≡ false)
  due-parts s p e at due =
      let both = and_parts (is_able_to_go_on r s e) _ due in
      let parts = is_able_to_go_on-parts r s e both.0 in (
        (parts.0, lacks_none-true r s.entries e parts.1),
        (λ m. both_ways _ parts.3
            (told-among s.ready e.path (IsAmong-same s.ready p e.path (sym (entry_of-path s.entries p e at)) m))),
        not-true _ both.1,
      )

  -- an entry whose check or script goes on
  pub record GoesOn (s : State) (event : Event) (phase : Phase) : Type 0 where
    pub entry : Entry
    pub at : entry_of s.entries entry.path ≡ Some entry
    pub parts : (entry.outcome ≡ None) ×
        ((q : List ℕ) → IsAmong (operands r entry.deps) q → outcomes_of s.entries q ≡ None → ⊥)
    pub apart : IsAmong s.ready entry.path → ⊥
    pub begins : r.begins entry.path (known_to r s.entries entry) ≡ is_script phase
    pub out : entry.is_out ≡ is_script phase
    pub is : happens r s event ≡ handed_in r phase s (Some entry)

  going : (s : State) (event : Event) (phase : Phase) (p : List ℕ) (e : Entry) → entry_of s.entries p ≡ Some e →
      ((e.outcome ≡ None) × ((q : List ℕ) → IsAmong (operands r e.deps) q → outcomes_of s.entries q ≡ None → ⊥)) ×
      (IsAmong s.ready p → ⊥) × (r.begins e.path (known_to r s.entries e) ≡ is_script phase) →
      e.is_out ≡ is_script phase → happens r s event ≡ handed_in r phase s (entry_of s.entries p) → GoesOn s event phase
  going s event phase p e at parts out is =
      let P : List ℕ → Type 0 = λ x. (entry_of s.entries x ≡ Some e) × (IsAmong s.ready x → ⊥) in
      let own = subst P (sym (entry_of-path s.entries p e at)) (at, parts.1) in
      record {
        entry = e;
        at = own.0;
        parts = parts.0;
        apart = own.1;
        begins = parts.2;
        out = out;
        is = is ∙ ap (handed_in r phase s) at;
      }

  pub hand-of : (s : State) → IsSound r request s → (target : List ℕ) (turn : ℕ) → IsOutAt s target turn →
      GoesOn s (Hand_in target turn) Script
  hand-of s sound target turn out = going s (Hand_in target turn) Script target out.entry out.at
      (out-parts s sound target out.entry out.at out.is_out) out.is_out refl

  pub look-of : (s : State) (target : List ℕ) → IsDueAt r s target → GoesOn s (Look target) Check
  look-of s target due = going s (Look target) Check target due.entry due.at (due-parts s target due.entry due.at due.due)
      (is_able_to_go_on-parts r s due.entry (and_parts (is_able_to_go_on r s due.entry) _ due.due).0).2 refl

  going-sound : (s : State) → IsSound r request s → (event : Event) (phase : Phase) → GoesOn s event phase →
      IsSound r request (happens r s event)
  going-sound s sound event phase of =
      let P : State → Type 0 = IsSound r request in
      subst P (sym of.is) (handed_in-sound phase s sound of.entry of.at of.parts of.apart of.begins)

  pub happens-sound : (s : State) (event : Event) → IsSound r request s → IsOpen r s event →
      IsSound r request (happens r s event)
  happens-sound s (Take which) sound open' =
      let of = take-of s sound which open' in
      let P : State → Type 0 = IsSound r request in
      subst P (sym of.is) (taken-sound s sound which of)
  happens-sound s (Hand_in target turn) sound open' =
      going-sound s sound (Hand_in target turn) Script (hand-of s sound target turn open')
  happens-sound s (Look target) sound open' = going-sound s sound (Look target) Check (look-of s target open')

  pub run-sound : (s : State) (events : List Event) → IsSound r request s → AllOpen r s events → IsSound r request (run r events s)
  run-sound s [] sound open' = sound
  run-sound s (event ∷ events) sound open' =
      run-sound (happens r s event) events (happens-sound s event sound open'.0) open'.1
