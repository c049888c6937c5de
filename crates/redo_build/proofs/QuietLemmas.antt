-- What a quiet board shows.
use Rattle.std.proofs.Common.{◌≡◌, ℕ, zero, suc, ◌<◌, ◌≤◌, max, false, inl, inr, List, [], ◌∷◌, length, filter, Some}
use Rattle.std.proofs.Common.{None, refl, sym, ap, subst, ◌∙◌, arith, bytes_eq, true, is_none}
use Rattle.std.proofs.lemmas.Bool.{cases_Bool, cases_lt, and_from, not_from_false, both_ways}
use Rattle.redo_names.proofs.ListLemmas.{within-length}
use Rattle.redo_names.proofs.PathLemmas.{among-told}
use Rattle.redo_record.specs.Paths.{is_among, IsAmong}
use Rattle.redo_record.specs.Progress.{Progress}
use Rattle.redo_record.specs.declared.deps.Dep.{Dep}
use Rattle.redo_record.specs.declared.outcome.Outcome.{Outcome}
use Rattle.redo_build.specs.Rules.{Ask, Rules, AreLawful, Extends, operands, asked_under}
use Rattle.redo_build.specs.Outcomes.{outcome_at, asked_at, needed_at, declared_of, record_of, IsTooMany}
use Rattle.redo_build.specs.Schedule.{Entry, State, paths_of, entry_of, outcome_of, outcomes_of, only, IsQuiet}
use Rattle.redo_build.specs.Schedule.{known_to, is_able_to_go_on, is_due, lacks_none}
use Rattle.redo_build.specs.Looking.{NoneDue}
use Rattle.redo_build.specs.Theorems.{IsPartOfBuild, ShowsBuild}
use Rattle.redo_build.specs.inside.Turns.{deps_at_turn, CameTo}
use Rattle.redo_build.specs.inside.Standing.{decided_count, rounds}
use Rattle.redo_build.proofs.DepthLemmas.{cases_Option, deeper, ended_stays, outcome_at-step, outcome_at-zero}
use Rattle.redo_build.proofs.DepthLemmas.{asked_at-grows, reached-within, reached-more, reached-distinct, settled}
use Rattle.redo_build.proofs.SeenLemmas.{entry_of-path, outcomes_of-entry, entry_of-among, among-entry_of, outcomes_of-at}
use Rattle.redo_build.proofs.SeenLemmas.{decided_count-length, length-paths}
use Rattle.redo_build.proofs.TurnLemmas.{only-Extends, only-among}
use Rattle.redo_build.proofs.DueLemmas.{none-due}
use Rattle.redo_build.proofs.SoundLemmas.{IsSound, lacks_none-from}

pub none-out : (es : List Entry) (p : List ℕ) (e : Entry) → entry_of es p ≡ Some e → length (filter (λ x. x.is_out) es) ≡ 0 → e.is_out ≡ false
none-out [] p e at none = cc
none-out (x ∷ es) p e at none = elim (cases_Bool x.is_out) [
  | inl out ↦ absurd (let some = rw out at none in omega arith)
  | inr inside ↦ elim (cases_Bool (bytes_eq x.path p)) [
    | inl t ↦ let same : x ≡ e = let now = rw t at at in cc in sym (ap (λ (y : Entry). y.is_out) same) ∙ inside
    | inr f ↦ none-out es p e (rw f at at) (rw inside at none)
  ]
]

module _ (r : Rules) (lawful : AreLawful r) (request : List (List ℕ)) where
  -- entries lie within every set that has the requested targets and what its members ask for
  module _ (s : State) (sound : IsSound r request s) (limit : ℕ) where
    settled-needed : length (needed_at r request limit) ≤ limit → (n : ℕ) (p : List ℕ) → IsAmong (needed_at r request n) p → IsAmong (needed_at r request limit) p
    settled-needed few n = reached-within r lawful request n n (IsAmong (needed_at r request limit))
        (λ p m. reached-more r lawful request limit 0 limit p (omega arith) m)
        (λ p q m asks. (settled r lawful request limit few).closed n p q m asks)

    pub entries-within : length (needed_at r request limit) ≤ limit → (p : List ℕ) → IsAmong (paths_of s.entries) p → IsAmong (needed_at r request limit) p
    entries-within few p m = let need = sound.standing.needed p m in settled-needed few need.0 p need.1

    -- there are too many entries only where too many targets are needed
    pub too_many : limit < length (paths_of s.entries) → IsTooMany r request limit
    too_many more = elim (cases_lt limit (length (needed_at r request limit))) [
      | inl many ↦ many
      | inr few ↦ absurd (omega (
        arith,
        within-length (paths_of s.entries) (needed_at r request limit) sound.standing.distinct (entries-within few),
        few,
      ))
    ]

    decided-progress : (p : List ℕ) (e : Entry) (o : Outcome) → entry_of s.entries p ≡ Some e → e.outcome ≡ Some o →
        (n : ℕ) × (n < decided_count s.entries) × (r.progress p (outcome_at r n) ≡ record { outcome = Some o; deps = e.deps })
    decided-progress p e o at done =
        let how = sound.standing.decided p e o at done in
        let P : List ℕ → Type 0 = λ x. r.progress x (outcome_at r how.0) ≡ record { outcome = Some o; deps = e.deps } in
        (how.0, how.1, subst P (entry_of-path s.entries p e at) how.2)

    entry-target : (p : List ℕ) (e : Entry) → entry_of s.entries p ≡ Some e → r.is_source p ≡ false
    entry-target p e at = sound.standing.targets p (entry_of-among s.entries p e at)

    -- at each depth from there on the decided target is where it is
    decided-at : (p : List ℕ) (e : Entry) (o : Outcome) → entry_of s.entries p ≡ Some e → e.outcome ≡ Some o →
        (m : ℕ) → decided_count s.entries ≤ m → (outcome_at r m p ≡ Some o) × (r.progress p (outcome_at r m) ≡ record { outcome = Some o; deps = e.deps })
    decided-at p e o at done m deep =
        let how = decided-progress p e o at done in
        let ended : (r.progress p (outcome_at r how.0)).outcome ≡ Some o = ap (λ (x : Progress). x.outcome) how.2 in
        let once = outcome_at-step r lawful how.0 p (entry-target p e at) ∙ ended in (
          deeper r lawful (suc how.0) m (omega (arith, how.1)) p o (entry-target p e at) once,
          sym (ended_stays r lawful p (outcome_at r how.0) (outcome_at r m) o (deeper r lawful how.0 m (omega (arith, how.1))) ended) ∙ how.2,
        )

    pub decided-somewhere : (p : List ℕ) (e : Entry) (o : Outcome) → entry_of s.entries p ≡ Some e → e.outcome ≡ Some o →
        (n : ℕ) × (outcome_at r n p ≡ Some o)
    decided-somewhere p e o at done = (decided_count s.entries, (decided-at p e o at done (decided_count s.entries) (omega arith)).0)

    pub decided-declared : length s.entries ≤ limit → (p : List ℕ) (e : Entry) (o : Outcome) → entry_of s.entries p ≡ Some e → e.outcome ≡ Some o →
        (outcome_at r limit p ≡ Some o) × (e.deps ≡ declared_of r limit p)
    decided-declared few p e o at done =
        let here = decided-at p e o at done limit (omega (arith, decided_count-length s.entries, length-paths s.entries)) in
        (here.0, sym (ap (λ (x : Progress). x.deps) here.1))

    -- what a decided target asked for is decided
    operands-decided : (p : List ℕ) (e : Entry) (o : Outcome) → entry_of s.entries p ≡ Some e → e.outcome ≡ Some o →
        (q : List ℕ) → IsAmong (asked_under r p (outcomes_of s.entries)) q → (v : Outcome) × (outcomes_of s.entries q ≡ Some v)
    operands-decided p e o at done q asks =
        let how = sound.standing.decided p e o at done in
        let P : List ℕ → Type 0 = λ x. r.progress x (outcomes_of s.entries) ≡ record { outcome = Some o; deps = e.deps } in
        let here : P p = subst P (entry_of-path s.entries p e at) how.3 in
        elim (cases_Option (outcomes_of s.entries q)) [
          | inl none ↦ absurd ((lawful.each p).answered q (outcomes_of s.entries) o (ap (λ (x : Progress). x.outcome) here) asks none)
          | inr some ↦ some
        ]

    decided-recorded : length s.entries ≤ limit → (p : List ℕ) (e : Entry) (o : Outcome) → entry_of s.entries p ≡ Some e → e.outcome ≡ Some o →
        r.recorded p (outcomes_of s.entries) ≡ record_of r limit p
    decided-recorded few p e o at done = lawful.recorded_local p (outcomes_of s.entries) (outcome_at r limit) (λ q asks.
        let known = operands-decided p e o at done q asks in
        let there = outcomes_of-entry s.entries q known.0 known.1 in
        known.1 ∙ sym (decided-declared few q there.0 known.0 there.1 there.2).0)

    pub is_part : IsPartOfBuild r request limit s
    is_part = record {
      decided = decided-somewhere;
      declared = decided-declared;
      recorded = decided-recorded;
      needed = sound.standing.needed;
      too_many = λ many. too_many (omega (arith, length-paths s.entries, many));
    }

    -- a script that lacks an answer stays where it is under all that is decided
    lacking-stays : (p : List ℕ) (ds : List Dep) (turn : ℕ) → CameTo r p (outcomes_of s.entries) turn →
        ds ≡ deps_at_turn r p (outcomes_of s.entries) turn →
        (q : List ℕ) → IsAmong (operands r ds) q → outcomes_of s.entries q ≡ None →
        ((r.progress p (outcomes_of s.entries)).deps ≡ ds) × ((r.progress p (outcomes_of s.entries)).outcome ≡ None)
    lacking-stays p ds zero came is q m none = absurd (let P : List Dep → Type 0 = λ x. IsAmong (operands r x) q in subst P is m)
    lacking-stays p ds (suc k) came is q m none =
        let before : Ask = only (operands r (deps_at_turn r p (outcomes_of s.entries) k)) (outcomes_of s.entries) in
        let more : Extends r before (outcomes_of s.entries) =
        only-Extends r (operands r (deps_at_turn r p (outcomes_of s.entries) k)) (outcomes_of s.entries) (outcomes_of s.entries) (λ x o t h. h) in
        let P : List Dep → Type 0 = λ x. IsAmong (operands r x) q in
        let asked : IsAmong (asked_under r p before) q = subst P is m in
        let same : r.progress p (outcomes_of s.entries) ≡ r.progress p before = (lawful.each p).waits q before (outcomes_of s.entries) more asked none in (
          ap (λ (x : Progress). x.deps) same ∙ sym is,
          ap (λ (x : Progress). x.outcome) same ∙ came.stopped k (omega arith),
        )

    module _ (quiet : IsQuiet s) (looked : NoneDue r s) where
      -- no entry waits in its check with all its answers there
      pub never-due : (p : List ℕ) (e : Entry) → entry_of s.entries p ≡ Some e → e.outcome ≡ None → e.is_out ≡ false →
          ((q : List ℕ) → IsAmong (operands r e.deps) q → outcomes_of s.entries q ≡ None → ⊥) →
          r.begins e.path (known_to r s.entries e) ≡ false → ⊥
      never-due p e at open' inside fed in_check =
          let a : is_none e.outcome ≡ true = rw open' refl in
          let b : lacks_none r s.entries e ≡ true = lacks_none-from r s.entries e fed in
          let c : is_among s.ready e.path ≡ false =
          (let P : List (List ℕ) → Type 0 = λ xs. is_among xs e.path ≡ false in subst P (sym quiet.0) refl) in
          let go : is_able_to_go_on r s e ≡ true =
          and_from _ _ (and_from _ _ (and_from _ _ a b) (not_from_false _ inside)) (not_from_false _ c) in
          let due : is_due r s e ≡ true = and_from _ _ go (not_from_false _ in_check) in
          both_ways _ (none-due r s looked p e at) due

      waiting-stays : (p : List ℕ) (e : Entry) → entry_of s.entries p ≡ Some e → e.outcome ≡ None →
          ((r.progress p (outcomes_of s.entries)).deps ≡ e.deps) × ((r.progress p (outcomes_of s.entries)).outcome ≡ None)
      waiting-stays p e at open' =
          let Gone : List (List ℕ) → Type 0 = λ xs. IsAmong xs p → ⊥ in
          let inside = none-out s.entries p e at quiet.1 in
          let lacks : (q : List ℕ) × IsAmong (operands r e.deps) q × (outcomes_of s.entries q ≡ None) =
          elim (sound.others_wait p e at open' (subst Gone (sym quiet.0) (λ m. m)) inside) [
            | inl lack ↦ lack
            | inr due ↦ absurd (never-due p e at open' inside due.0 due.1)
          ] in
          let way = sound.standing.under_way p e at open' in
          let Way : List ℕ → Type 0 = λ x. CameTo r x (outcomes_of s.entries) (rounds e) ×
          (e.deps ≡ deps_at_turn r x (outcomes_of s.entries) (rounds e)) in
          let here : Way p = subst Way (entry_of-path s.entries p e at) (way.came, way.is) in
          lacking-stays p e.deps (rounds e) here.0 here.1 lacks.0 lacks.1 lacks.2

      -- the outcomes at a depth, on the entries alone
      on_entries : ℕ → Ask
      on_entries n = only (paths_of s.entries) (outcome_at r n)

      -- where outcomes at a depth are among those decided, each entry comes as far as among the entries alone
      same-on_entries : (n : ℕ) → ((p : List ℕ) (o : Outcome) → IsAmong (paths_of s.entries) p → outcome_at r n p ≡ Some o → outcomes_of s.entries p ≡ Some o) →
          (p : List ℕ) (e : Entry) → entry_of s.entries p ≡ Some e → e.outcome ≡ None →
          Extends r (on_entries n) (outcomes_of s.entries) × (r.progress p (on_entries n) ≡ r.progress p (outcome_at r n)) ×
          ((q : List ℕ) → IsAmong (asked_under r p (on_entries n)) q → IsAmong (paths_of s.entries) q)
      unfolding on_entries
      same-on_entries n less p e at open' =
          let more : Extends r (on_entries n) (outcomes_of s.entries) = λ q o t h.
          elim (cases_Bool (is_among (paths_of s.entries) q)) [
            | inl in' ↦ less q o (among-told (paths_of s.entries) q in') (rw in' at h)
            | inr out ↦ absurd (let now = rw out at h in cc)
          ] in
          let inside : (q : List ℕ) → IsAmong (asked_under r p (on_entries n)) q → IsAmong (paths_of s.entries) q = λ q m.
          let wide = (lawful.each p).grows q (on_entries n) (outcomes_of s.entries) more m in
          let P : List Dep → Type 0 = λ x. IsAmong (operands r x) q in
          sound.standing.closed p q e at (subst P (waiting-stays p e at open').0 wide) in (
            more,
            (lawful.each p).local (on_entries n) (outcome_at r n) (λ q m. only-among (paths_of s.entries) (outcome_at r n) q (inside q m)),
            inside,
          )

      -- no outcome is known at any depth that isn't decided
      pub none-beyond : (n : ℕ) (p : List ℕ) (o : Outcome) → IsAmong (paths_of s.entries) p → outcome_at r n p ≡ Some o → outcomes_of s.entries p ≡ Some o
      none-beyond zero p o m h = absurd (let none = outcome_at-zero r lawful p (sound.standing.targets p m) in cc)
      none-beyond (suc n) p o m h =
          let at = among-entry_of s.entries p m in
          elim (cases_Option at.0.outcome) [
            | inl open' ↦ absurd (
                let same = same-on_entries n (none-beyond n) p at.0 at.1 open' in
                let ended : (r.progress p (on_entries n)).outcome ≡ Some o =
                ap (λ (x : Progress). x.outcome) same.1 ∙ sym (outcome_at-step r lawful n p (sound.standing.targets p m)) ∙ h in
                let stays = ended_stays r lawful p (on_entries n) (outcomes_of s.entries) o same.0 ended in
                let none = (waiting-stays p at.0 at.1 open').1 in
                let some = ap (λ (x : Progress). x.outcome) (sym stays) ∙ ended in cc)
            | inr done ↦
                let deep = max (suc n) (decided_count s.entries) in
                let target = sound.standing.targets p m in
                let there = (decided-at p at.0 done.0 at.1 done.1 deep (omega arith)).0 in
                let also = deeper r lawful (suc n) deep (omega arith) p o target h in
                let same : Some done.0 ≡ Some o = sym there ∙ also in
                outcomes_of-at s.entries p at.0 at.1 ∙ done.1 ∙ same
          ]

      -- the entries ask for nothing but entries, at any depth
      pub asks-inside : (n : ℕ) (p q : List ℕ) → IsAmong (paths_of s.entries) p → IsAmong (asked_at r n p) q → IsAmong (paths_of s.entries) q
      asks-inside n p q m asks =
          let at = among-entry_of s.entries p m in
          let P : Progress → Type 0 = λ x. IsAmong (operands r x.deps) q in
          elim (cases_Option at.0.outcome) [
            | inl open' ↦
                let same = same-on_entries n (λ x o. none-beyond n x o) p at.0 at.1 open' in
                same.2 q (subst P (sym same.1) asks)
            | inr done ↦
                let deep = max n (decided_count s.entries) in
                let there = (decided-at p at.0 done.0 at.1 done.1 deep (omega arith)).1 in
                sound.standing.closed p q at.0 at.1 (subst P there (asked_at-grows r lawful n deep p q (omega arith) asks))
          ]

      pub needed-inside : (n : ℕ) (p : List ℕ) → IsAmong (needed_at r request n) p → IsAmong (paths_of s.entries) p
      needed-inside n = reached-within r lawful request n n (IsAmong (paths_of s.entries)) sound.requested (λ p q m asks. asks-inside n p q m asks)

      module _ (few : length s.entries ≤ limit) where
        needed-few : length (needed_at r request limit) ≤ limit
        needed-few = omega (
          arith,
          few,
          length-paths s.entries,
          within-length (needed_at r request limit) (paths_of s.entries) (reached-distinct r lawful request limit limit) (needed-inside limit),
        )

        outcomes-same : (p : List ℕ) → IsAmong (paths_of s.entries) p → outcomes_of s.entries p ≡ outcome_at r limit p
        outcomes-same p m =
            let at = among-entry_of s.entries p m in
            elim (cases_Option (outcomes_of s.entries p)) [
              | inl open' ↦ elim (cases_Option (outcome_at r limit p)) [
                | inl none ↦ open' ∙ sym none
                | inr some ↦ none-beyond limit p some.0 m some.1 ∙ sym some.1
              ]
              | inr done ↦
                  let out : at.0.outcome ≡ Some done.0 = sym (outcomes_of-at s.entries p at.0 at.1) ∙ done.1 in
                  done.1 ∙ sym (decided-declared few p at.0 done.0 at.1 out).0
            ]

        declared-same : (p : List ℕ) (e : Entry) → entry_of s.entries p ≡ Some e → e.deps ≡ declared_of r limit p
        unfolding on_entries
        declared-same p e at = elim (cases_Option e.outcome) [
          | inl open' ↦
              let same = same-on_entries limit (none-beyond limit) p e at open' in
              let alike = (lawful.each p).local (on_entries limit) (outcomes_of s.entries) (λ q m.
              let here = same.2 q m in
              only-same q here ∙ sym (outcomes-same q here)) in
              sym (waiting-stays p e at open').0 ∙ ap (λ (x : Progress). x.deps) (sym alike ∙ same.1)
          | inr done ↦ (decided-declared few p e done.0 at done.1).1
        ]
          where
            only-same : (q : List ℕ) → IsAmong (paths_of s.entries) q → on_entries limit q ≡ outcome_at r limit q
            only-same q m = only-among (paths_of s.entries) (outcome_at r limit) q m

        -- each is told the same as in the build of what it asks for
        asked-same : (p : List ℕ) → IsAmong (paths_of s.entries) p → (q : List ℕ) → IsAmong (asked_under r p (outcomes_of s.entries)) q →
            outcomes_of s.entries q ≡ outcome_at r limit q
        asked-same p m q asks =
            let more : Extends r (outcomes_of s.entries) (outcome_at r limit) = λ x o t h. elim (cases_Option (entry_of s.entries x)) [
              | inl none ↦ absurd (let bad : None ≡ Some o = sym (ap outcome_of none) ∙ h in cc)
              | inr some ↦ sym (outcomes-same x (entry_of-among s.entries x some.0 some.1)) ∙ h
            ] in
            outcomes-same q (asks-inside limit p q m ((lawful.each p).grows q (outcomes_of s.entries) (outcome_at r limit) more asks))

        pub shows : ShowsBuild r request limit s
        shows = record {
          members = λ p. (entries-within needed-few p, needed-inside limit p);
          within = needed-few;
          outcomes = outcomes-same;
          declared = declared-same;
          records = λ p m. lawful.recorded_local p (outcomes_of s.entries) (outcome_at r limit) (asked-same p m);
          begun = λ p m. lawful.begins_local p (outcomes_of s.entries) (outcome_at r limit) (asked-same p m);
        }
