-- What holds of the entries of every state of the schedule, and that entering and deciding keep it.
use Rattle.std.proofs.Common.{◌≡◌, ℕ, zero, suc, ◌≤◌, max, false, cond, ◌⊎◌, inl, inr, List, [], Option, Some, None}
use Rattle.std.proofs.Common.{is_some, flat_map, refl, sym, ap, subst, ◌∙◌, arith, bytes_eq, ◌+◌, ◌<◌, true}
use Rattle.std.proofs.lemmas.Bool.{cases_Bool, cases_lt, both_ways}
use Rattle.std.proofs.lemmas.Slice.Eq.{bytes_eq-Decides}
use Rattle.redo_names.proofs.ListLemmas.{with_new-first, with_new-second, with_new-cases, with_new-distinct, flat_map-among, flat_map-from}
use Rattle.redo_record.specs.Paths.{IsAmong, AreDistinct, with_new}
use Rattle.redo_record.specs.Progress.{Progress}
use Rattle.redo_record.specs.declared.deps.Dep.{Dep}
use Rattle.redo_record.specs.declared.outcome.Outcome.{Outcome}
use Rattle.redo_build.specs.Rules.{Ask, Rules, AreLawful, Extends, operands}
use Rattle.redo_build.specs.Outcomes.{outcome_at, asked_at, reached_in}
use Rattle.redo_build.specs.Schedule.{Entry, paths_of, entry_of, outcome_of, outcomes_of, only, nothing_known}
use Rattle.redo_build.specs.Schedule.{new_entry, entered, put, sent_out, advanced, moved_on, known_to, Phase}
use Rattle.redo_build.specs.Schedule.Phase.{Check}
use Rattle.redo_build.specs.inside.Turns.{deps_at_turn, progress_at_turn, CameTo, begins_at}
use Rattle.redo_build.specs.inside.Standing.{decided_count, IsNeeded, IsDecidedAs, IsUnderWay, AreStanding, rounds}
use Rattle.redo_build.specs.inside.Standing.{is_script}
use Rattle.redo_build.proofs.DepthLemmas.{deeper, ended_stays, outcome_at-step, asked_at-grows, reached-once}
use Rattle.redo_build.proofs.DepthLemmas.{reached-more}
use Rattle.redo_build.proofs.SeenLemmas.{entry_of-path, outcomes_of-entry, outcomes_of-at, paths_of-put}
use Rattle.redo_build.proofs.SeenLemmas.{put-new, put-from, put-cases, entry_of-put_other, decided_count-put, decided_count-some}
use Rattle.redo_build.proofs.SeenLemmas.{decided_count-entered, new_entry-path, paths_of-entered, entry_of-entered_old}
use Rattle.redo_build.proofs.SeenLemmas.{entry_of-entered_cases, phase_cases}
use Rattle.redo_build.proofs.TurnLemmas.{only-Extends, CameTo-more, deps_at_turn-more, begins-before}
use Rattle.redo_build.proofs.TurnLemmas.{begun-later}

module _ (r : Rules) (lawful : AreLawful r) (request : List (List ℕ)) where
  -- rounds of asking at a greater depth reach no fewer paths
  reached-deeper : (n m k : ℕ) → n ≤ m → (p : List ℕ) → IsAmong (reached_in r request n k) p → IsAmong (reached_in r request m k) p
  reached-deeper n m zero h p here = here
  reached-deeper n m (suc k) h p here =
      elim (with_new-cases (reached_in r request n k) (flat_map (asked_at r n) (reached_in r request n k)) p here) [
        | inl old ↦ reached-once r lawful request m k p (reached-deeper n m k h p old)
        | inr new ↦
            let from = flat_map-from (asked_at r n) (reached_in r request n k) p new in
            with_new-second (reached_in r request m k) (flat_map (asked_at r m) (reached_in r request m k)) p
            (flat_map-among (asked_at r m) (reached_in r request m k) from.0 p
            (reached-deeper n m k h from.0 from.1) (asked_at-grows r lawful n m from.0 p h from.2))
      ]

  pub IsNeeded-asked : (p q : List ℕ) (n : ℕ) → IsNeeded r request p → IsAmong (asked_at r n p) q → IsNeeded r request q
  IsNeeded-asked p q n need asks =
      let depth = max need.0 n in
      let here = reached-more r lawful request depth need.0 depth p (omega arith)
      (reached-deeper need.0 depth need.0 (omega arith) p need.1) in
      let wider = reached-deeper depth (suc depth) depth (omega arith) q in (
        suc depth,
        with_new-second (reached_in r request (suc depth) depth) (flat_map (asked_at r (suc depth)) (reached_in r request (suc depth) depth)) q
            (flat_map-among (asked_at r (suc depth)) (reached_in r request (suc depth) depth) p q
            (reached-deeper depth (suc depth) depth (omega arith) p here)
            (asked_at-grows r lawful n (suc depth) p q (omega arith) asks)),
      )

  pub IsUnderWay-more : (es fs : List Entry) (e : Entry) → Extends r (outcomes_of es) (outcomes_of fs) → IsUnderWay r es e → IsUnderWay r fs e
  IsUnderWay-more es fs e more h = record {
    came = CameTo-more r lawful e.path (outcomes_of es) (outcomes_of fs) more (rounds e) h.came;
    is = h.is ∙ deps_at_turn-more r lawful e.path (outcomes_of es) (outcomes_of fs) more (rounds e) h.came;
    in_check = λ k below. sym (begins-before r lawful e.path (outcomes_of es) (outcomes_of fs) more (rounds e) h.came k
        (omega arith)) ∙ h.in_check k below;
    begun = λ later. sym (begins-before r lawful e.path (outcomes_of es) (outcomes_of fs) more (rounds e) h.came e.looks
        (omega arith)) ∙ h.begun later;
  }

  pub IsDecidedAs-more : (es fs : List Entry) (e : Entry) (o : Outcome) → decided_count es ≤ decided_count fs →
      Extends r (outcomes_of es) (outcomes_of fs) → IsDecidedAs r es e o → IsDecidedAs r fs e o
  IsDecidedAs-more es fs e o h more how =
      let ended : (r.progress e.path (outcomes_of es)).outcome ≡ Some o = ap (λ (x : Progress). x.outcome) how.3 in (
        how.0,
        omega (arith, how.1),
        how.2,
        sym (ended_stays r lawful e.path (outcomes_of es) (outcomes_of fs) o more ended) ∙ how.3,
      )

  module _ (es : List Entry) (standing : AreStanding r request es) where
    -- what is decided is the build's at the depth that is the number of those decided
    pub outcomes_of-deep : Extends r (outcomes_of es) (outcome_at r (decided_count es))
    outcomes_of-deep q o s h =
        let at = outcomes_of-entry es q o h in
        let how = standing.decided q at.0 o at.1 at.2 in
        let path = entry_of-path es q at.0 at.1 in
        let P : List ℕ → Type 0 = λ p. (r.progress p (outcome_at r how.0)).outcome ≡ Some o in
        let ended : (r.progress q (outcome_at r how.0)).outcome ≡ Some o = subst P path (ap (λ (x : Progress). x.outcome) how.2) in
        deeper r lawful (suc how.0) (decided_count es) how.1 q o s (outcome_at-step r lawful how.0 q s ∙ ended)

    module _ (ps : List (List ℕ)) (targets : (q : List ℕ) → IsAmong ps q → r.is_source q ≡ false)
        (needed : (q : List ℕ) → IsAmong ps q → IsNeeded r request q) where
      pub entered-outcomes : Extends r (outcomes_of es) (outcomes_of (entered r es ps))
      entered-outcomes q o s h =
          let at = outcomes_of-entry es q o h in
          outcomes_of-at (entered r es ps) q at.0 (entry_of-entered_old r es ps q at.0 at.1) ∙ at.2

      pub entered-paths : (p : List ℕ) → IsAmong (paths_of (entered r es ps)) p → IsAmong (paths_of es) p ⊎ IsAmong ps p
      entered-paths p m =
          let P : List (List ℕ) → Type 0 = λ xs. IsAmong xs p in
          with_new-cases (paths_of es) ps p (subst P (paths_of-entered r es ps) m)

      pub paths-entered : (p : List ℕ) → IsAmong (paths_of es) p ⊎ IsAmong ps p → IsAmong (paths_of (entered r es ps)) p
      paths-entered p m =
          let P : List (List ℕ) → Type 0 = λ xs. IsAmong xs p in
          let there : IsAmong (with_new (paths_of es) ps) p = elim m [
            | inl old ↦ with_new-first (paths_of es) ps p old
            | inr new ↦ with_new-second (paths_of es) ps p new
          ] in
          subst P (sym (paths_of-entered r es ps)) there

      new-decided : (p : List ℕ) (e : Entry) (o : Outcome) → entry_of (entered r es ps) p ≡ Some e → e ≡ new_entry r p →
          e.outcome ≡ Some o → IsDecidedAs r (entered r es ps) e o
      new-decided p e o at is done = elim (cases_Bool (r.has_rule p)) [
        | inl ruled ↦ absurd (
            let fresh : (new_entry r p).outcome ≡ None = rw ruled refl in
            let here = ap (λ (x : Entry). x.outcome) is in cc)
        | inr unruled ↦
            let path : e.path ≡ p = ap (λ (x : Entry). x.path) is ∙ new_entry-path r p in
            let deps : e.deps ≡ (r.progress p nothing_known).deps = ap (λ (x : Entry). x.deps) is ∙ rw unruled refl in
            let out : (r.progress p nothing_known).outcome ≡ Some o =
            sym (ap (λ (x : Entry). x.outcome) is ∙ rw unruled refl) ∙ done in
            let law = lawful.unruled p nothing_known unruled in
            let same : (a : Ask) → r.progress p nothing_known ≡ r.progress p a = λ a.
            (lawful.each p).local nothing_known a (λ q m. absurd (
            let P : List (List ℕ) → Type 0 = λ xs. IsAmong xs q in subst P law.0 m)) in
            let parts : r.progress p nothing_known ≡ record { outcome = Some o; deps = e.deps } =
            rebuilt (r.progress p nothing_known) o e.deps out (sym deps) in
            let P : Ask → List ℕ → Type 0 = λ a x. r.progress x a ≡ record { outcome = Some o; deps = e.deps } in
            let known : Ask = outcomes_of (entered r es ps) in (
              0,
              decided_count-some (entered r es ps) p e o at done,
              subst (P (outcome_at r 0)) (sym path) (sym (same (outcome_at r 0)) ∙ parts),
              subst (P known) (sym path) (sym (same known) ∙ parts),
            )
      ]
        where
          rebuilt : (x : Progress) (o' : Outcome) (ds : List Dep) → x.outcome ≡ Some o' → x.deps ≡ ds →
              x ≡ record { outcome = Some o'; deps = ds }
          rebuilt x o' ds a b = let P : Option Outcome → Type 0 = λ y. x ≡ record { outcome = y; deps = ds } in
              subst P a (let Q : List Dep → Type 0 = λ y. x ≡ record { outcome = x.outcome; deps = y } in subst Q b refl)

      new-closed : (p q : List ℕ) (e : Entry) → e ≡ new_entry r p → IsAmong (operands r e.deps) q → ⊥
      new-closed p q e is m =
          let P : List Dep → Type 0 = λ ds. IsAmong (operands r ds) q in
          elim (cases_Bool (r.has_rule p)) [
            | inl ruled ↦
                let deps : e.deps ≡ [] = ap (λ (x : Entry). x.deps) is ∙ rw ruled refl in
                subst P deps m
            | inr unruled ↦
                let deps : e.deps ≡ (r.progress p nothing_known).deps = ap (λ (x : Entry). x.deps) is ∙ rw unruled refl in
                let Q : List (List ℕ) → Type 0 = λ xs. IsAmong xs q in
                subst Q (lawful.unruled p nothing_known unruled).0 (subst P deps m)
          ]

      new-under_way : (p : List ℕ) (e : Entry) → e ≡ new_entry r p → e.outcome ≡ None → IsUnderWay r (entered r es ps) e
      new-under_way p e is open' = elim (cases_Bool (r.has_rule p)) [
        | inl ruled ↦
            let turn : rounds e ≡ 0 = ap (λ (x : Entry). rounds x) is ∙ rw ruled refl in
            let deps : e.deps ≡ [] = ap (λ (x : Entry). x.deps) is ∙ rw ruled refl in
            record {
              came = record {
                answered = λ k q below m none. absurd (omega arith);
                stopped = λ k below. absurd (omega arith);
              };
              is = deps ∙ (let P : ℕ → Type 0 = λ k. [] ≡ deps_at_turn r e.path (outcomes_of (entered r es ps)) k in subst P (sym turn) refl);
              in_check = λ k below. absurd (omega arith);
              begun = λ later. absurd (omega arith);
            }
        | inr unruled ↦ absurd (
            let out : (r.progress p nothing_known).outcome ≡ None =
            sym (ap (λ (x : Entry). x.outcome) is ∙ rw unruled refl) ∙ open' in
            (lawful.unruled p nothing_known unruled).1 out)
      ]

      pub entered-standing : AreStanding r request (entered r es ps)
      entered-standing = record {
        distinct =
            let P : List (List ℕ) → Type 0 = AreDistinct in
            subst P (sym (paths_of-entered r es ps)) (with_new-distinct (paths_of es) ps standing.distinct);
        targets = λ p m. elim (entered-paths p m) [ inl old ↦ standing.targets p old | inr new ↦ targets p new ];
        needed = λ p m. elim (entered-paths p m) [ inl old ↦ standing.needed p old | inr new ↦ needed p new ];
        closed = λ p q e at m. elim (entry_of-entered_cases r es ps p e at) [
          | inl old ↦ paths-entered q (inl (standing.closed p q e old m))
          | inr new ↦ absurd (new-closed p q e new.1 m)
        ];
        decided = λ p e o at done. elim (entry_of-entered_cases r es ps p e at) [
          | inl old ↦ IsDecidedAs-more es (entered r es ps) e o (decided_count-entered r es ps) entered-outcomes (standing.decided p e o old done)
          | inr new ↦ new-decided p e o at new.1 done
        ];
        under_way = λ p e at open'. elim (entry_of-entered_cases r es ps p e at) [
          | inl old ↦ IsUnderWay-more es (entered r es ps) e entered-outcomes (standing.under_way p e old open')
          | inr new ↦ new-under_way p e new.1 open'
        ];
      }

    -- an entry that isn't decided is replaced: every answer stays
    module _ (new old : Entry) (at : entry_of es new.path ≡ Some old) (open' : old.outcome ≡ None) where
      pub put-outcomes : Extends r (outcomes_of es) (outcomes_of (put es new))
      put-outcomes q o s h =
          let found = outcomes_of-entry es q o h in
          elim (put-from es new old at q found.0 found.1) [
            | inl here ↦ absurd (
                let bad : None ≡ Some o = sym open' ∙ ap (λ (x : Entry). x.outcome) (sym here.0) ∙ found.2 in cc)
            | inr other ↦ ap outcome_of other.1 ∙ found.2
          ]

      put-count : decided_count es ≤ decided_count (put es new)
      put-count = omega (arith, decided_count-put es new old at open')

      -- the others stand as they did
      pub put-standing : ((q : List ℕ) → IsAmong (operands r new.deps) q → IsAmong (paths_of es) q) →
          ((o : Outcome) → new.outcome ≡ Some o → IsDecidedAs r (put es new) new o) →
          (new.outcome ≡ None → IsUnderWay r (put es new) new) → AreStanding r request (put es new)
      put-standing asks is-decided is-under_way =
          let paths = paths_of-put es new in
          let There : List ℕ → List (List ℕ) → Type 0 = λ p xs. IsAmong xs p in
          record {
            distinct = let P : List (List ℕ) → Type 0 = AreDistinct in subst P (sym paths) standing.distinct;
            targets = λ p m. standing.targets p (subst (There p) paths m);
            needed = λ p m. standing.needed p (subst (There p) paths m);
            closed = λ p q x h m. subst (There q) (sym paths) (elim (put-cases es new old at p x h) [
              | inl here ↦ asks q (let P : Entry → Type 0 = λ y. IsAmong (operands r y.deps) q in subst P here.1 m)
              | inr other ↦ standing.closed p q x other.1 m
            ]);
            decided = λ p x o h done. elim (put-cases es new old at p x h) [
              | inl here ↦
                  let P : Entry → Type 0 = λ y. IsDecidedAs r (put es new) y o in
                  subst P (sym here.1) (is-decided o (sym (ap (λ (y : Entry). y.outcome) here.1) ∙ done))
              | inr other ↦
                  IsDecidedAs-more es (put es new) x o put-count put-outcomes (standing.decided p x o other.1 done)
            ];
            under_way = λ p x h still. elim (put-cases es new old at p x h) [
              | inl here ↦
                  let P : Entry → Type 0 = λ y. IsUnderWay r (put es new) y in
                  subst P (sym here.1) (is-under_way (sym (ap (λ (y : Entry). y.outcome) here.1) ∙ still))
              | inr other ↦ IsUnderWay-more es (put es new) x put-outcomes (standing.under_way p x other.1 still)
            ];
          }

    -- advancing one entry that has all that it asked for
    module _ (phase : Phase) (e : Entry) (at : entry_of es e.path ≡ Some e) (open' : e.outcome ≡ None)
        (fed : (q : List ℕ) → IsAmong (operands r e.deps) q → outcomes_of es q ≡ None → ⊥)
        (entered' : (q : List ℕ) → IsAmong (operands r (advanced r es e).deps) q → IsAmong (paths_of es) q)
        (how : r.begins e.path (known_to r es e) ≡ is_script phase) where
      pub moved-outcomes : Extends r (outcomes_of es) (outcomes_of (put es (moved_on phase e (advanced r es e))))
      moved-outcomes = put-outcomes (moved_on phase e (advanced r es e)) e at open'

      moved-decided : (o : Outcome) → (advanced r es e).outcome ≡ Some o →
          IsDecidedAs r (put es (moved_on phase e (advanced r es e))) (moved_on phase e (advanced r es e)) o
      moved-decided o done =
          let stays : advanced r es e ≡ r.progress e.path (outcome_at r (decided_count es)) =
          ended_stays r lawful e.path (only (operands r e.deps) (outcomes_of es)) (outcome_at r (decided_count es)) o
          (only-Extends r (operands r e.deps) (outcomes_of es) (outcome_at r (decided_count es)) outcomes_of-deep) done in
          let known : Ask = outcomes_of (put es (moved_on phase e (advanced r es e))) in
          let later : advanced r es e ≡ r.progress e.path known =
          ended_stays r lawful e.path (only (operands r e.deps) (outcomes_of es)) known o
          (only-Extends r (operands r e.deps) (outcomes_of es) known moved-outcomes) done in
          let P : Option Outcome → Type 0 = λ y. advanced r es e ≡ record { outcome = y; deps = (advanced r es e).deps } in
          let parts : advanced r es e ≡ record { outcome = Some o; deps = (advanced r es e).deps } = subst P done refl in (
            decided_count es,
            (let more = decided_count-put es (moved_on phase e (advanced r es e)) e at open' in
                let one : ◌≡◌ {A = ℕ} (cond (is_some (moved_on phase e (advanced r es e)).outcome) 1 0) 1 =
                rw done refl in
                omega (arith, more, one)),
            sym stays ∙ parts,
            sym later ∙ parts,
          )

      at-rounds : begins_at r e.path (outcomes_of es) (rounds e) ≡ is_script phase
      at-rounds =
          let before = standing.under_way e.path e at open' in
          let P : List Dep → Type 0 = λ ds. r.begins e.path (only (operands r ds) (outcomes_of es)) ≡ is_script phase in
          subst P before.is how

      -- only a script that isn't begun is looked at
      unbegun : phase ≡ Check → e.turn ≡ 0
      unbegun t = elim (cases_lt 0 e.turn) [
        | inl later ↦ absurd (
            let before = standing.under_way e.path e at open' in
            let begun = begun-later r lawful e.path (outcomes_of es) e.looks (rounds e) (omega arith) before.came
            (before.begun later) in
            let now : begins_at r e.path (outcomes_of es) (rounds e) ≡ false = at-rounds ∙ rw t refl in
            both_ways _ now begun)
        | inr none ↦ omega arith
      ]

      moved-looks : (advanced r es e).outcome ≡ None → (k : ℕ) → k < (moved_on phase e (advanced r es e)).looks →
          (k ≤ rounds e) × (begins_at r e.path (outcomes_of es) k ≡ false)
      moved-looks stopped k below =
          let before = standing.under_way e.path e at open' in
          elim (phase_cases phase) [
            | inl t ↦
                let more : (moved_on phase e (advanced r es e)).looks ≡ e.looks + 1 = rw (t, stopped) refl in
                let none = unbegun t in
                elim (cases_lt k e.looks) [
                  | inl earlier ↦ (omega arith, before.in_check k earlier)
                  | inr now ↦
                      let same : rounds e ≡ k = omega arith in
                      let P : ℕ → Type 0 = λ x. begins_at r e.path (outcomes_of es) x ≡ false in
                      (omega arith, subst P same (at-rounds ∙ rw t refl))
                ]
            | inr f ↦
                let still : (moved_on phase e (advanced r es e)).looks ≡ e.looks = rw f refl in
                let earlier : k < e.looks = omega arith in
                (omega arith, before.in_check k earlier)
          ]

      moved-begun : (advanced r es e).outcome ≡ None → 0 < (moved_on phase e (advanced r es e)).turn →
          ((moved_on phase e (advanced r es e)).looks ≤ rounds e) ×
          (begins_at r e.path (outcomes_of es) (moved_on phase e (advanced r es e)).looks ≡ true)
      moved-begun stopped later =
          let before = standing.under_way e.path e at open' in
          elim (phase_cases phase) [
            | inl t ↦ absurd (
                let same : (moved_on phase e (advanced r es e)).turn ≡ e.turn = rw t refl in
                let none = unbegun t in omega arith)
            | inr f ↦
                let still : (moved_on phase e (advanced r es e)).looks ≡ e.looks = rw f refl in
                let P : ℕ → Type 0 = λ x. begins_at r e.path (outcomes_of es) x ≡ true in (
                  omega arith,
                  subst P (sym still) (elim (cases_lt 0 e.turn) [
                    | inl earlier ↦ before.begun earlier
                    | inr now ↦ let same : rounds e ≡ e.looks = omega arith in subst P same (at-rounds ∙ rw f refl)
                  ]),
                )
          ]

      moved-under_way : (advanced r es e).outcome ≡ None →
          IsUnderWay r (put es (moved_on phase e (advanced r es e))) (moved_on phase e (advanced r es e))
      moved-under_way stopped =
          let before = standing.under_way e.path e at open' in
          let here : advanced r es e ≡ progress_at_turn r e.path (outcomes_of es) (rounds e) =
          (let P : List Dep → Type 0 = λ ds. advanced r es e ≡ r.progress e.path (only (operands r ds) (outcomes_of es)) in
          subst P before.is refl) in
          let came : CameTo r e.path (outcomes_of es) (suc (rounds e)) = record {
            answered = λ k q below m none. elim (cases_lt k (rounds e)) [
              | inl earlier ↦ before.came.answered k q earlier m none
              | inr now ↦
                  let same : k ≡ rounds e = omega arith in
                  let P : ℕ → Type 0 = λ j. IsAmong (operands r (deps_at_turn r e.path (outcomes_of es) j)) q in
                  let Q : List Dep → Type 0 = λ ds. IsAmong (operands r ds) q in
                  fed q (subst Q (sym before.is) (subst P same m)) none
            ];
            stopped = λ k below. elim (cases_lt k (rounds e)) [
              | inl earlier ↦ before.came.stopped k earlier
              | inr now ↦
                  let same : k ≡ rounds e = omega arith in
                  let P : ℕ → Type 0 = λ j. (progress_at_turn r e.path (outcomes_of es) j).outcome ≡ None in
                  subst P (sym same) (sym (ap (λ (x : Progress). x.outcome) here) ∙ stopped)
            ];
          } in
          let deps : (advanced r es e).deps ≡ deps_at_turn r e.path (outcomes_of es) (suc (rounds e)) =
          ap (λ (x : Progress). x.deps) here in
          let turn : rounds (moved_on phase e (advanced r es e)) ≡ suc (rounds e) = elim (phase_cases phase) [
            | inl t ↦ rw (t, stopped) (omega arith)
            | inr f ↦ rw (f, stopped) (omega arith)
          ] in
          let more =
          CameTo-more r lawful e.path (outcomes_of es) (outcomes_of (put es (moved_on phase e (advanced r es e))))
          moved-outcomes (suc (rounds e)) came in
          let deps' = deps ∙ deps_at_turn-more r lawful e.path (outcomes_of es)
          (outcomes_of (put es (moved_on phase e (advanced r es e)))) moved-outcomes (suc (rounds e)) came in
          let P : ℕ → Type 0 = λ k. CameTo r e.path (outcomes_of (put es (moved_on phase e (advanced r es e)))) k in
          let Q : ℕ → Type 0 = λ k. (advanced r es e).deps ≡ deps_at_turn r e.path
          (outcomes_of (put es (moved_on phase e (advanced r es e)))) k in
          let stays : (k : ℕ) → k ≤ rounds e →
          begins_at r e.path (outcomes_of es) k ≡ begins_at r e.path
          (outcomes_of (put es (moved_on phase e (advanced r es e)))) k =
          λ k h. begins-before r lawful e.path (outcomes_of es)
          (outcomes_of (put es (moved_on phase e (advanced r es e)))) moved-outcomes (suc (rounds e)) came k (omega arith) in
          record {
            came = subst P (sym turn) more;
            is = subst Q (sym turn) deps';
            in_check = λ k below. let was = moved-looks stopped k below in sym (stays k was.0) ∙ was.1;
            begun = λ later. let was =
                moved-begun stopped later in sym (stays (moved_on phase e (advanced r es e)).looks was.0) ∙ was.1;
          }

      pub moved-standing : AreStanding r request (put es (moved_on phase e (advanced r es e)))
      moved-standing = put-standing (moved_on phase e (advanced r es e)) e at open' entered' moved-decided moved-under_way

    -- sending out the job of an entry changes nothing of what is known
    module _ (e : Entry) (at : entry_of es e.path ≡ Some e) (open' : e.outcome ≡ None) where
      pub sent-outcomes : (q : List ℕ) → outcomes_of (put es (sent_out e)) q ≡ outcomes_of es q
      sent-outcomes q = elim (cases_Bool (bytes_eq e.path q)) [
        | inl t ↦
            let P : List ℕ → Type 0 = λ y. outcomes_of (put es (sent_out e)) y ≡ outcomes_of es y in
            subst P ((bytes_eq-Decides e.path q).0 t) (ap outcome_of (put-new es (sent_out e) e at) ∙ sym (ap outcome_of at))
        | inr f ↦
            ap outcome_of (entry_of-put_other es (sent_out e) q (λ same. both_ways _ f ((bytes_eq-Decides e.path q).1 same)))
      ]

      pub sent-standing : AreStanding r request (put es (sent_out e))
      sent-standing =
          let way = IsUnderWay-more es (put es (sent_out e)) e (put-outcomes (sent_out e) e at open')
          (standing.under_way e.path e at open') in
          put-standing (sent_out e) e at open' (λ q m. standing.closed e.path q e at m)
          (λ o done. absurd (let bad : None ≡ Some o = sym open' ∙ done in cc))
          (λ none. record { came = way.came; is = way.is; in_check = way.in_check; begun = way.begun })
