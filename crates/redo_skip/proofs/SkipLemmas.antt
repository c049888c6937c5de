-- A build with a book of true records comes to what the build without it comes to.
use Rattle.std.proofs.Common.{◌≡◌, ℕ, zero, suc, ◌≤◌, true, false, inl, inr, List, length, Option, Some, None}
use Rattle.std.proofs.Common.{refl, sym, ap}
use Rattle.std.proofs.Common.{subst, ◌∙◌, arith}
use Rattle.std.proofs.lemmas.Bool.{cases_Bool}
use Rattle.redo_names.proofs.ListLemmas.{within-length}
use Rattle.redo_names.proofs.PathLemmas.{among-told}
use Rattle.redo_record.specs.declared.outcome.Outcome.{Outcome}
use Rattle.redo_record.specs.declared.outcome.Outcome.TheVariants.{Built}
use Rattle.redo_record.specs.Progress.{Progress}
use Rattle.redo_record.specs.Paths.{IsAmong, is_among}
use Rattle.redo_build.specs.Rules.{Ask, Rules, AreLawful, Extends, asked_under, operands}
use Rattle.redo_build.specs.Outcomes.{outcome_at, needed_at, IsSettled}
use Rattle.redo_build.specs.Schedule.{only}
use Rattle.redo_build.proofs.DepthLemmas.{cases_Option, ended_stays, deeper, outcome_at-step, outcome_at-zero}
use Rattle.redo_build.proofs.DepthLemmas.{reached-target}
use Rattle.redo_build.proofs.DepthLemmas.{reached-within, reached-more, reached-distinct, settled}
use Rattle.redo_build.proofs.TurnLemmas.{only-among}
use Rattle.redo_skip.specs.Sources.{Sources, without_book}
use Rattle.redo_skip.specs.Checks.{Standing, stands, falls, finding, Check, Checks, built}
use Rattle.redo_skip.specs.Checks.{progress_checked}
use Rattle.redo_skip.specs.Checks.{record_checked, with_book, AreChecks}
use Rattle.redo_skip.specs.Truth.{shown_all, IsHonest, AreHonest, IsSkipping, NoneCyclic}
use Rattle.redo_skip.proofs.CheckLemmas.{begins_checked, is_fallen, cases_Standing, finding-target, finding-lacks}
use Rattle.redo_skip.proofs.CheckLemmas.{same-both}
use Rattle.redo_skip.proofs.AskedLemmas.{asked-cases, asked-check, asked-script, progress-ended, progress-falls}
use Rattle.redo_skip.proofs.AskedLemmas.{progress-stands}
use Rattle.redo_skip.proofs.LawfulLemmas.{with_book-lawful}
use Rattle.redo_skip.proofs.AgreeLemmas.{finding-seen, finding-all, check-asked, check-kept}

only-known : (ps : List (List ℕ)) (a : Ask) (q : List ℕ) (o : Outcome) → only ps a q ≡ Some o →
    IsAmong ps q × (a q ≡ Some o)
only-known ps a q o e = elim (cases_Bool (is_among ps q)) [
  | inl t ↦ (among-told ps q t, rw t at e)
  | inr f ↦ absurd (let bad : None ≡ Some o = rw f at e in cc)
]

is_fallen-begun : (v : Standing) → v ≡ falls → is_fallen v ≡ false → ⊥
is_fallen-begun v f e = let bad : is_fallen falls ≡ false = ap is_fallen (sym f) ∙ e in cc

-- A target whose check meets only answers of the end

-- all that the target asks for in the end is answered as in the end
record IsFull (s : Sources) (p : List ℕ) (final a : Ask) : Type 0 where
  sound : (q : List ℕ) (o : Outcome) → IsAmong (asked_under (without_book s) p final) q → a q ≡ Some o →
      final q ≡ Some o
  full : (q : List ℕ) → IsAmong (asked_under (without_book s) p final) q → a q ≡ None → ⊥

module _ (s : Sources) (lawful : AreLawful (without_book s)) (p : List ℕ) (final a : Ask)
    (is : IsFull s p final a) where
  -- it asks for the path in the end of the build without the book
  abbrev IsAsked : List ℕ → Type 0
  IsAsked q = IsAmong (asked_under (without_book s) p final) q

  abbrev are_operands : Progress → List (List ℕ)
  are_operands now = operands (without_book s) now.deps

  script-same : s.progress p final ≡ s.progress p a
  script-same = (lawful.each p).local final a (λ q m. elim (cases_Option (a q)) [
    | inl none ↦ absurd (is.full q m none)
    | inr some ↦ is.sound q some.0 m some.1 ∙ sym some.1
  ])

  script-asks : (q : List ℕ) → IsAsked q →
      IsAmong (asked_under (without_book s) p a) q
  script-asks q m = let P : Progress → Type 0 = λ x. IsAmong (are_operands x) q in subst P script-same m

  script-asked : (q : List ℕ) → IsAmong (asked_under (without_book s) p a) q →
      IsAsked q
  script-asked q m = let P : Progress → Type 0 = λ x. IsAmong (are_operands x) q in subst P (sym script-same) m

  -- with or without the book it comes to the same; where it isn't begun, it is in check and keeps its file
  record IsSame (o : Option Check) : Type 0 where
    outcome : (progress_checked s p o a).outcome ≡ (s.progress p final).outcome
    deps : record_checked s p o a ≡ (s.progress p final).deps
    asked : (q : List ℕ) → IsAmong (are_operands (progress_checked s p o a)) q → IsAsked q
    asks : (q : List ℕ) → IsAsked q →
        IsAmong (are_operands (progress_checked s p o a)) q
    kept : begins_checked s o a ≡ false →
        (c : Check) × (o ≡ Some c) × ((s.progress p final).outcome ≡ Some (Built c.file))

  unchecked-same : IsSame None
  unchecked-same = record {
    outcome = ap (λ (x : Progress). x.outcome) (sym script-same);
    deps = ap (λ (x : Progress). x.deps) (sym script-same);
    asked = script-asked;
    asks = script-asks;
    kept = λ e. absurd cc;
  }

  module _ (c : Check) (ruled : s.has_rule p ≡ true) (honest : IsHonest s p c final) where
    in_check : (q : List ℕ) → IsAmong (finding s a c.entries).asked q → IsAsked q
    in_check q m = check-asked s p c final a ruled honest is.sound q m

    asked-of : (q : List ℕ) → IsAmong (are_operands (progress_checked s p (Some c) a)) q →
        IsAsked q
    asked-of q m = elim (asked-cases s.is_source c.file (finding s a c.entries) (s.progress p a) q m) [
      | inl first ↦ in_check q first
      | inr own ↦ script-asked q own.1
    ]

    kept-same : (finding s a c.entries).standing ≡ stands → IsSame (Some c)
    kept-same t =
        let kept : s.progress p final ≡ built c.file (shown_all c.entries) =
        check-kept s p c final a ruled honest is.sound t in
        record {
          outcome = progress-stands c.file (finding s a c.entries) (s.progress p a) t
              ∙ ap (λ (x : Progress). x.outcome) (sym kept);
          deps = rw t (finding-seen s c.entries a t ∙ ap (λ (x : Progress). x.deps) (sym kept));
          asked = asked-of;
          asks = λ q m.
              let P : Progress → Type 0 = λ x. IsAmong (are_operands x) q in
              let all = finding-all s c.entries a q t (subst P kept m) in
              asked-check s.is_source c.file (finding s a c.entries) (s.progress p a) q
              (finding-target s c.entries a q all) all;
          kept = λ _. (c, refl, ap (λ (x : Progress). x.outcome) kept);
        }

    begun-same : (finding s a c.entries).standing ≡ falls → IsSame (Some c)
    begun-same f = record {
      outcome = progress-falls c.file (finding s a c.entries) (s.progress p a) f
          ∙ ap (λ (x : Progress). x.outcome) (sym script-same);
      deps = rw f (ap (λ (x : Progress). x.deps) (sym script-same));
      asked = asked-of;
      asks = λ q m. asked-script s.is_source c.file (finding s a c.entries) (s.progress p a) q f (script-asks q m);
      kept = λ e. absurd (is_fallen-begun (finding s a c.entries).standing f e);
    }

    checked-same : IsSame (Some c)
    checked-same = elim (cases_Standing (finding s a c.entries).standing) [
      | inl t ↦ kept-same t
      | inr other ↦ elim other [
        | inl l ↦ absurd (
            let found = finding-lacks s c.entries a l in
            is.full found.0 (in_check found.0 found.1) found.2)
        | inr f ↦ begun-same f
      ]
    ]

  same-by : (o : Option Check) → ((c : Check) → o ≡ Some c → (s.has_rule p ≡ true) × IsHonest s p c final) → IsSame o
  same-by None h = unchecked-same
  same-by (Some c) h = let this = h c refl in checked-same c this.0 this.1

module _ (s : Sources) (k : Checks) (lawful : AreLawful (without_book s)) (are : AreChecks s k)
    (request : List (List ℕ)) (limit : ℕ) (few : length (needed_at (without_book s) request limit) ≤ limit)
    (honest : AreHonest s k (outcome_at (without_book s) limit)) where
  abbrev plain : Rules
  plain = without_book s

  abbrev booked : Rules
  booked = with_book s k

  abbrev final : Ask
  final = outcome_at plain limit

  abbrev IsNeeded : List ℕ → Type 0
  IsNeeded p = IsAmong (needed_at plain request limit) p

  -- its answers on needed targets are those of the end
  abbrev IsSound : Ask → Type 0
  IsSound a = (q : List ℕ) (o : Outcome) → IsNeeded q → a q ≡ Some o → final q ≡ Some o

  with-lawful : AreLawful booked
  with-lawful = with_book-lawful s k lawful are

  still : IsSettled plain request limit
  still = settled plain lawful request limit few

  target : (p : List ℕ) → IsNeeded p → s.is_source p ≡ false
  target p m = reached-target plain lawful request limit limit p m

  final-step : (p : List ℕ) → IsNeeded p → (s.progress p final).outcome ≡ final p
  final-step p m = sym (outcome_at-step plain lawful limit p (target p m)) ∙ still.same (suc limit) p (omega arith) m

  needed-asks : (p q : List ℕ) → IsNeeded p → IsAmong (asked_under plain p final) q → IsNeeded q
  needed-asks p q m asks = still.closed limit p q m asks

  in-check : (p : List ℕ) (c : Check) → k p ≡ Some c → (s.has_rule p ≡ true) × IsHonest s p c final
  in-check p c e = (are.ruled p c e, honest p c e)

  -- what sound answers tell of needed targets is so in the end
  pub known-more : (a : Ask) → IsSound a → Extends plain (only (needed_at plain request limit) a) final
  known-more a sound q v t e =
      let parts = only-known (needed_at plain request limit) a q v e in sound q v parts.0 parts.1

  -- and their scripts ask for no others
  pub known-same : (p : List ℕ) (a : Ask) → IsNeeded p → IsSound a →
      s.progress p (only (needed_at plain request limit) a) ≡ s.progress p a
  known-same p a m sound =
      let known : Ask = only (needed_at plain request limit) a in
      (lawful.each p).local known a (λ q asks. only-among (needed_at plain request limit) a q
      (needed-asks p q m ((lawful.each p).grows q known final (known-more a sound) asks)))

  -- a script that ended under sound answers is where it is in the end
  script-stays : (p : List ℕ) (a : Ask) (o : Outcome) → IsNeeded p → IsSound a → (s.progress p a).outcome ≡ Some o →
      s.progress p a ≡ s.progress p final
  script-stays p a o m sound ended =
      let same = known-same p a m sound in
      sym same ∙ ended_stays plain lawful p (only (needed_at plain request limit) a) final o (known-more a sound)
      (ap (λ (x : Progress). x.outcome) same ∙ ended)

  progress-sound : (p : List ℕ) (a : Ask) (o : Outcome) → IsNeeded p → IsSound a → (check : Option Check) →
      ((c : Check) → check ≡ Some c → (s.has_rule p ≡ true) × IsHonest s p c final) →
      (progress_checked s p check a).outcome ≡ Some o → (s.progress p final).outcome ≡ Some o
  progress-sound p a o m sound None h e = ap (λ (x : Progress). x.outcome) (sym (script-stays p a o m sound e)) ∙ e
  progress-sound p a o m sound (Some c) h e =
      elim (progress-ended c.file (finding s a c.entries) (s.progress p a) o e) [
        | inl stood ↦
            let this = h c refl in
            let kept = check-kept s p c final a this.0 this.1
            (λ q v asks known. sound q v (needed-asks p q m asks) known) stood.0 in
            ap (λ (x : Progress). x.outcome) kept ∙ ap (λ (x : Outcome). Some x) stood.1
        | inr begun ↦ ap (λ (x : Progress). x.outcome) (sym (script-stays p a o m sound begun.1)) ∙ begun.1
      ]

  -- what the build with the book decides of needed targets at any depth, the build without it decides too
  pub sound_at : (n : ℕ) → IsSound (outcome_at booked n)
  sound_at zero q o m e =
      absurd (let bad : None ≡ Some o = sym (outcome_at-zero booked with-lawful q (target q m)) ∙ e in cc)
  sound_at (suc n) q o m e =
      let ended : (progress_checked s q (k q) (outcome_at booked n)).outcome ≡ Some o =
      sym (outcome_at-step booked with-lawful n q (target q m)) ∙ e in
      sym (final-step q m) ∙ progress-sound q (outcome_at booked n) o m (sound_at n) (k q) (in-check q) ended

  -- what is decided at a depth without the book is decided there with it
  pub reaches : (n : ℕ) → n ≤ limit → (q : List ℕ) (o : Outcome) → IsNeeded q →
      outcome_at plain n q ≡ Some o → outcome_at booked n q ≡ Some o
  reaches zero h q o m e =
      absurd (let bad : None ≡ Some o = sym (outcome_at-zero plain lawful q (target q m)) ∙ e in cc)
  reaches (suc n) h q o m e =
      let ended : (s.progress q (outcome_at plain n)).outcome ≡ Some o =
      sym (outcome_at-step plain lawful n q (target q m)) ∙ e in
      let stays : s.progress q (outcome_at plain n) ≡ s.progress q final =
      ended_stays plain lawful q (outcome_at plain n) final o (deeper plain lawful n limit (omega (arith, h))) ended in
      let P : (x : List ℕ) → Progress → Type 0 = λ x y. IsAmong (operands plain y.deps) x in
      let full : IsFull s q final (outcome_at booked n) = record {
        sound = λ x v asks known. sound_at n x v (needed-asks q x m asks) known;
        full = λ x asks none. elim (cases_Option (outcome_at plain n x)) [
          | inl lack ↦ (lawful.each q).answered x (outcome_at plain n) o ended (subst (P x) (sym stays) asks) lack
          | inr some ↦
              let there = reaches n (omega (arith, h)) x some.0 (needed-asks q x m asks) some.1 in
              let bad : None ≡ Some some.0 = sym none ∙ there in cc
        ];
      } in
      outcome_at-step booked with-lawful n q (target q m)
      ∙ (same-by s lawful q final (outcome_at booked n) full (k q) (in-check q)).outcome
      ∙ ap (λ (x : Progress). x.outcome) (sym stays) ∙ ended

  -- each target that the build without the book needs comes to the same, cyclic ones too
  pub outcomes-agree : (p : List ℕ) → IsNeeded p → outcome_at booked limit p ≡ final p
  outcomes-agree p m = same-both (outcome_at booked limit p) (final p) (λ o e. sound_at limit p o m e)
      (λ o e. reaches limit (omega arith) p o m e)

  module _ (decided : NoneCyclic plain request limit) where
    full-at : (p : List ℕ) → IsNeeded p → IsFull s p final (outcome_at booked limit)
    full-at p m = record {
      sound = λ q o asks known. sound_at limit q o (needed-asks p q m asks) known;
      full = λ q asks none. decided q (needed-asks p q m asks) (sym (outcomes-agree q (needed-asks p q m asks)) ∙ none);
    }

    same-at : (p : List ℕ) (m : IsNeeded p) →
        IsSame s lawful p final (outcome_at booked limit) (full-at p m) (k p)
    same-at p m = same-by s lawful p final (outcome_at booked limit) (full-at p m) (k p) (in-check p)

    -- no more is needed
    needed-from : (p : List ℕ) → IsAmong (needed_at booked request limit) p → IsNeeded p
    needed-from p m = reached-within booked with-lawful request limit limit (λ q. IsNeeded q)
        (λ q first. reached-more plain lawful request limit 0 limit q (omega arith) first)
        (λ x q needed asks. needed-asks x q needed ((same-at x needed).asked q asks)) p m

    within-limit : length (needed_at booked request limit) ≤ limit
    within-limit = omega (
      arith,
      few,
      within-length (needed_at booked request limit) (needed_at plain request limit)
          (reached-distinct booked with-lawful request limit limit) needed-from,
    )

    still-with : IsSettled booked request limit
    still-with = settled booked with-lawful request limit within-limit

    -- and no less
    needed-to : (p : List ℕ) → IsNeeded p → IsAmong (needed_at booked request limit) p
    needed-to p m =
        (reached-within plain lawful request limit limit (λ q. IsNeeded q × IsAmong (needed_at booked request limit) q)
        (λ q first. (
          reached-more plain lawful request limit 0 limit q (omega arith) first,
          reached-more booked with-lawful request limit 0 limit q (omega arith) first,
        ))
        (λ x q both asks. (
          needed-asks x q both.0 asks,
          still-with.closed limit x q both.1 ((same-at x both.0).asks q asks),
        )) p m).1

    kept-file : (p : List ℕ) → IsNeeded p → booked.begins p (outcome_at booked limit) ≡ false →
        (c : Check) × (k p ≡ Some c) × (final p ≡ Some (Built c.file))
    kept-file p m e = let kept = (same-at p m).kept e in (kept.0, kept.1, sym (final-step p m) ∙ kept.2)

    pub skips : IsSkipping s k request limit
    skips = record {
      within = within-limit;
      needed = λ p. (needed-from p, needed-to p);
      outcomes = outcomes-agree;
      records = λ p m. (same-at p m).deps;
      begun = λ p b. record { needed = needed-from p b.needed; ruled = b.ruled; begins = refl };
      kept = kept-file;
    }
