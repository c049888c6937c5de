-- What is listed tells of every run.
use Rattle.std.proofs.Common.{◌≡◌, ℕ, ◌≤◌, true, false, ◌⊎◌, inl, inr, List, [], length}
use Rattle.std.proofs.Common.{Option, Some, None, flat_map, refl, sym, ap, subst, ◌∙◌}
use Rattle.std.proofs.lemmas.Bool.{both_ways, cases_Bool}
use Rattle.redo_record.specs.declared.outcome.Outcome.TheVariants.{Built}
use Rattle.redo_record.specs.Paths.{IsAmong, is_among}
use Rattle.redo_book.specs.declared.book.BookEntry.{BookEntry}
use Rattle.redo_book.specs.Book.{Record, record_at}
use Rattle.redo_book.specs.Intact.{is_intact}
use Rattle.redo_build.specs.Rules.{Ask, AreLawful}
use Rattle.redo_build.specs.Outcomes.{outcome_at, needed_at}
use Rattle.redo_build.proofs.DepthLemmas.{cases_Option}
use Rattle.redo_skip.specs.Sources.{File, Sources, without_book}
use Rattle.redo_skip.specs.Checks.{Check, Checks, asks, AreChecks}
use Rattle.redo_skip.specs.NewBook.{LastRun, IsGood, check_by, checks_of}
use Rattle.redo_skip.proofs.CheckLemmas.{not-or}
use Rattle.redo_skip.proofs.NewBookLemmas.{are-checks, honest-checks, found-target}
use Rattle.redo_why.specs.Reasons.{Reason, Altered, Fallen, reason_of}
use Rattle.redo_why.specs.Verdicts.{Verdict, Keeps, Begins, verdict, verdict_checked, verdict_at}
use Rattle.redo_why.specs.OutOfDate.{first_drop, Word, Stale, Maybe, Ring, checks_left}
use Rattle.redo_why.specs.OutOfDate.{verdict_left, listed, named, IsOpen, may_begin}
use Rattle.redo_why.specs.Runs.{rules_with, end_with, IsNeededBy, NeedsAlone, Needs, IsKept, IsBegunBy}
use Rattle.redo_why.specs.Runs.{IsRecordInCheck, verdict_with}
use Rattle.redo_why.proofs.DeepLemmas.{alone-same, alone-here, alone-alike, book-still}
use Rattle.redo_skip.proofs.NeededLemmas.{needed-plain, plain-target}
use Rattle.redo_why.proofs.HonestLemmas.{tells-honest}
use Rattle.redo_why.proofs.KeptLemmas.{Tells, needed-target, tells-own}
use Rattle.redo_why.proofs.ListedLemmas.{check-intact, check-altered, Told, told_lost, told_altered, told_checked, told}
use Rattle.redo_why.proofs.ListedLemmas.{says_kept, says_ring, says_maybe, says_stale}
use Rattle.redo_why.proofs.MarkLemmas.{drop-same, begins-drop, either-unsure, IsUnsureAt, IsOpenVerdict}
use Rattle.redo_why.proofs.ReasonLemmas.{reason-altered, reason-recorded}
use Rattle.redo_skip.proofs.CheckLemmas.{begins_checked}

module _ (s : Sources) (last : LastRun) (request : List (List ℕ)) (limit : ℕ) (lawful : AreLawful (without_book s))
    (good : IsGood s) where
  abbrev left : Checks
  left = checks_left s last

  abbrev checks : Checks
  checks = checks_of s last request

  abbrev deep : ℕ
  deep = length last.book

  abbrev end : Ask
  end = end_with s last request limit

  are : AreChecks s checks
  are = are-checks s last request

  -- what verdicts tell of such a run
  abbrev TellsOf : List ℕ → Check → Type 0
  TellsOf p c = Tells s checks end p c (verdict_left s last p) (first_drop s left (verdict_left s last) c.entries)

  tells-alone : (p : List ℕ) (c : Check) → left p ≡ Some c → checks p ≡ Some c →
      NeedsAlone s last request limit p → TellsOf p c
  tells-alone p c is here needs =
      let alike = λ (q : List ℕ) (m : IsAmong (flat_map (asks s) c.entries) q).
      let P : Option Check → Type 0 = λ o. IsAmong (named s o) q in
      alone-alike s last request deep p q needs.alone (subst P (sym is) m) in
      let drop = drop-same s left checks (verdict_left s last) (verdict_at s checks deep) c.entries alike in
      let own = tells-own s checks lawful are good deep (book-still s last request) request limit needs.few p c needs.needed here in
      let P : Option Verdict → Type 0 =
      λ v. Tells s checks end p c v (first_drop s left (verdict_left s last) c.entries) in
      subst P (sym (alone-same s last request deep p needs.alone))
      (subst (λ d. Tells s checks end p c (verdict_at s checks deep p) d) (sym drop) own)

  tells-by : (p : List ℕ) (c : Check) → left p ≡ Some c → checks p ≡ Some c → Needs s last request limit p → TellsOf p c
  tells-by p c is here needs = elim needs [
    | inl alone ↦ tells-alone p c is here alone
    | inr honest ↦
        let all = honest-checks s last request (outcome_at (without_book s) limit) honest.honest in
        tells-honest s last request limit lawful good honest.few honest.honest deep (book-still s last []) p c
        (needed-plain s checks lawful are request limit honest.few all p honest.needed) is here
  ]

  needed-by : (p : List ℕ) → Needs s last request limit p → IsNeededBy s last request limit p
  needed-by p needs = elim needs [ inl alone ↦ alone.needed | inr honest ↦ honest.needed ]

  target-by : (p : List ℕ) → Needs s last request limit p → s.is_source p ≡ false
  target-by p needs = elim needs [
    | inl alone ↦ needed-target s checks lawful are good request limit alone.few p alone.needed
    | inr honest ↦
        let all = honest-checks s last request (outcome_at (without_book s) limit) honest.honest in
        plain-target s checks lawful are request limit honest.few all p
        (needed-plain s checks lawful are request limit honest.few all p honest.needed)
  ]

  unasked-by : (p : List ℕ) → Needs s last request limit p → is_among request p ≡ false
  unasked-by p needs = elim needs [ inl alone ↦ alone-here s last request p alone.alone | inr honest ↦ honest.unasked ]

  module _ (p : List ℕ) (r : Record) (at : record_at last.book p ≡ Some r) (needs : Needs s last request limit p) where
    target : s.is_source p ≡ false
    target = target-by p needs

    its : (w : Option Word) → listed s last p ≡ w → Told s last p r w
    its = told s last p r target at

    the_file : last.file r.target ≡ last.file p
    the_file = ap last.file (found-target last.book p r at)

    in-check : s.has_rule p ≡ true → is_intact last.file r ≡ true → TellsOf p (check_by last r)
    in-check ruled intact = tells-by p (check_by last r) (check-intact s last [] p r refl at ruled intact)
        (check-intact s last request p r (unasked-by p needs) at ruled intact) needs

    -- what isn't listed is kept
    pub unlisted-kept : listed s last p ≡ None → IsKept s last request limit p
    unlisted-kept none = unlisted-by (its None none)
      where
        unlisted-by : Told s last p r None → IsKept s last request limit p
        unlisted-by (told_checked t i (says_kept v)) =
            let all = (in-check t i).keeps v in
            record { waits = all.0; built = all.1 ∙ ap (λ (f : File). Some (Built f)) the_file }

    altered-begun : s.has_rule p ≡ true → is_intact last.file r ≡ false → IsBegunBy s last request limit p
    altered-begun ruled altered = record {
      needed = needed-by p needs;
      ruled = ruled;
      begins = ap (λ o. begins_checked s o end) (check-altered s last request p r at altered);
    }

    -- what is listed as stale is begun, unless it is cyclic
    pub stale-begun : (why : Reason) → listed s last p ≡ Some (Stale why) → (end p ≡ None → ⊥) →
        IsBegunBy s last request limit p
    stale-begun why stale ended = stale-by why (its (Some (Stale why)) stale)
      where
        stale-by : (why : Reason) → Told s last p r (Some (Stale why)) → IsBegunBy s last request limit p
        stale-by _ (told_altered t f) = altered-begun t f
        stale-by _ (told_checked t i (says_stale d v drop)) =
            record { needed = needed-by p needs; ruled = t; begins = (in-check t i).drops d drop ended }

    -- what is begun by its verdict is begun, cyclic or not
    begins-begun : s.has_rule p ≡ true → is_intact last.file r ≡ true → verdict_left s last p ≡ Some Begins →
        IsBegunBy s last request limit p
    begins-begun ruled intact v =
        record { needed = needed-by p needs; ruled = ruled; begins = (in-check ruled intact).begins v }

    pub sure-begun : s.has_rule p ≡ true → (is_intact last.file r ≡ false) ⊎ (verdict_left s last p ≡ Some Begins) →
        IsBegunBy s last request limit p
    sure-begun ruled how = elim (cases_Bool (is_intact last.file r)) [
      | inr f ↦ altered-begun ruled f
      | inl t ↦ elim how [
        | inl f ↦ absurd (both_ways _ f t)
        | inr v ↦ begins-begun ruled t v
      ]
    ]

    -- what is listed as a ring is cyclic, and isn't begun
    pub ring-cyclic : listed s last p ≡ Some Ring →
        (end p ≡ None) × ((rules_with s last request).begins p end ≡ false)
    ring-cyclic ring = ring-by (its (Some Ring) ring)
      where
        ring-by : Told s last p r (Some Ring) → (end p ≡ None) × ((rules_with s last request).begins p end ≡ false)
        ring-by (told_checked t i (says_ring v)) = (in-check t i).rings v

    -- what is begun was listed
    pub begun-listed : IsBegunBy s last request limit p →
        (w : Word) × (listed s last p ≡ Some w) × (may_begin w ≡ true)
    begun-listed begun = begun-by (listed s last p) (its (listed s last p) refl)
      where
        begun-by : (w : Option Word) → Told s last p r w → (x : Word) × (w ≡ Some x) × (may_begin x ≡ true)
        begun-by _ (told_lost f) = absurd (both_ways _ f begun.ruled)
        begun-by _ (told_altered t f) = (Stale Altered, refl, refl)
        begun-by _ (told_checked t i (says_kept v)) = absurd (both_ways _ ((in-check t i).keeps v).0 begun.begins)
        begun-by _ (told_checked t i (says_ring v)) = absurd (both_ways _ ((in-check t i).rings v).1 begun.begins)
        begun-by _ (told_checked t i (says_maybe q on v none)) = (Maybe q, refl, refl)
        begun-by _ (told_checked t i (says_stale d v drop)) = (Stale (Fallen d), refl, refl)

    -- the reason that is listed is the reason for which the script is begun, where no script is waited for before
    pub stale-reason : (why : Reason) → listed s last p ≡ Some (Stale why) →
        (why ≡ Altered) ⊎ (verdict_left s last p ≡ Some Begins) → reason_of s last request end p ≡ Some why
    stale-reason why stale how = reason-by why (its (Some (Stale why)) stale) how
      where
        reason-by : (why : Reason) → Told s last p r (Some (Stale why)) →
            (why ≡ Altered) ⊎ (verdict_left s last p ≡ Some Begins) → reason_of s last request end p ≡ Some why
        reason-by _ (told_altered t f) how = (reason-altered s last request end p).1 (unasked-by p needs, (r, at, f))
        reason-by _ (told_checked t i (says_stale d v drop)) how = elim how [
          | inl altered ↦ absurd cc
          | inr begins ↦
              reason-recorded s last request end p r (unasked-by p needs) at i d ((in-check t i).first begins ∙ drop)
        ]

-- Of one run

module _ (s : Sources) (last : LastRun) (request : List (List ℕ)) (limit : ℕ) (lawful : AreLawful (without_book s))
    (good : IsGood s) (few : length (needed_at (rules_with s last request) request limit) ≤ limit) (p : List ℕ)
    (r : Record) (in_check : IsRecordInCheck s last request p r) (needed : IsNeededBy s last request limit p) where
  abbrev own : Checks
  own = checks_of s last request

  are-own : AreChecks s own
  are-own = are-checks s last request

  its-check : own p ≡ Some (check_by last r)
  its-check = check-intact s last request p r in_check.unasked in_check.at in_check.ruled in_check.intact

  its-tells : Tells s own (end_with s last request limit) p (check_by last r) (verdict_with s last request p)
      (first_drop s own (verdict_with s last request) r.entries)
  its-tells = tells-own s own lawful are-own good (length last.book) (book-still s last request) request limit few p
      (check_by last r) needed its-check

  pub run-keeps : verdict_with s last request p ≡ Some Keeps → IsKept s last request limit p
  run-keeps v =
      let all = its-tells.keeps v in
      record {
        waits = all.0;
        built = all.1 ∙ ap (λ (f : File). Some (Built f)) (ap last.file (found-target last.book p r in_check.at));
      }

  pub run-begins : verdict_with s last request p ≡ Some Begins → IsBegunBy s last request limit p × ((d : BookEntry) ×
      (first_drop s own (verdict_with s last request) r.entries ≡ Some d) ×
      (reason_of s last request (end_with s last request limit) p ≡ Some (Fallen d)))
  run-begins v =
      let here : verdict s own (verdict_with s last request) r.entries ≡ Some Begins =
      sym (ap (verdict_checked s own (verdict_with s last request)) its-check) ∙ book-still s last request p ∙ v in
      let drop = begins-drop s own (verdict_with s last request) r.entries here in (
        record { needed = needed; ruled = in_check.ruled; begins = its-tells.begins v },
        (
          drop.0,
          drop.1,
          reason-recorded s last request (end_with s last request limit) p r in_check.unasked in_check.at
              in_check.intact drop.0 (its-tells.first v ∙ drop.1),
        ),
      )

  pub run-waits : verdict_with s last request p ≡ None → (end_with s last request limit p ≡ None) ×
      ((rules_with s last request).begins p (end_with s last request limit) ≡ false)
  run-waits v = its-tells.rings v

-- What may be rests on what is begun, or may be

module _ (s : Sources) (last : LastRun) where
  verdict-here : (p : List ℕ) (c : Check) → checks_left s last p ≡ Some c →
      verdict s (checks_left s last) (verdict_left s last) c.entries ≡ verdict_left s last p
  verdict-here p c is =
      sym (ap (verdict_checked s (checks_left s last) (verdict_left s last)) is) ∙ book-still s last [] p

  abbrev IsOpenAt : List ℕ → Type 0
  IsOpenAt q = ((checks_left s last q ≡ None) × (s.has_rule q ≡ true)) ⊎
      (((c : Check) × (checks_left s last q ≡ Some c)) × IsOpenVerdict (verdict_left s last q))

  in-open : (q : List ℕ) (r : Record) → IsOpenAt q → record_at last.book q ≡ Some r → s.has_rule q ≡ true →
      is_intact last.file r ≡ true → IsOpenVerdict (verdict_left s last q)
  in-open q r why at t i = elim why [
    | inl free ↦ absurd (let is = check-intact s last [] q r refl at t i in let none = free.0 in cc)
    | inr some ↦ some.1
  ]

  open-record : (q : List ℕ) (r : Record) → IsOpenAt q → record_at last.book q ≡ Some r → (w : Option Word) → Told s last q r w →
      (s.has_rule q ≡ true) × ((x : Word) × (w ≡ Some x) × (may_begin x ≡ true))
  open-record q r why at _ (told_lost f) = absurd (elim why [
    | inl free ↦ both_ways _ f free.1
    | inr some ↦ both_ways _ f ((are-checks s last []).ruled q some.0.0 some.0.1)
  ])
  open-record q r why at _ (told_altered t f) = (t, (Stale Altered, refl, refl))
  open-record q r why at _ (told_checked t i (says_maybe on _ v none)) = (t, (Maybe on, refl, refl))
  open-record q r why at _ (told_checked t i (says_stale d v drop)) = (t, (Stale (Fallen d), refl, refl))
  open-record q r why at _ (told_checked t i (says_kept v)) =
      absurd (elim (in-open q r why at t i) [ inl begins ↦ cc | inr either ↦ cc ])
  open-record q r why at _ (told_checked t i (says_ring v)) =
      absurd (elim (in-open q r why at t i) [ inl begins ↦ cc | inr either ↦ cc ])

  open-at : (q : List ℕ) → IsUnsureAt s (checks_left s last) (verdict_left s last) q → IsOpen s last q
  open-at q unsure =
      let target = (not-or (s.is_source q) (s.is_script q) unsure.target).0 in
      elim (cases_Option (record_at last.book q)) [
        | inl none ↦ (
          elim unsure.why [
            | inl free ↦ free.1
            | inr some ↦ (are-checks s last []).ruled q some.0.0 some.0.1
          ],
          inl none,
        )
        | inr found ↦
            let both = open-record q found.0 unsure.why found.1 (listed s last q)
            (told s last q found.0 target found.1 (listed s last q) refl) in
            (both.0, inr both.1)
      ]

  pub maybe-rests : (p : List ℕ) (r : Record) (target : s.is_source p ≡ false) (at : record_at last.book p ≡ Some r) →
      (q : List ℕ) → listed s last p ≡ Some (Maybe q) → IsAmong (named s (checks_left s last p)) q × IsOpen s last q
  maybe-rests p r target at q maybe = rests-by q (told s last p r target at (Some (Maybe q)) maybe)
    where
      rests-by : (q : List ℕ) → Told s last p r (Some (Maybe q)) →
          IsAmong (named s (checks_left s last p)) q × IsOpen s last q
      rests-by _ (told_checked t i (says_maybe q on v none)) =
          let is = check-intact s last [] p r refl at t i in
          let here = verdict-here p (check_by last r) is in
          elim v [
            | inl begins ↦ absurd (
                let some = begins-drop s (checks_left s last) (verdict_left s last) r.entries (here ∙ begins) in
                let drop = some.1 in cc)
            | inr either ↦
                let some = either-unsure s (checks_left s last) (verdict_left s last) r.entries (here ∙ either) in
                let P : Option Check → Type 0 = λ o. IsAmong (named s o) some.0 in
                let Q : List ℕ → Type 0 = λ x. IsAmong (named s (checks_left s last p)) x × IsOpen s last x in
                subst Q (some.3 ∙ sym on) (subst P (sym is) some.1, open-at some.0 some.2)
          ]
