-- What is kept, begun and cyclic in a build with checks, by the verdicts.
use Rattle.std.proofs.Common.{◌≡◌, ℕ, zero, suc, ◌≤◌, true, false, ◌⊎◌, inl, inr, List, length}
use Rattle.std.proofs.Common.{Option, Some, None, sym, ap, subst, ◌∙◌, arith}
use Rattle.std.proofs.lemmas.Bool.{cases_lt, both_ways}
use Rattle.redo_record.specs.declared.outcome.Outcome.{Outcome}
use Rattle.redo_record.specs.declared.outcome.Outcome.TheVariants.{Built}
use Rattle.redo_record.specs.Paths.{IsAmong}
use Rattle.redo_record.specs.Progress.{operands}
use Rattle.redo_book.specs.declared.book.BookEntry.{BookEntry}
use Rattle.redo_build.specs.Rules.{Ask, AreLawful, Rules}
use Rattle.redo_build.specs.Outcomes.{outcome_at, needed_at, IsSettled}
use Rattle.redo_build.proofs.DepthLemmas.{cases_Option, deeper, deeper_once, outcome_at-step, outcome_at-zero, reached-target, settled}
use Rattle.redo_skip.specs.Sources.{Sources, without_book}
use Rattle.redo_skip.specs.Checks.{file_told, told, Standing, stands, lacks, falls, finding, Check, Checks}
use Rattle.redo_skip.specs.Checks.{progress_checked, with_book, AreChecks}
use Rattle.redo_skip.specs.NewBook.{IsGood}
use Rattle.redo_skip.proofs.CheckLemmas.{cases_Standing, finding-target}
use Rattle.redo_skip.proofs.AskedLemmas.{asked-check, progress-lacks, progress-stands}
use Rattle.redo_skip.proofs.LawfulLemmas.{with_book-lawful}
use Rattle.redo_why.specs.Verdicts.{Verdict, Keeps, Begins, Verdicts, verdict, verdict_checked, verdict_at}
use Rattle.redo_why.specs.OutOfDate.{first_drop}
use Rattle.redo_why.specs.Reasons.{first_fallen}
use Rattle.redo_why.proofs.MarkLemmas.{FitsAt, keeps-stands, begins-falls, drop-refutes, none-lacks}
use Rattle.redo_why.proofs.MarkLemmas.{begins-first}
use Rattle.redo_skip.proofs.CheckLemmas.{begins_checked, is_fallen}

-- what the verdict on a target in check, and the first of its entries that drops, tell of a run
pub record Tells (s : Sources) (k : Checks) (end : Ask) (p : List ℕ) (c : Check) (v : Option Verdict)
    (drop : Option BookEntry) : Type 0 where
  pub keeps : v ≡ Some Keeps → ((with_book s k).begins p end ≡ false) × (end p ≡ Some (Built c.file))
  pub begins : v ≡ Some Begins → (with_book s k).begins p end ≡ true
  pub first : v ≡ Some Begins → first_fallen s end c.entries ≡ drop
  pub drops : (d : BookEntry) → drop ≡ Some d → (end p ≡ None → ⊥) → (with_book s k).begins p end ≡ true
  pub rings : v ≡ None → (end p ≡ None) × ((with_book s k).begins p end ≡ false)

-- the answers of a run fit these verdicts, which may be by other checks
pub record IsFitting (s : Sources) (k l : Checks) (v : Verdicts) (end : Ask) (p : List ℕ) (c : Check) : Type 0 where
  pub check : k p ≡ Some c
  pub fixed : verdict s l v c.entries ≡ v p
  pub fits : (q : List ℕ) → IsAmong (finding s end c.entries).asked q → FitsAt s l v end q
  pub built : v p ≡ Some Keeps → end p ≡ Some (Built c.file)
  pub waits : (finding s end c.entries).standing ≡ lacks → end p ≡ None
  pub ring : v p ≡ None → (end p ≡ None) × ((finding s end c.entries).standing ≡ lacks)

module _ (s : Sources) (k l : Checks) (v : Verdicts) (end : Ask) (p : List ℕ) (c : Check)
    (is : IsFitting s k l v end p c) where
  begins-by : (x : Standing) → (finding s end c.entries).standing ≡ x → (with_book s k).begins p end ≡ is_fallen x
  begins-by x e = ap (λ o. begins_checked s o end) is.check ∙ ap is_fallen e

  -- what is begun by its verdict is begun; so is what has an entry that drops, unless it is cyclic
  pub tells : Tells s k end p c (v p) (first_drop s l v c.entries)
  tells = record {
    keeps = λ e. (begins-by stands (keeps-stands s l v end c.entries (is.fixed ∙ e) is.fits), is.built e);
    begins = λ e. begins-by falls (begins-falls s l v end c.entries (is.fixed ∙ e) is.fits);
    first = λ e. begins-first s l v end c.entries (is.fixed ∙ e) is.fits;
    drops = λ d drop ended. elim (cases_Standing (finding s end c.entries).standing) [
      | inl t ↦ absurd (drop-refutes s l v end c.entries d drop t is.fits)
      | inr other ↦ elim other [ inl lack ↦ absurd (ended (is.waits lack)) | inr f ↦ begins-by falls f ]
    ];
    rings = λ e. ((is.ring e).0, begins-by lacks (is.ring e).1);
  }

module _ (s : Sources) (k : Checks) (lawful : AreLawful (without_book s)) (are : AreChecks s k) (good : IsGood s) where
  abbrev booked : Rules
  booked = with_book s k

  pub booked-lawful : AreLawful booked
  booked-lawful = with_book-lawful s k lawful are

  step-of : (n : ℕ) (q : List ℕ) (o : Option Check) → s.is_source q ≡ false → k q ≡ o →
      outcome_at booked (suc n) q ≡ (progress_checked s q o (outcome_at booked n)).outcome
  step-of n q o target is =
      outcome_at-step booked booked-lawful n q target
      ∙ ap (λ x. (progress_checked s q x (outcome_at booked n)).outcome) is

  -- a target without a rule fails
  pub lost-at : (n : ℕ) (q : List ℕ) → s.is_source q ≡ false → s.has_rule q ≡ false →
      (o : Outcome) × (outcome_at booked (suc n) q ≡ Some o) × (file_told o ≡ None)
  lost-at n q target unruled = elim (cases_Option (k q)) [
    | inr some ↦ absurd (both_ways _ unruled (are.ruled q some.0 some.1))
    | inl none ↦ elim (cases_Option (s.progress q (outcome_at booked n)).outcome) [
      | inl lack ↦ absurd ((lawful.unruled q (outcome_at booked n) unruled).1 lack)
      | inr ended ↦ elim (cases_Option (file_told ended.0)) [
        | inl silent ↦ (ended.0, step-of n q None target none ∙ ended.1, silent)
        | inr file ↦ absurd (
            both_ways _ unruled (good.ruled q (outcome_at booked n) file.0 target (ap told ended.1 ∙ file.1)))
      ]
    ]
  ]

  verdict-of : (v : Verdicts) (q : List ℕ) (c : Check) (o : Option Verdict) → k q ≡ Some c →
      verdict_checked s k v (k q) ≡ o → verdict s k v c.entries ≡ o
  verdict-of v q c o is e = sym (ap (verdict_checked s k v) is) ∙ e

  -- what is kept by its verdict is built with the file that it has
  pub kept-at : (n : ℕ) (q : List ℕ) (c : Check) → s.is_source q ≡ false → k q ≡ Some c →
      verdict_at s k n q ≡ Some Keeps → outcome_at booked (suc n) q ≡ Some (Built c.file)
  kept-at zero q c target is keeps = absurd (let bad : None ≡ Some Keeps = keeps in cc)
  kept-at (suc n) q c target is keeps =
      let here : verdict s k (verdict_at s k n) c.entries ≡ Some Keeps =
      verdict-of (verdict_at s k n) q c (Some Keeps) is keeps in
      let all = keeps-stands s k (verdict_at s k n) (outcome_at booked (suc n)) c.entries here (λ x m.
      let t = finding-target s c.entries (outcome_at booked (suc n)) x m in
      record {
        kept = λ c' e v. kept-at n x c' t e v;
        lost = λ unruled. lost-at n x t unruled;
      }) in
      step-of (suc n) q (Some c) target is
      ∙ progress-stands c.file (finding s (outcome_at booked (suc n)) c.entries) (s.progress q (outcome_at booked (suc n)))
      all

  -- what waits in its check has no answer
  pub lacks-none : (n : ℕ) (p : List ℕ) (c : Check) → s.is_source p ≡ false → k p ≡ Some c →
      (finding s (outcome_at booked n) c.entries).standing ≡ lacks → outcome_at booked n p ≡ None
  lacks-none n p c target is l = elim (cases_Option (outcome_at booked n p)) [
    | inl none ↦ none
    | inr some ↦
        let next = deeper_once booked booked-lawful n p some.0 target some.1 in
        let step = step-of n p (Some c) target is
        ∙ progress-lacks c.file (finding s (outcome_at booked n) c.entries) (s.progress p (outcome_at booked n)) l in
        absurd (let bad : None ≡ Some some.0 = sym step ∙ next in cc)
  ]

  module _ (request : List (List ℕ)) (limit : ℕ) (few : length (needed_at booked request limit) ≤ limit) where
    abbrev final : Ask
    final = outcome_at booked limit

    abbrev IsNeeded : List ℕ → Type 0
    IsNeeded q = IsAmong (needed_at booked request limit) q

    still : IsSettled booked request limit
    still = settled booked booked-lawful request limit few

    pub needed-target : (q : List ℕ) → IsNeeded q → s.is_source q ≡ false
    needed-target q m = reached-target booked booked-lawful request limit limit q m

    -- what is decided at any depth is decided in the end
    pub to-limit : (m : ℕ) (q : List ℕ) (o : Outcome) → IsNeeded q → outcome_at booked m q ≡ Some o → final q ≡ Some o
    to-limit m q o needed e = elim (cases_lt limit m) [
      | inl above ↦ sym (still.same m q (omega (arith, above)) needed) ∙ e
      | inr below ↦ deeper booked booked-lawful m limit below q o (needed-target q needed) e
    ]

    -- in the end answers are as verdicts say
    pub fits-end : (n : ℕ) (q : List ℕ) → IsNeeded q → FitsAt s k (verdict_at s k n) final q
    fits-end n q needed = record {
      kept = λ c is keeps.
          to-limit (suc n) q (Built c.file) needed (kept-at n q c (needed-target q needed) is keeps);
      lost = λ unruled.
          let fails = lost-at 0 q (needed-target q needed) unruled in
          (fails.0, to-limit 1 q fails.0 needed fails.1, fails.2);
    }

    -- what a check asks for in the end is needed
    pub asked-needed : (p : List ℕ) (c : Check) → IsNeeded p → k p ≡ Some c → (q : List ℕ) →
        IsAmong (finding s final c.entries).asked q → IsNeeded q
    asked-needed p c needed is q m =
        let P : Option Check → Type 0 = λ o. IsAmong (operands s.is_source (progress_checked s p o final).deps) q in
        still.closed limit p q needed (subst P (sym is)
        (asked-check s.is_source c.file (finding s final c.entries) (s.progress p final) q
        (finding-target s c.entries final q m) m))

  -- Rings

  -- where a further depth makes no difference
  module _ (deep : ℕ) (same : (q : List ℕ) → verdict_at s k (suc deep) q ≡ verdict_at s k deep q) where
    kept-or-none : (m : ℕ) (q : List ℕ) (c : Check) → s.is_source q ≡ false → k q ≡ Some c →
        verdict_at s k deep q ≡ Some Keeps →
        (outcome_at booked m q ≡ None) ⊎ (outcome_at booked m q ≡ Some (Built c.file))
    kept-or-none m q c target is keeps = elim (cases_Option (outcome_at booked m q)) [
      | inl none ↦ inl none
      | inr some ↦
          let end = kept-at deep q c target is keeps in
          inr (elim (cases_lt m (suc deep)) [
            | inl below ↦
                let there = deeper booked booked-lawful m (suc deep) (omega (arith, below)) q some.0 target some.1 in
                some.1 ∙ (sym there ∙ end)
            | inr above ↦ deeper booked booked-lawful (suc deep) m above q (Built c.file) target end
          ])
    ]

    waiting : (m : ℕ) (q : List ℕ) (c : Check) → s.is_source q ≡ false → k q ≡ Some c →
        verdict_at s k deep q ≡ None →
        ((x : List ℕ) (c' : Check) → s.is_source x ≡ false → k x ≡ Some c' → verdict_at s k deep x ≡ None →
        outcome_at booked m x ≡ None) → (finding s (outcome_at booked m) c.entries).standing ≡ lacks
    waiting m q c target is waits before =
        let here : verdict s k (verdict_at s k deep) c.entries ≡ None =
        verdict-of (verdict_at s k deep) q c None is (same q ∙ waits) in
        none-lacks s k (verdict_at s k deep) (outcome_at booked m) c.entries here (λ x t.
        let target' = finding-target s c.entries (outcome_at booked m) x t in
        record {
          kept = λ c' e v. kept-or-none m x c' target' e v;
          waits = λ c' e v. before x c' target' e v;
        })

    -- what has no verdict never ends
    pub ring-at : (m : ℕ) (q : List ℕ) (c : Check) → s.is_source q ≡ false → k q ≡ Some c →
        verdict_at s k deep q ≡ None → outcome_at booked m q ≡ None
    ring-at zero q c target is waits = outcome_at-zero booked booked-lawful q target
    ring-at (suc m) q c target is waits =
        let l = waiting m q c target is waits (λ x c' t e v. ring-at m x c' t e v) in
        step-of m q (Some c) target is
        ∙ progress-lacks c.file (finding s (outcome_at booked m) c.entries) (s.progress q (outcome_at booked m)) l

    -- as its check waits
    pub ring-lacks : (m : ℕ) (q : List ℕ) (c : Check) → s.is_source q ≡ false → k q ≡ Some c →
        verdict_at s k deep q ≡ None → (finding s (outcome_at booked m) c.entries).standing ≡ lacks
    ring-lacks m q c target is waits = waiting m q c target is waits (λ x c' t e v. ring-at m x c' t e v)

    -- the verdicts of a run tell of it
    pub tells-own : (request : List (List ℕ)) (limit : ℕ) → length (needed_at booked request limit) ≤ limit →
        (p : List ℕ) (c : Check) → IsAmong (needed_at booked request limit) p → k p ≡ Some c →
        Tells s k (outcome_at booked limit) p c (verdict_at s k deep p) (first_drop s k (verdict_at s k deep) c.entries)
    tells-own request limit few p c needed is =
        let target = needed-target request limit few p needed in
        tells s k k (verdict_at s k deep) (outcome_at booked limit) p c (record {
          check = is;
          fixed = verdict-of (verdict_at s k deep) p c (verdict_at s k deep p) is (same p);
          fits = λ q m. fits-end request limit few deep q (asked-needed request limit few p c needed is q m);
          built = λ e. (fits-end request limit few deep p needed).kept c is e;
          waits = λ l. lacks-none limit p c target is l;
          ring = λ e. (ring-at limit p c target is e, ring-lacks limit p c target is e);
        })
