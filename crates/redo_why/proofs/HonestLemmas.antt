-- Of an honest book, whatever else is requested.
use Rattle.std.proofs.Common.{◌≡◌, ℕ, suc, ◌≤◌, false, inr, List, [], length}
use Rattle.std.proofs.Common.{Some, None, sym, ap, ◌∙◌}
use Rattle.redo_record.specs.declared.outcome.Outcome.{Outcome}
use Rattle.redo_record.specs.declared.outcome.Outcome.TheVariants.{Built}
use Rattle.redo_record.specs.Paths.{IsAmong}
use Rattle.redo_build.specs.Rules.{Ask, AreLawful}
use Rattle.redo_build.specs.Outcomes.{outcome_at, needed_at}
use Rattle.redo_skip.specs.Sources.{Sources, without_book}
use Rattle.redo_skip.specs.Checks.{Check, Checks}
use Rattle.redo_skip.specs.Checks.{with_book, AreChecks}
use Rattle.redo_skip.specs.Truth.{AreHonest}
use Rattle.redo_skip.specs.NewBook.{IsGood, LastRun, checks_of, AreHonestRecords}
use Rattle.redo_skip.proofs.NeededLemmas.{check-needed, plain-target}
use Rattle.redo_skip.proofs.NewBookLemmas.{are-checks, honest-checks}
use Rattle.redo_skip.proofs.SkipLemmas.{sound_at, outcomes-agree}
use Rattle.redo_why.specs.Verdicts.{verdict, verdict_checked, verdict_at}
use Rattle.redo_why.specs.OutOfDate.{first_drop, checks_left}
use Rattle.redo_why.proofs.MarkLemmas.{FitsAt, none-lacks}
use Rattle.redo_why.proofs.KeptLemmas.{Tells, kept-at, lacks-none, lost-at, ring-at, tells}

module _ (s : Sources) (last : LastRun) (request : List (List ℕ)) (limit : ℕ) (lawful : AreLawful (without_book s))
    (good : IsGood s) (few : length (needed_at (without_book s) request limit) ≤ limit)
    (honest : AreHonestRecords s last (outcome_at (without_book s) limit)) where
  abbrev left : Checks
  left = checks_left s last

  abbrev checks : Checks
  checks = checks_of s last request

  abbrev end : Ask
  end = outcome_at (with_book s checks) limit

  abbrev IsNeededPlain : List ℕ → Type 0
  IsNeededPlain p = IsAmong (needed_at (without_book s) request limit) p

  are-left : AreChecks s left
  are-left = are-checks s last []

  are-here : AreChecks s checks
  are-here = are-checks s last request

  honest-left : AreHonest s left (outcome_at (without_book s) limit)
  honest-left = honest-checks s last [] (outcome_at (without_book s) limit) honest

  honest-here : AreHonest s checks (outcome_at (without_book s) limit)
  honest-here = honest-checks s last request (outcome_at (without_book s) limit) honest

  -- what a build that requests nothing would decide is decided here
  to-end : (n : ℕ) (q : List ℕ) (o : Outcome) → IsNeededPlain q → outcome_at (with_book s left) n q ≡ Some o →
      end q ≡ Some o
  to-end n q o m e =
      outcomes-agree s checks lawful are-here request limit few honest-here q m
      ∙ sound_at s left lawful are-left request limit few honest-left n q o m e

  target-of : (q : List ℕ) → IsNeededPlain q → s.is_source q ≡ false
  target-of q m = plain-target s checks lawful are-here request limit few honest-here q m

  fits-honest : (n : ℕ) (q : List ℕ) → IsNeededPlain q → FitsAt s left (verdict_at s left n) end q
  fits-honest n q m = record {
    kept = λ c is keeps.
        to-end (suc n) q (Built c.file) m (kept-at s left lawful are-left good n q c (target-of q m) is keeps);
    lost = λ unruled.
        let fails = lost-at s left lawful are-left good 0 q (target-of q m) unruled in
        (fails.0, to-end 1 q fails.0 m fails.1, fails.2);
  }

  honest-ring : (deep : ℕ) → ((q : List ℕ) → verdict_at s left (suc deep) q ≡ verdict_at s left deep q) →
      (p : List ℕ) (c : Check) → IsNeededPlain p → left p ≡ Some c → verdict_at s left deep p ≡ None → end p ≡ None
  honest-ring deep same p c m is waits =
      outcomes-agree s checks lawful are-here request limit few honest-here p m
      ∙ sym (outcomes-agree s left lawful are-left request limit few honest-left p m)
      ∙ ring-at s left lawful are-left good deep same limit p c (target-of p m) is waits

  -- the verdicts of a run that requests nothing tell of this one
  pub tells-honest : (deep : ℕ) → ((q : List ℕ) → verdict_at s left (suc deep) q ≡ verdict_at s left deep q) →
      (p : List ℕ) (c : Check) → IsNeededPlain p → left p ≡ Some c → checks p ≡ Some c →
      Tells s checks end p c (verdict_at s left deep p) (first_drop s left (verdict_at s left deep) c.entries)
  tells-honest deep same p c m is here =
      let needed = check-needed s checks lawful are-here request limit few honest-here p c m here in
      let fixed : verdict s left (verdict_at s left deep) c.entries ≡ verdict_at s left deep p =
      sym (ap (verdict_checked s left (verdict_at s left deep)) is) ∙ same p in
      tells s checks left (verdict_at s left deep) end p c (record {
        check = here;
        fixed = fixed;
        fits = λ q asked. fits-honest deep q (needed q asked);
        built = λ e. (fits-honest deep p m).kept c is e;
        waits = λ l. lacks-none s checks lawful are-here good limit p c (target-of p m) here l;
        ring = λ e. (
          honest-ring deep same p c m is e,
          none-lacks s left (verdict_at s left deep) end c.entries (fixed ∙ e) (λ q asked. record {
            kept = λ c' e v. inr ((fits-honest deep q (needed q asked)).kept c' e v);
            waits = λ c' e v. honest-ring deep same q c' (needed q asked) e v;
          }),
        );
      })
