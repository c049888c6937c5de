-- With an honest book no more targets are needed than without one.
use Rattle.std.proofs.Common.{◌≡◌, ℕ, ◌≤◌, false, inl, inr, List, length, Option, Some, None, refl, sym, subst, arith}
use Rattle.redo_names.proofs.ListLemmas.{within-length}
use Rattle.redo_record.specs.declared.outcome.Outcome.{Outcome}
use Rattle.redo_record.specs.Paths.{IsAmong}
use Rattle.redo_record.specs.Progress.{Progress, operands}
use Rattle.redo_build.specs.Rules.{Ask, AreLawful, Rules, asked_under}
use Rattle.redo_build.specs.Outcomes.{outcome_at, needed_at, IsSettled}
use Rattle.redo_build.specs.Schedule.{only}
use Rattle.redo_build.proofs.DepthLemmas.{reached-target, reached-within, reached-more, reached-distinct, settled}
use Rattle.redo_skip.specs.Sources.{Sources, without_book}
use Rattle.redo_skip.specs.Checks.{finding, Check, Checks, progress_checked, with_book, AreChecks}
use Rattle.redo_skip.specs.Truth.{AreHonest}
use Rattle.redo_skip.proofs.AskedLemmas.{asked-cases}
use Rattle.redo_skip.proofs.AgreeLemmas.{check-asked}
use Rattle.redo_skip.proofs.LawfulLemmas.{with_book-lawful}
use Rattle.redo_skip.proofs.SkipLemmas.{known-more, known-same, sound_at}

module _ (s : Sources) (k : Checks) (lawful : AreLawful (without_book s)) (are : AreChecks s k)
    (request : List (List ℕ)) (limit : ℕ) (few : length (needed_at (without_book s) request limit) ≤ limit)
    (honest : AreHonest s k (outcome_at (without_book s) limit)) where
  abbrev plain : Rules
  plain = without_book s

  abbrev booked : Rules
  booked = with_book s k

  abbrev IsNeeded : List ℕ → Type 0
  IsNeeded p = IsAmong (needed_at plain request limit) p

  still : IsSettled plain request limit
  still = settled plain lawful request limit few

  pub plain-target : (p : List ℕ) → IsNeeded p → s.is_source p ≡ false
  plain-target p m = reached-target plain lawful request limit limit p m

  needed-asks : (p q : List ℕ) → IsNeeded p → IsAmong (asked_under plain p (outcome_at plain limit)) q → IsNeeded q
  needed-asks p q m asks = still.closed limit p q m asks

  sound-end : (q : List ℕ) (o : Outcome) → IsNeeded q → outcome_at booked limit q ≡ Some o →
      outcome_at plain limit q ≡ Some o
  sound-end q o m e = sound_at s k lawful are request limit few honest limit q o m e

  -- what a check asks for is needed without the book
  pub check-needed : (p : List ℕ) (c : Check) → IsNeeded p → k p ≡ Some c → (q : List ℕ) →
      IsAmong (finding s (outcome_at booked limit) c.entries).asked q → IsNeeded q
  check-needed p c m is q asked = needed-asks p q m
      (check-asked s p c (outcome_at plain limit) (outcome_at booked limit) (are.ruled p c is) (honest p c is)
      (λ x o asks e. sound-end x o (needed-asks p x m asks) e) q asked)

  -- what a script asks for is needed without the book
  script-needed : (p q : List ℕ) → IsNeeded p →
      IsAmong (operands s.is_source (s.progress p (outcome_at booked limit)).deps) q → IsNeeded q
  script-needed p q m asks =
      let end : Ask = outcome_at booked limit in
      let sound = sound_at s k lawful are request limit few honest limit in
      let same = known-same s k lawful are request limit few honest p end m sound in
      let P : Progress → Type 0 = λ x. IsAmong (operands s.is_source x.deps) q in
      needed-asks p q m ((lawful.each p).grows q (only (needed_at plain request limit) end) (outcome_at plain limit)
      (known-more s k lawful are request limit few honest end sound) (subst P (sym same) asks))

  asked-by : (p q : List ℕ) (o : Option Check) → IsNeeded p → k p ≡ o →
      IsAmong (operands s.is_source (progress_checked s p o (outcome_at booked limit)).deps) q → IsNeeded q
  asked-by p q None m is asks = script-needed p q m asks
  asked-by p q (Some c) m is asks =
      elim (asked-cases s.is_source c.file (finding s (outcome_at booked limit) c.entries)
      (s.progress p (outcome_at booked limit)) q asks) [
        | inl first ↦ check-needed p c m is q first
        | inr own ↦ script-needed p q m own.1
      ]

  -- cyclic targets or not: what the build with an honest book needs, the build without it needs
  pub needed-plain : (p : List ℕ) → IsAmong (needed_at booked request limit) p → IsNeeded p
  needed-plain p m = reached-within booked (with_book-lawful s k lawful are) request limit limit IsNeeded
      (λ q first. reached-more plain lawful request limit 0 limit q (omega arith) first)
      (λ x q needed asks. asked-by x q (k x) needed refl asks) p m

  -- so the build with the book keeps to the limit, too
  pub within-plain : length (needed_at booked request limit) ≤ limit
  within-plain = omega (
    arith,
    few,
    within-length (needed_at booked request limit) (needed_at plain request limit)
        (reached-distinct booked (with_book-lawful s k lawful are) request limit limit) needed-plain,
  )
