-- A build with a book looks at what the book names and at what its report names.
use Rattle.std.proofs.Common.{Bool, ◌≡◌, ℕ, ◌≤◌, true, false, inl, Option, Some, None}
use Rattle.std.proofs.Common.{List, flat_map, arith, refl, sym, ap, subst, ◌∙◌}
use Rattle.redo_tree.specs.Tree.{file_at}
use Rattle.redo_which.specs.Rule.{is_rule}
use Rattle.redo_record.specs.Paths.{IsAmong}
use Rattle.redo_record.specs.declared.deps.Dep.{Dep}
use Rattle.redo_record.specs.declared.deps.DepKind.TheVariants.{Change}
use Rattle.redo_build.specs.Outcomes.{needed_at, outcome_at}
use Rattle.redo_build.specs.Rules.{AreLawful, Rules}
use Rattle.redo_build.proofs.DepthLemmas.{deeper, reached-target}
use Rattle.redo_book.specs.Book.{Record, record_at, targets_of}
use Rattle.redo_book.specs.declared.book.BookEntry.{BookEntry}
use Rattle.redo_report.specs.Reports.{IsReport, deps_of, row_paths}
use Rattle.redo_report.specs.declared.report.Report.{Report}
use Rattle.redo_past.specs.Past.{PastView}
use Rattle.redo_rules.specs.Build.{GivenView, checks_for, last_run_of, rules_for, sources_for}
use Rattle.redo_rules.proofs.Public.{lawful_for}
use Rattle.redo_skip.specs.Checks.{Check, progress_checked, record_checked}
use Rattle.redo_skip.specs.Sources.{Sources}
use Rattle.redo_reads.specs.Reads.{AgreeOn, AreNamedAlike, HasReads, IsCovered, changed_in}
use Rattle.redo_reads.proofs.BuildLemmas.{Follow}
use Rattle.redo_reads.proofs.CheckLemmas.{SameIn, begins_by, begins_same, begun_record, check_record, checks_same}
use Rattle.redo_reads.proofs.CheckLemmas.{progress_same, record_same}
use Rattle.redo_reads.proofs.ReportLemmas.{covered_read, record_covered, report_same, target_deps}
use Rattle.redo_reads.proofs.RunReadLemmas.{AreRead, same_everywhere}
use Rattle.redo_reads.proofs.SearchLemmas.{files_alike, found_alike}
use Rattle.redo_reads.proofs.TargetLemmas.{RunsBegin, progress_grows, progress_reads}

module _ (runs_begin : RunsBegin) (given : GivenView) (now : PastView) (paths : List ℕ → Bool) (report : Report)
    (book_same : now.book ≡ given.past.book) (alike : AreNamedAlike given.past.sources now.sources)
    (agree : AgreeOn paths given.past.sources now.sources)
    (targets : (p : List ℕ) → IsAmong (targets_of given.past.book) p → file_at now.tree p ≡ file_at given.past.tree p)
    (checked : (p : List ℕ) → IsAmong (row_paths report) p → (x : Record) → record_at given.past.book p ≡ Some x →
    (q : List ℕ) → IsAmong (flat_map changed_in x.entries) q → file_at now.sources q ≡ file_at given.past.sources q)
    (is : IsReport (rules_for given) given.request given.limits.targets report)
    (covered : IsCovered paths given.past.sources report) where
  abbrev bytes : ℕ
  bytes = given.limits.file_bytes

  abbrev limit : ℕ
  limit = given.limits.targets

  abbrev r : Rules
  r = rules_for given

  -- the build over the other tree
  abbrev other : GivenView
  other = record { past = now; request = given.request; limits = given.limits }

  abbrev q : Rules
  q = rules_for other

  abbrev s : Sources
  s = sources_for given

  abbrev t : Sources
  t = sources_for other

  abbrev check : List ℕ → Option Check
  check = checks_for given

  ruled_alike : (p : List ℕ) → t.has_rule p ≡ s.has_rule p
  ruled_alike p = ap is_rule (found_alike given.past.sources now.sources alike p)

  check_alike : (p : List ℕ) → checks_for other p ≡ check p
  check_alike =
      checks_same s t (last_run_of given.past) (last_run_of now) given.request book_same ruled_alike targets

  same_in : (p : List ℕ) → IsAmong (needed_at r given.request limit) p →
      SameIn given.past.sources now.sources alike bytes (check p)
  same_in p m = by_check (check p) refl
    where
      by_check : (o : Option Check) → check p ≡ o → SameIn given.past.sources now.sources alike bytes o
      by_check None e = tt
      by_check (Some c) e = λ x among.
          let of : (y : Record) × (record_at given.past.book p ≡ Some y) × (y.entries ≡ c.entries) =
          check_record s (last_run_of given.past) given.request p c e in
          checked p ((is.rows p).1 (inl m)) of.0 of.1 x
          (subst (λ (es : List BookEntry). IsAmong (flat_map changed_in es) x) (sym of.2) among)

  -- what a script that is begun has read
  own_read : (n : ℕ) → n ≤ limit → (p : List ℕ) → IsAmong (needed_at r given.request limit) p →
      begins_by s (check p) (outcome_at r n) ≡ true →
      AreRead (file_at given.past.sources) (file_at now.sources) (s.progress p (outcome_at r n)).deps
  own_read n le p m begun x h =
      let lawful : AreLawful r = lawful_for given in
      let later : begins_by s (check p) (outcome_at r limit) ≡ true =
      lawful.begins_stays p (outcome_at r n) (outcome_at r limit) (deeper r lawful n limit le) begun in
      let target : r.is_source p ≡ false = reached-target r lawful given.request limit limit p m in
      let has : HasReads paths given.past.sources (deps_of r limit p) =
      record_covered r limit paths given.past.sources report.rows.items is.outcomes covered p
      ((is.rows p).1 (inl m)) in
      let own : deps_of r limit p ≡ (s.progress p (outcome_at r limit)).deps =
      target_deps r limit p target ∙ begun_record s p (check p) (outcome_at r limit) later in
      covered_read paths given.past.sources now.sources alike agree (s.progress p (outcome_at r limit)).deps
      (subst (λ (deps : List Dep). HasReads paths given.past.sources deps) own has) x
      (progress_grows runs_begin given.past.sources bytes p (outcome_at r n) (outcome_at r limit)
      (deeper r lawful n limit le) Change x h)

  own_same : (n : ℕ) → n ≤ limit → (p : List ℕ) → IsAmong (needed_at r given.request limit) p →
      begins_by s (check p) (outcome_at r n) ≡ true → t.progress p (outcome_at r n) ≡ s.progress p (outcome_at r n)
  own_same n le p m begun =
      progress_reads given.past.sources now.sources alike bytes p (outcome_at r n) (own_read n le p m begun)

  follows : Follow r q given.request limit
  follows = record {
    source = files_alike given.past.sources now.sources alike;
    ruled = same_everywhere q.has_rule r.has_rule ruled_alike;
    step = λ n le p m.
        ap (λ (c : Option Check). progress_checked t p c (outcome_at r n)) (check_alike p)
        ∙ progress_same given.past.sources now.sources alike bytes p (check p) (outcome_at r n) (same_in p m)
        (own_same n le p m);
    begins = λ p m.
        ap (λ (c : Option Check). begins_by t c (outcome_at r limit)) (check_alike p)
        ∙ begins_same given.past.sources now.sources alike bytes (check p) (outcome_at r limit) (same_in p m);
    recorded = λ p m.
        ap (λ (c : Option Check). record_checked t p c (outcome_at r limit)) (check_alike p)
        ∙ record_same given.past.sources now.sources alike bytes p (check p) (outcome_at r limit) (same_in p m)
        (own_same limit (omega arith) p m);
  }

  pub booked_report : IsReport (rules_for other) given.request limit report
  booked_report = report_same r q (lawful_for given) (lawful_for other) given.request limit report is follows
