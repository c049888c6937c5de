-- Two trees with the same names that agree on what a report names have that report.
use Rattle.std.proofs.Common.{◌≡◌, ℕ, zero, suc, ◌≤◌, Bool, true, false, cond, inl, inr, Option, Some, None, ◌⊎◌}
use Rattle.std.proofs.Common.{List, [], ◌∷◌, length, map, All, arith, refl, sym, ap, ap₂, subst, ◌∙◌}
use Rattle.std.specs.Prelude.{is_some, unwrap_or}
use Rattle.std.specs.Arc.{arc_value}
use Rattle.std.proofs.lemmas.Bool.{cases_Bool}
use Rattle.std.proofs.lemmas.List.Elements.{All-cons, All-head, All-nil, All-tail}
use Rattle.redo_tree.specs.Tree.{Tree, file_at}
use Rattle.redo_which.specs.Rule.{is_file, is_rule}
use Rattle.redo_record.specs.Paths.{IsAmong}
use Rattle.redo_record.specs.Progress.{Progress}
use Rattle.redo_record.specs.declared.deps.Dep.{Dep}
use Rattle.redo_record.specs.declared.deps.DepKind.TheVariants.{Change}
use Rattle.redo_record.specs.declared.outcome.Outcome.{Outcome}
use Rattle.redo_record.specs.declared.outcome.Outcome.TheVariants.{Cyclic, Source}
use Rattle.redo_build.specs.Outcomes.{IsSettled, final_outcome, needed_at, outcome_at, record_of}
use Rattle.redo_build.specs.Rules.{Rules, AreLawful}
use Rattle.redo_build.proofs.DepthLemmas.{deeper, reached-target, settled}
use Rattle.redo_report.specs.Reports.{IsReport, deps_of, row_paths}
use Rattle.redo_report.specs.declared.report.Report.{Report}
use Rattle.redo_report.specs.declared.report.Row.{Row}
use Rattle.redo_step.specs.Limits.{LimitsView}
use Rattle.redo_rules.specs.Build.{rules_of}
use Rattle.redo_rules.proofs.Public.{rules_lawful}
use Rattle.redo_reads.specs.Reads.{AgreeOn, AreNamedAlike, HasReads, IsCovered}
use Rattle.redo_reads.proofs.BuildLemmas.{Follow, begins_same, final_same, needed_same, record_same, source_same}
use Rattle.redo_reads.proofs.RunReadLemmas.{AreRead, same_everywhere}
use Rattle.redo_reads.proofs.SearchLemmas.{file_alike, files_alike, found_alike}
use Rattle.redo_reads.proofs.TargetLemmas.{RunsBegin, progress_grows, progress_reads}

-- Rows

-- what a row tells
abbrev pub TellsOf : Rules → ℕ → Row → Type 0
TellsOf r limit row =
    (row.outcome ≡ final_outcome r limit row.path) × (arc_value row.deps ≡ deps_of r limit row.path)

-- what becomes of a source
source_outcome : (r : Rules) (n : ℕ) (p : List ℕ) → r.is_source p ≡ true → outcome_at r n p ≡ Some Source
source_outcome r zero p e = ap (λ (b : Bool). cond b (Some Source) None) e
source_outcome r (suc n) p e = ap (λ (b : Bool). cond b (Some Source) (r.progress p (outcome_at r n)).outcome) e

source_final : (r : Rules) (n : ℕ) (p : List ℕ) → r.is_source p ≡ true → final_outcome r n p ≡ Source
source_final r n p e = ap (λ (o : Option Outcome). unwrap_or o Cyclic) (source_outcome r n p e)

source_deps : (r : Rules) (n : ℕ) (p : List ℕ) → r.is_source p ≡ true → deps_of r n p ≡ []
source_deps r n p e = ap (λ (b : Bool). cond b [] (record_of r n p)) e

pub target_deps : (r : Rules) (n : ℕ) (p : List ℕ) → r.is_source p ≡ false → deps_of r n p ≡ record_of r n p
target_deps r n p e = ap (λ (b : Bool). cond b [] (record_of r n p)) e

-- The same report

module _ (r q : Rules) (r_lawful : AreLawful r) (q_lawful : AreLawful q) (request : List (List ℕ)) (limit : ℕ)
    (report : Report) (is : IsReport r request limit report) (follow : Follow r q request limit) where
  enough : IsSettled r request limit
  enough = settled r r_lawful request limit is.within

  needed_there : (p : List ℕ) → IsAmong (needed_at r request limit) p → IsAmong (needed_at q request limit) p
  needed_there p m =
      subst (λ (ps : List (List ℕ)). IsAmong ps p)
      (sym (needed_same r q r_lawful q_lawful request limit enough follow)) m

  needed_back : (p : List ℕ) → IsAmong (needed_at q request limit) p → IsAmong (needed_at r request limit) p
  needed_back p m =
      subst (λ (ps : List (List ℕ)). IsAmong ps p) (needed_same r q r_lawful q_lawful request limit enough follow) m

  source : (p : List ℕ) → q.is_source p ≡ r.is_source p
  source = source_same r q r_lawful q_lawful request limit enough follow

  final : (p : List ℕ) → IsAmong (needed_at r request limit) p → final_outcome q limit p ≡ final_outcome r limit p
  final = final_same r q r_lawful q_lawful request limit enough follow

  -- a row of either kind tells the same of the second build
  row_same : (row : Row) →
      IsAmong (needed_at r request limit) row.path ⊎ (IsAmong request row.path × (r.is_source row.path ≡ true)) →
      TellsOf r limit row → TellsOf q limit row
  row_same row (inl m) told = (
    told.0 ∙ sym (final row.path m),
    told.1
        ∙ sym (ap₂ (λ (b : Bool) (deps : List Dep). cond b [] deps) (source row.path)
        (record_same r q r_lawful q_lawful request limit enough follow row.path m)),
  )
  row_same row (inr asked) told =
      let there : q.is_source row.path ≡ true = source row.path ∙ asked.1 in (
        told.0 ∙ source_final r limit row.path asked.1 ∙ sym (source_final q limit row.path there),
        told.1 ∙ source_deps r limit row.path asked.1 ∙ sym (source_deps q limit row.path there),
      )

  rows_same : (rows : List Row) →
      ((p : List ℕ) → IsAmong (map (λ row. row.path) rows) p → IsAmong (row_paths report) p) →
      All (TellsOf r limit) rows → All (TellsOf q limit) rows
  rows_same [] among told = All-nil (TellsOf q limit)
  rows_same (row ∷ rows) among told =
      All-cons (TellsOf q limit) row rows
      (row_same row ((is.rows row.path).0 (among row.path (inl refl))) (All-head (TellsOf r limit) row rows told))
      (rows_same rows (λ p m. among p (inr m)) (All-tail (TellsOf r limit) row rows told))

  pub report_same : IsReport q request limit report
  report_same = record {
    within = subst (λ (ps : List (List ℕ)). length ps ≤ limit)
        (sym (needed_same r q r_lawful q_lawful request limit enough follow)) is.within;
    rows = λ p. (
      λ m. elim ((is.rows p).0 m) [
        | inl needed ↦ inl (needed_there p needed)
        | inr asked ↦ inr (asked.0, source p ∙ asked.1)
      ],
      λ there. (is.rows p).1 (elim there [
        | inl needed ↦ inl (needed_back p needed)
        | inr asked ↦ inr (asked.0, sym (source p) ∙ asked.1)
      ]),
    );
    outcomes = rows_same report.rows.items (λ p m. m) is.outcomes;
    files = λ p bytes. (
      λ listed. let there = (is.files p bytes).0 listed in (needed_there p there.0, final p there.0 ∙ there.1),
      λ there. let m = needed_back p there.0 in (is.files p bytes).1 (m, sym (final p m) ∙ there.1),
    );
    begun = λ p.
        let ruled : q.has_rule p ≡ r.has_rule p = ap (λ (f : List ℕ → Bool). f p) follow.ruled in (
          λ listed.
              let there = (is.begun p).0 listed in (
                needed_there p there.0,
                ruled ∙ there.1,
                begins_same r q r_lawful q_lawful request limit enough follow p there.0 ∙ there.2,
              ),
          λ there.
              let m = needed_back p there.0 in
              (is.begun p).1 (
                m,
                sym ruled ∙ there.1,
                sym (begins_same r q r_lawful q_lawful request limit enough follow p m) ∙ there.2,
              ),
        );
    rows_ordered = is.rows_ordered;
    files_ordered = is.files_ordered;
    begun_ordered = is.begun_ordered;
  }

-- What a covered report has read

-- the record of a path that has a row is covered
pub record_covered : (r : Rules) (limit : ℕ) (paths : List ℕ → Bool) (tree : Tree) (rows : List Row) →
    All (TellsOf r limit) rows → All (λ row. HasReads paths tree (arc_value row.deps)) rows → (p : List ℕ) →
    IsAmong (map (λ row. row.path) rows) p → HasReads paths tree (deps_of r limit p)
record_covered r limit paths tree [] told covered p m = absurd m
record_covered r limit paths tree (row ∷ rows) told covered p m = elim m [
  | inl here ↦
      let has = All-head (λ (x : Row). HasReads paths tree (arc_value x.deps)) row rows covered in
      let tells = All-head (TellsOf r limit) row rows told in
      subst (λ (deps : List Dep). HasReads paths tree deps) (tells.1 ∙ ap (deps_of r limit) here) has
  | inr later ↦
      record_covered r limit paths tree rows (All-tail (TellsOf r limit) row rows told)
      (All-tail (λ (x : Row). HasReads paths tree (arc_value x.deps)) row rows covered) p later
]

nothing_there : (o : Option (List ℕ)) → is_some o ≡ false → o ≡ None
nothing_there None e = refl
nothing_there (Some bytes) e = absurd cc

-- a path has the same file in both trees if they agree on it where it is a file
pub agreed_file : (paths : List ℕ → Bool) (one two : Tree) → AreNamedAlike one two → AgreeOn paths one two →
    (p : List ℕ) → (is_file one p ≡ true → paths p ≡ true) → file_at two p ≡ file_at one p
agreed_file paths one two alike agree p has = elim (cases_Bool (is_file one p)) [
  | inl there ↦ agree p (has there)
  | inr gone ↦
      nothing_there (file_at two p) (file_alike one two alike p ∙ gone) ∙ sym (nothing_there (file_at one p) gone)
]

-- what is covered and agreed on is the same in both
pub covered_read : (paths : List ℕ → Bool) (one two : Tree) → AreNamedAlike one two → AgreeOn paths one two →
    (deps : List Dep) → HasReads paths one deps → AreRead (file_at one) (file_at two) deps
covered_read paths one two alike agree deps has p h = agreed_file paths one two alike agree p (has p h)

module _ (runs_begin : RunsBegin) (one two : Tree) (limits : LimitsView) (request : List (List ℕ)) (limit : ℕ)
    (paths : List ℕ → Bool) (report : Report) (alike : AreNamedAlike one two) (agree : AgreeOn paths one two)
    (is : IsReport (rules_of one limits) request limit report) (covered : IsCovered paths one report) where
  abbrev r : Rules
  r = rules_of one limits

  abbrev q : Rules
  q = rules_of two limits

  read_at_limit : (p : List ℕ) → IsAmong (needed_at r request limit) p →
      AreRead (file_at one) (file_at two) (record_of r limit p)
  read_at_limit p m =
      let target : r.is_source p ≡ false = reached-target r (rules_lawful one limits) request limit limit p m in
      let has : HasReads paths one (deps_of r limit p) =
      record_covered r limit paths one report.rows.items is.outcomes covered p ((is.rows p).1 (inl m)) in
      covered_read paths one two alike agree (record_of r limit p)
      (subst (λ (deps : List Dep). HasReads paths one deps) (target_deps r limit p target) has)

  came_same : (n : ℕ) → n ≤ limit → (p : List ℕ) → IsAmong (needed_at r request limit) p →
      q.progress p (outcome_at r n) ≡ r.progress p (outcome_at r n)
  came_same n le p m =
      progress_reads one two alike limits.file_bytes p (outcome_at r n) (λ x h.
      read_at_limit p m x
      (progress_grows runs_begin one limits.file_bytes p (outcome_at r n) (outcome_at r limit)
      (deeper r (rules_lawful one limits) n limit le) Change x h))

  follows : Follow r q request limit
  follows = record {
    source = files_alike one two alike;
    ruled = same_everywhere q.has_rule r.has_rule (λ p. ap is_rule (found_alike one two alike p));
    step = came_same;
    begins = λ p m. refl;
    recorded = λ p m. ap (λ (x : Progress). x.deps) (came_same limit (omega arith) p m);
  }

  pub plain_report : IsReport q request limit report
  plain_report =
      report_same r q (rules_lawful one limits) (rules_lawful two limits) request limit report is follows
