-- Two trees of a few files, by the definitions: a script that reads one source, and a file that nobody reads.
use Rattle.std.proofs.Common.{◌≡◌, ℕ, Bool, true, false, cond, List, [], ◌∷◌, ◌++◌, Some}
use Rattle.std.proofs.Common.{None, codes, inl, inr, refl, subst}
use Rattle.std.proofs.Common.{◌||◌, All, ap, bytes_eq, map, sym, unwrap_or, ◌∙◌}
use Rattle.std.specs.Arc.{arc_value}
use Rattle.std.proofs.lemmas.List.Elements.{All-cons, All-head, All-nil, All-tail}
use Rattle.std.proofs.lemmas.Bool.{false≢true, or_cases}
use Rattle.std.proofs.lemmas.Slice.Eq.{bytes_eq-Decides}
use Rattle.redo_script.specs.Bytes.{is_plain}
use Rattle.redo_script.specs.Reading.{next_byte, at_end, read_on, tokens_of}
use Rattle.redo_script.specs.Parsing.{parse_on, statements_of}
use Rattle.redo_script.specs.Texts.{script_in}
use Rattle.redo_tree.specs.Tree.{Tree, Directory, File, file_at, kind_of}
use Rattle.redo_record.specs.Answers.{file_in}
use Rattle.redo_record.specs.Paths.{IsAmong}
use Rattle.redo_record.specs.declared.deps.Dep.{Dep}
use Rattle.redo_record.specs.declared.deps.DepKind.TheVariants.{Change}
use Rattle.redo_record.specs.declared.outcome.Outcome.{Outcome}
use Rattle.redo_record.specs.declared.outcome.Outcome.TheVariants.{Built}
use Rattle.redo_step.specs.Path.{resolved}
use Rattle.redo_step.specs.Setting.{setting_by}
use Rattle.redo_step.specs.Statements.{meaning, run}
use Rattle.redo_build.specs.Outcomes.{final_outcome, needed_at}
use Rattle.redo_build.specs.Rules.{Rules}
use Rattle.redo_report.specs.Reports.{IsReport, deps_of, row_paths}
use Rattle.redo_report.specs.declared.report.Report.{Report}
use Rattle.redo_report.specs.declared.report.Row.{Row}
use Rattle.redo_step.specs.Limits.{LimitsView}
use Rattle.redo_rules.specs.Build.{rules_of}
use Rattle.redo_reads.specs.Reads.{AgreeOn, AreNamedAlike, HasReads}
use Rattle.redo_reads.proofs.ReportLemmas.{TellsOf, plain_report}
use Rattle.redo_reads.proofs.TargetLemmas.{RunsBegin}

abbrev line : List ℕ → List ℕ
line bytes = bytes ++ 10 ∷ []

-- a copies the source s; nothing reads u
abbrev tree : (source unread : List ℕ) → Tree
tree source unread =
    ([], Directory) ∷
    (codes "a.do", File (line (codes "redo-ifchange s") ++ line (codes "cat s"))) ∷
    (codes "s", File source) ∷
    (codes "u", File unread) ∷
    []

abbrev limits : LimitsView
limits = record { targets = 10; file_bytes = 1000 }

abbrev rules : (source unread : List ℕ) → Rules
rules source unread = rules_of (tree source unread) limits

-- the paths of what a's script has read
abbrev read : List ℕ → Bool
read p = bytes_eq p (codes "a.do") || (bytes_eq p (codes "s") || false)

-- the trees have the same names, whatever is in them
pub named_alike : (source other unread changed : List ℕ) → AreNamedAlike (tree source unread) (tree other changed)
named_alike source other unread changed p = by_places _ _ _ _
  where
    by_places : (top script first second : Bool) →
        kind_of (cond top (Some Directory) (cond script
        (Some (File (line (codes "redo-ifchange s") ++ line (codes "cat s"))))
        (cond first (Some (File other)) (cond second (Some (File changed)) None)))) ≡
        kind_of (cond top (Some Directory) (cond script
        (Some (File (line (codes "redo-ifchange s") ++ line (codes "cat s"))))
        (cond first (Some (File source)) (cond second (Some (File unread)) None))))
    by_places true script first second = refl
    by_places false true first second = refl
    by_places false false true second = refl
    by_places false false false true = refl
    by_places false false false false = refl

-- they agree on what was read, whatever is in the file that nobody reads
pub agree : (source unread changed : List ℕ) → AgreeOn read (tree source unread) (tree source changed)
agree source unread changed p h = elim (or_cases (bytes_eq p (codes "a.do")) (bytes_eq p (codes "s") || false) h) [
  | inl first ↦ same (sym ((bytes_eq-Decides p (codes "a.do")).0 first)) refl
  | inr other ↦ elim (or_cases (bytes_eq p (codes "s")) false other) [
    | inl second ↦ same (sym ((bytes_eq-Decides p (codes "s")).0 second)) refl
    | inr none ↦ absurd cc
  ]
]
  where
    same : {x : List ℕ} → x ≡ p → file_at (tree source changed) x ≡ file_at (tree source unread) x →
        file_at (tree source changed) p ≡ file_at (tree source unread) p
    same here e = subst (λ (y : List ℕ). file_at (tree source changed) y ≡ file_at (tree source unread) y) here e

-- a's record: its .do file and the source
abbrev entries : List Dep
entries = record { kind = Change; path = codes "a.do" } ∷ record { kind = Change; path = codes "s" } ∷ []

-- the paths have each file in it
covered : (source unread : List ℕ) → HasReads read (tree source unread) entries
covered source unread p h there = h

-- without the source they haven't
uncovered : (source unread : List ℕ) → HasReads (λ p. bytes_eq p (codes "a.do")) (tree source unread) entries → ⊥
uncovered source unread has = absurd (let no : false ≡ true = has (codes "s") refl refl in cc)

-- Of two sources, whatever is in the file that nobody reads

abbrev x : List ℕ
x = line (codes "x")

abbrev y : List ℕ
y = line (codes "y")

abbrev request : List (List ℕ)
request = codes "a" ∷ []

recorded : (unread : List ℕ) → deps_of (rules x unread) 1 (codes "a") ≡ entries
unfolding script_in tokens_of read_on next_byte at_end statements_of parse_on is_plain meaning run resolved setting_by
recorded unread = refl

needed : (unread : List ℕ) → needed_at (rules x unread) request 1 ≡ request
unfolding script_in tokens_of read_on next_byte at_end statements_of parse_on is_plain meaning run resolved setting_by
needed unread = refl

outcome_of_x : (unread : List ℕ) → final_outcome (rules x unread) 1 (codes "a") ≡ Built (Some x)
unfolding script_in tokens_of read_on next_byte at_end statements_of parse_on is_plain meaning run resolved setting_by
outcome_of_x unread = refl

outcome_of_y : (unread : List ℕ) → final_outcome (rules y unread) 1 (codes "a") ≡ Built (Some y)
unfolding script_in tokens_of read_on next_byte at_end statements_of parse_on is_plain meaning run resolved setting_by
outcome_of_y unread = refl

-- a report of the first source is covered
rows_covered : (unread : List ℕ) (rows : List Row) →
    ((p : List ℕ) → IsAmong (map (λ row. row.path) rows) p → codes "a" ≡ p) →
    All (TellsOf (rules x unread) 1) rows →
    All (λ row. HasReads read (tree x unread) (arc_value row.deps)) rows
rows_covered unread [] only told = All-nil (λ (row : Row). HasReads read (tree x unread) (arc_value row.deps))
rows_covered unread (row ∷ rows) only told =
    let tells = All-head (TellsOf (rules x unread) 1) row rows told in
    let deps : arc_value row.deps ≡ entries =
    tells.1
    ∙ ap (deps_of (rules x unread) 1) (sym (only row.path (inl refl)))
    ∙ recorded unread in
    All-cons (λ (row : Row). HasReads read (tree x unread) (arc_value row.deps)) row rows
    (subst (λ (ds : List Dep). HasReads read (tree x unread) ds) (sym deps) (covered x unread))
    (rows_covered unread rows (λ p m. only p (inr m)) (All-tail (TellsOf (rules x unread) 1) row rows told))

-- its rows are a's
rows_are_of_a : (source unread : List ℕ) (report : Report) → IsReport (rules source unread) request 1 report →
    needed_at (rules source unread) request 1 ≡ request → (p : List ℕ) → IsAmong (row_paths report) p → codes "a" ≡ p
rows_are_of_a source unread report is e p m = elim ((is.rows p).0 m) [
  | inl there ↦ alone p (subst (λ (ps : List (List ℕ)). IsAmong ps p) e there)
  | inr asked ↦ alone p asked.0
]
  where
    alone : (p : List ℕ) → IsAmong request p → codes "a" ≡ p
    alone p (inl here) = here
    alone p (inr none) = absurd none

-- so it is one whatever is in the file that nobody reads
pub one_report : RunsBegin → (unread changed : List ℕ) (report : Report) →
    IsReport (rules x unread) request 1 report → IsReport (rules x changed) request 1 report
one_report runs_begin unread changed report is =
    plain_report runs_begin (tree x unread) (tree x changed) limits request 1 read report
    (named_alike x x unread changed) (agree x unread changed) is
    (rows_covered unread report.rows.items (rows_are_of_a x unread report is (needed unread)) is.outcomes)

-- and none of another source
pub other_report : (unread changed : List ℕ) (report : Report) → IsReport (rules x unread) request 1 report →
    IsReport (rules y changed) request 1 report → ⊥
other_report unread changed report is also =
    let among : IsAmong (needed_at (rules x unread) request 1) (codes "a") =
    subst (λ (ps : List (List ℕ)). IsAmong ps (codes "a")) (sym (needed unread)) (inl refl) in
    let file = (is.files (codes "a") x).1 (among, outcome_of_x unread) in
    let there = ((also.files (codes "a") x).0 file).1 in
    let same : Built (Some y) ≡ Built (Some x) = sym (outcome_of_y changed) ∙ there in
    false≢true (ap (λ (o : Outcome). bytes_eq (unwrap_or (file_in o) []) x) same)
