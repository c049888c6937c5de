-- The begun scripts of a build, each with its reason.
use Rattle.std.proofs.Common.{◌≡◌, ◌∙◌, ◌+◌, ◌<◌, ℕ, inl, inr, List, [], ◌∷◌, ◌++◌, Option, Some, None, All, ap, flat_map}
use Rattle.std.proofs.Common.{length, map, refl, slice_index_or, sym, subst, take}
use Rattle.std.proofs.lemmas.List.{append-nil}
use Rattle.std.specs.List.{AllByRecursion, cons_option}
use Rattle.std.specs.Prelude.{filter_map, if◌then◌else◌, option_map}
use Rattle.redo_names.specs.Paths.{IsAmong, is_among}
use Rattle.redo_tree.specs.Tree.{Tree}
use Rattle.redo_which.specs.Rule.{found_of}
use Rattle.redo_book.specs.declared.book.BookEntry.{BookEntry}
use Rattle.redo_book.specs.declared.book.BookEntry.TheVariants.{Change, Create, Always}
use Rattle.redo_book.specs.Book.{Record, record_at}
use Rattle.redo_book.specs.Intact.{is_intact}
use Rattle.redo_build.specs.Outcomes.{outcome_at}
use Rattle.redo_build.specs.Rules.{Ask}
use Rattle.redo_report.specs.Reports.{IsReport}
use Rattle.redo_report.specs.declared.report.Report.{Report}
use Rattle.redo_report.specs.declared.report.Row.{Row}
use Rattle.redo_past.specs.Past.{PastView}
use Rattle.redo_past.proofs.LoopLemmas.{made-more}
use Rattle.redo_skip.specs.Checks.{standing}
use Rattle.redo_skip.specs.NewBook.{LastRun}
use Rattle.redo_rules.specs.Build.{GivenView, last_run_of, rules_for, sources_by}
use Rattle.redo_rules.specs.Results.{IsResult}
use Rattle.redo_why.specs.Reasons.{Reason, Requested, Altered, first_by, first_fallen, reason_fallen, reason_recorded}
use Rattle.redo_why_trees.specs.TreeWhy.{TellsOf, reason_for}
use Rattle.redo_explain.specs.Explained.{AreReasons, IsExplained}
use Rattle.redo_explain.specs.Words.{reason_line}
use Rattle.redo_explain.specs.inside.Listed.{begun_at, begun_in, reason_in}
use Rattle.redo_explain.specs.inside.Told.{AreRows, told_by}
use Rattle.redo_explain.proofs.RowLemmas.{rows-tell}

-- A limit of a file's bytes changes no reason

module _ (tree : Tree) (n m : ℕ) (a : Ask) where
  standing-same : (e : BookEntry) → standing (sources_by tree n) a e ≡ standing (sources_by tree m) a e
  standing-same (Change state q) = refl
  standing-same (Create q) = refl
  standing-same Always = refl

  fallen-same : (es : List BookEntry) → first_fallen (sources_by tree n) a es ≡ first_fallen (sources_by tree m) a es
  fallen-same [] = refl
  fallen-same (e ∷ es) =
      ap (λ v. first_by e v (first_fallen (sources_by tree n) a es)) (standing-same e)
      ∙ ap (first_by e (standing (sources_by tree m) a e)) (fallen-same es)

  recorded-same : (last : LastRun) (o : Option Record) →
      reason_recorded (sources_by tree n) last a o ≡ reason_recorded (sources_by tree m) last a o
  recorded-same last None = refl
  recorded-same last (Some r) =
      ap (λ e. if is_intact last.file r then reason_fallen e else Some Altered) (fallen-same r.entries)

-- by a set of the requested paths the reason is the same
reason-same : (given : GivenView) (requested : List (List ℕ)) (rows : List Row) (p : List ℕ) →
    is_among requested p ≡ is_among given.request p →
    reason_in given.past requested rows p ≡ reason_for given (told_by rows) p
reason-same given requested rows p same =
    let last = last_run_of given.past in
    let o = record_at given.past.book p in
    ap (λ b. if b then Some Requested else reason_recorded (sources_by given.past.sources 0) last (told_by rows) o) same
    ∙ ap (λ r. if is_among given.request p then Some Requested else r)
    (recorded-same given.past.sources 0 given.limits.file_bytes (told_by rows) last o)

-- Where each target has a reason, none is left out

module _ (reason : List ℕ → Option Reason) (P : List ℕ × Reason → Type 0) where
  none-left : (ps : List (List ℕ)) →
      ((p : List ℕ) → IsAmong ps p → (why : Reason) × (reason p ≡ Some why) × P (p, why)) →
      (map (λ b. b.0) (filter_map (begun_at reason) ps) ≡ ps) × AllByRecursion P (filter_map (begun_at reason) ps)
  none-left [] each = (refl, tt)
  none-left (p ∷ ps) each =
      let one = each p (inl refl) in
      let rest = none-left ps (λ q m. each q (inr m)) in
      rw one.1 (ap (λ l. p ∷ l) rest.0, (one.2, rest.1))

-- One target more

module _ (past : PastView) (requested : List (List ℕ)) (rows : List Row) (targets : List (List ℕ)) (i : ℕ)
    (target : List ℕ) (below : i < length targets) (is : target ≡ slice_index_or targets i target)
    (begun : List (List ℕ × Reason)) (before : begun ≡ begun_in past requested rows (take i targets)) where
  abbrev reason_here : List ℕ → Option Reason
  reason_here = reason_in past requested rows

  more : begun_in past requested rows (take (i + 1) targets) ≡ begun ++ cons_option (begun_at reason_here target) []
  more =
      made-more (begun_at reason_here) targets i target below is
      ∙ ap (λ bs. bs ++ cons_option (begun_at reason_here target) []) (sym before)

  pub with-reason : (why : Reason) → Some why ≡ reason_here target →
      begun ++ (target, why) ∷ [] ≡ begun_in past requested rows (take (i + 1) targets)
  with-reason why told =
      sym (more ∙ ap (λ r. begun ++ cons_option (option_map (λ w. (target, w)) r) []) (sym told))

  pub without-reason : None ≡ reason_here target → begun ≡ begun_in past requested rows (take (i + 1) targets)
  without-reason told =
      sym (more ∙ ap (λ r. begun ++ cons_option (option_map (λ w. (target, w)) r) []) (sym told) ∙ append-nil begun)

-- The whole build

module _ (given : GivenView) (result : Report) (is : IsResult given result) where
  abbrev end : Ask
  end = outcome_at (rules_for given) given.limits.targets

  -- what the law of reports says of this build
  abbrev pub GivesReasons : Type 0
  GivesReasons = (report : Report) → IsReport (rules_for given) given.request given.limits.targets report → (b : Ask) →
      TellsOf report b → (p : List ℕ) → IsAmong report.begun.items p → (why : Reason) ×
      (reason_for given end p ≡ Some why) × (reason_for given b p ≡ Some why)

  pub in-order : AreRows result.rows.items
  in-order = subst AreRows (sym is.with_book.rows) is.built.rows_ordered

  told : TellsOf is.report (told_by result.rows.items)
  told =
      let P : List Row → Type 0 = All (λ row. told_by result.rows.items row.path ≡ Some row.outcome) in
      subst P is.with_book.rows (rows-tell result.rows.items in-order)

  pub are-reasons : GivesReasons → (requested : List (List ℕ)) →
      ((p : List ℕ) → is_among requested p ≡ is_among given.request p) → (begun : List (List ℕ × Reason)) →
      begun ≡ begun_in given.past requested result.rows.items result.begun.items → AreReasons given result begun
  are-reasons law requested same begun are =
      let rows = result.rows.items in
      let P : List ℕ × Reason → Type 0 = λ b. reason_for given end b.0 ≡ Some b.1 in
      let all = none-left (reason_in given.past requested rows) P result.begun.items (λ p m.
      let one = law is.report is.built (told_by rows) told p (subst (λ ps. IsAmong ps p) is.with_book.begun m) in
      (one.0, reason-same given requested rows p (same p) ∙ one.2, one.1)) in
      subst (AreReasons given result) (sym are) (record { targets = all.0; each = all.1 })

-- the lines of these are the text
pub explained : (past : PastView) (given : GivenView) (report : Report) (begun : List (List ℕ × Reason)) (text : List ℕ) →
    given.past ≡ past → AreReasons given report begun →
    text ≡ flat_map (reason_line (found_of past.sources)) begun → IsExplained given report text
explained past given report begun text same are is = record {
  begun = begun;
  are = are;
  lines = is ∙ ap (λ (p : PastView). flat_map (reason_line (found_of p.sources)) begun) (sym same);
}
