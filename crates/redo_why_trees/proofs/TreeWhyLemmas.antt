-- The laws of reasons and lists, over a tree.
use Rattle.std.proofs.Common.{◌≡◌, ℕ, true, false, inl, inr, List, [], ◌∷◌, map, Option, Some, None}
use Rattle.std.proofs.Common.{All, ap, refl, subst, ◌∙◌}
use Rattle.std.specs.Prelude.{unwrap_or}
use Rattle.std.proofs.lemmas.Bool.{both_ways}
use Rattle.std.proofs.lemmas.List.Elements.{All-head, All-tail}
use Rattle.redo_past.proofs.ItemLemmas.{IsItem, item-contained}
use Rattle.redo_record.specs.Paths.{IsAmong}
use Rattle.redo_record.specs.declared.outcome.Outcome.{Outcome}
use Rattle.redo_record.specs.declared.outcome.Outcome.TheVariants.{Built, Cyclic}
use Rattle.redo_book.specs.Book.{Record, record_at}
use Rattle.redo_build.specs.Rules.{Ask, AreLawful}
use Rattle.redo_build.specs.Outcomes.{outcome_at, final_outcome, needed_at}
use Rattle.redo_report.specs.Reports.{IsReport, deps_of}
use Rattle.std.specs.Arc.{arc_value}
use Rattle.redo_report.specs.declared.report.Report.{Report}
use Rattle.redo_report.specs.declared.report.Row.{Row}
use Rattle.redo_skip.specs.NewBook.{LastRun, IsGood, AreHonestRecords, IsHonestRecord}
use Rattle.redo_skip.specs.Sources.{Sources, without_book}
use Rattle.redo_skip.specs.Truth.{IsBegun}
use Rattle.redo_why.specs.Reasons.{Reason}
use Rattle.redo_why.specs.OutOfDate.{Stale, Ring, Word, may_begin}
use Rattle.redo_why.specs.Runs.{IsKept, Needs}
use Rattle.redo_why.proofs.ReasonLemmas.{begun-reason}
use Rattle.redo_why.proofs.RunLemmas.{begun-listed, unlisted-kept, stale-begun, ring-cyclic}
use Rattle.redo_why.proofs.ScheduleLemmas.{reason-told}
use Rattle.redo_rules.specs.Build.{GivenView, last_run_of, plain_rules_for, rules_for, sources_by, sources_for}
use Rattle.redo_rules.specs.TreeSources.{HasHonestBook, IsTrueOfTrees, IsUnconfused}
use Rattle.redo_rules.proofs.Public.{rules_lawful, trees-alike, trees-good}
use Rattle.redo_tree.specs.Tree.{file_at}
use Rattle.redo_why_trees.specs.TreeWhy.{IsNeededFor, IsTold, IsToldCyclic, IsToldKept, TellsOf, listed_for, reason_for}

module _ (given : GivenView) where
  abbrev s : Sources
  s = sources_for given

  abbrev last : LastRun
  last = last_run_of given.past

  abbrev limit : ℕ
  limit = given.limits.targets

  abbrev end : Ask
  end = outcome_at (rules_for given) limit

  lawful : AreLawful (without_book s)
  lawful = rules_lawful given.past.sources given.limits

  good : IsGood s
  good = trees-good given.past.sources given.limits

  honest-record : (r : Record) (truth : IsTrueOfTrees given.limits.file_bytes r) → IsUnconfused given r truth →
      IsHonestRecord s last (outcome_at (plain_rules_for given) limit) r
  honest-record r truth apart = record {
    truth = record { sources = sources_by truth.tree given.limits.file_bytes; ask = truth.ask; witness = truth.witness };
    alike =
        trees-alike truth.tree given.past.sources given.limits.file_bytes truth.ask
        (outcome_at (plain_rules_for given) limit) r.target;
    result = apart.made;
    apart = apart.met;
  }

  pub honest-records : HasHonestBook given → AreHonestRecords s last (outcome_at (plain_rules_for given) limit)
  honest-records all p r e = let one = all p r e in honest-record r one.0 one.1

  module _ (report : Report) (is : IsReport (rules_for given) given.request limit report) where
    needs : (p : List ℕ) → IsNeededFor given p → Needs s last given.request limit p
    needs p n = elim n.free [
      | inl alone ↦ inl (record { few = is.within; needed = n.needed; alone = alone })
      | inr honest ↦ inr (record {
        few = honest.few;
        needed = n.needed;
        unasked = honest.unasked;
        honest = honest-records honest.honest;
      })
    ]

    begun-of : (p : List ℕ) → IsAmong report.begun.items p → IsBegun (rules_for given) given.request limit p
    begun-of p m =
        let parts = (is.begun p).0 m in record { needed = parts.0; ruled = parts.1; begins = parts.2 }

    -- the row of a path that has one tells what became of it
    row-of : (rows : List Row) (q : List ℕ) → All (λ row. (row.outcome ≡ final_outcome (rules_for given) limit row.path) ×
        (arc_value row.deps ≡ deps_of (rules_for given) limit row.path)) rows → IsAmong (map (λ row. row.path) rows) q →
        (row : Row) × IsItem rows row × (row.path ≡ q) × (row.outcome ≡ final_outcome (rules_for given) limit q)
    row-of [] q ends m = absurd m
    row-of (x ∷ xs) q ends m = elim m [
      | inl here ↦
          let ended = All-head (λ (row : Row). (row.outcome ≡ final_outcome (rules_for given) limit row.path) ×
          (arc_value row.deps ≡ deps_of (rules_for given) limit row.path)) x xs ends in
          (x, inl refl, here, ended.0 ∙ ap (final_outcome (rules_for given) limit) here)
      | inr later ↦
          let found = row-of xs q (All-tail (λ (row : Row). (row.outcome ≡ final_outcome (rules_for given) limit row.path) ×
          (arc_value row.deps ≡ deps_of (rules_for given) limit row.path)) x xs ends) later in
          (found.0, inr found.1, found.2, found.3)
    ]

    -- a report tells what became of a needed target
    pub told-of : (p : List ℕ) → IsAmong (needed_at (rules_for given) given.request limit) p → (o : Outcome) →
        final_outcome (rules_for given) limit p ≡ o → IsTold report p o
    told-of p needed o e =
        let found = row-of report.rows.items p is.outcomes ((is.rows p).1 (inl needed)) in
        record {
          row = found.0;
          there = item-contained report.rows.items found.0 found.1;
          path = found.2;
          outcome = found.3 ∙ e;
        }

    pub told-kept : (p : List ℕ) → IsKept s last given.request limit p →
        IsAmong (needed_at (rules_for given) given.request limit) p → IsToldKept given report p
    told-kept p kept needed = record {
      built = told-of p needed (Built (file_at given.past.tree p)) (ap (λ (o : Option Outcome). unwrap_or o Cyclic) kept.built);
      unbegun = λ m. both_ways _ kept.waits ((is.begun p).0 m).2;
    }

    pub told-cyclic : (p : List ℕ) → end p ≡ None → (rules_for given).begins p end ≡ false →
        IsAmong (needed_at (rules_for given) given.request limit) p → IsToldCyclic report p
    told-cyclic p none waits needed = record {
      cyclic = told-of p needed Cyclic (ap (λ (o : Option Outcome). unwrap_or o Cyclic) none);
      unbegun = λ m. both_ways _ waits ((is.begun p).0 m).2;
    }

    pub kept-report : (p : List ℕ) (r : Record) → record_at given.past.book p ≡ Some r → IsNeededFor given p →
        listed_for given p ≡ None → IsToldKept given report p
    kept-report p r at n none =
        told-kept p (unlisted-kept s last given.request limit lawful good p r at (needs p n) none) n.needed

    pub stale-report : (p : List ℕ) (r : Record) → record_at given.past.book p ≡ Some r → IsNeededFor given p →
        (why : Reason) → listed_for given p ≡ Some (Stale why) → (end p ≡ None → ⊥) → IsAmong report.begun.items p
    stale-report p r at n why stale ended =
        let begun = stale-begun s last given.request limit lawful good p r at (needs p n) why stale ended in
        (is.begun p).1 (begun.needed, begun.ruled, begun.begins)

    pub ring-report : (p : List ℕ) (r : Record) → record_at given.past.book p ≡ Some r → IsNeededFor given p →
        listed_for given p ≡ Some Ring → IsToldCyclic report p
    ring-report p r at n ring =
        let cyclic = ring-cyclic s last given.request limit lawful good p r at (needs p n) ring in
        told-cyclic p cyclic.0 cyclic.1 n.needed

    pub begun-report : (p : List ℕ) (r : Record) → record_at given.past.book p ≡ Some r → IsNeededFor given p →
        IsAmong report.begun.items p → (w : Word) × (listed_for given p ≡ Some w) × (may_begin w ≡ true)
    begun-report p r at n m = begun-listed s last given.request limit lawful good p r at (needs p n) (begun-of p m)

    told-row : (rows : List Row) (b : Ask) (q : List ℕ) → All (λ row. b row.path ≡ Some row.outcome) rows →
        All (λ row. (row.outcome ≡ final_outcome (rules_for given) limit row.path) ×
        (arc_value row.deps ≡ deps_of (rules_for given) limit row.path)) rows →
        IsAmong (map (λ row. row.path) rows) q → b q ≡ Some (final_outcome (rules_for given) limit q)
    told-row [] b q tells ends m = absurd m
    told-row (x ∷ xs) b q tells ends m = elim m [
      | inl here ↦
          let P : List ℕ → Type 0 = λ y. b y ≡ Some (final_outcome (rules_for given) limit y) in
          let told : b x.path ≡ Some x.outcome = All-head (λ (row : Row). b row.path ≡ Some row.outcome) x xs tells in
          let ended = All-head (λ (row : Row). (row.outcome ≡ final_outcome (rules_for given) limit row.path) ×
          (arc_value row.deps ≡ deps_of (rules_for given) limit row.path)) x xs ends in
          subst P here (told ∙ ap (λ o. Some o) ended.0)
      | inr later ↦ told-row xs b q (All-tail (λ (row : Row). b row.path ≡ Some row.outcome) x xs tells)
          (All-tail (λ (row : Row). (row.outcome ≡ final_outcome (rules_for given) limit row.path) ×
          (arc_value row.deps ≡ deps_of (rules_for given) limit row.path)) x xs ends) later
    ]

    pub report-reasons : (b : Ask) → TellsOf report b → (p : List ℕ) → IsAmong report.begun.items p →
        (why : Reason) × (reason_for given end p ≡ Some why) × (reason_for given b p ≡ Some why)
    report-reasons b tells p m =
        let begun = begun-of p m in
        let why = (begun-reason s last given.request end p begun.ruled).0 begun.begins in (
          why.0,
          why.1,
          reason-told s last given.request limit lawful good is.within b
              (λ q n. told-row report.rows.items b q tells is.outcomes ((is.rows q).1 (inl n))) p begun why.0 why.1,
        )
