-- A build with a book over a tree of sources.
use Rattle.std.proofs.Common.{◌≡◌, ◌≤◌, inl, inr, length, refl}
use Rattle.redo_tree.specs.Tree.{Tree}
use Rattle.redo_book.specs.Book.{Record, record_at}
use Rattle.redo_build.specs.Rules.{AreLawful}
use Rattle.redo_build.specs.Outcomes.{needed_at, outcome_at}
use Rattle.redo_step.specs.Limits.{LimitsView}
use Rattle.redo_skip.specs.Checks.{Checks, AreChecks, with_book}
use Rattle.redo_skip.specs.NewBook.{AreHonestRecords, IsHonestRecord, new_book}
use Rattle.redo_skip.specs.Sources.{without_book}
use Rattle.redo_skip.specs.Truth.{IsSkipping, NoneCyclic}
use Rattle.redo_skip.proofs.LawfulLemmas.{with_book-lawful}
use Rattle.redo_skip.proofs.NewBookLemmas.{all-here, are-checks, honest-checks}
use Rattle.redo_skip.proofs.SkipLemmas.{skips}
use Rattle.redo_rules.specs.Build.{GivenView, checks_for, last_run_of, plain_rules_for, rules_for, rules_of}
use Rattle.redo_rules.specs.Build.{sources_by, sources_for, sources_of}
use Rattle.redo_rules.specs.TreeSources.{AreTrueOfTrees, HasHonestBook, IsTrueOfTrees, IsUnconfused}
use Rattle.redo_rules.proofs.AlikeTreeLemmas.{trees-alike}
use Rattle.redo_rules.proofs.GoodTreeLemmas.{trees-good}
use Rattle.redo_rules.proofs.LawfulTreeLemmas.{rules_lawful}

pub plain-build : (tree : Tree) (limits : LimitsView) → without_book (sources_of tree limits) ≡ rules_of tree limits
plain-build tree limits = refl

pub checks-lawful : (tree : Tree) (limits : LimitsView) (k : Checks) → AreChecks (sources_of tree limits) k →
    AreLawful (with_book (sources_of tree limits) k)
checks-lawful tree limits k are = with_book-lawful (sources_of tree limits) k (rules_lawful tree limits) are

module _ (given : GivenView) where
  abbrev lawful : AreLawful (without_book (sources_for given))
  lawful = rules_lawful given.past.sources given.limits

  -- a record that is true of trees is honest
  honest-record : (r : Record) (truth : IsTrueOfTrees given.limits.file_bytes r) → IsUnconfused given r truth →
      IsHonestRecord (sources_for given) (last_run_of given.past) (outcome_at (plain_rules_for given) given.limits.targets) r
  honest-record r truth apart = record {
    truth = record { sources = sources_by truth.tree given.limits.file_bytes; ask = truth.ask; witness = truth.witness };
    alike =
        trees-alike truth.tree given.past.sources given.limits.file_bytes truth.ask
        (outcome_at (plain_rules_for given) given.limits.targets) r.target;
    result = apart.made;
    apart = apart.met;
  }

  honest-records : HasHonestBook given →
      AreHonestRecords (sources_for given) (last_run_of given.past) (outcome_at (plain_rules_for given) given.limits.targets)
  honest-records all p r e = let one = all p r e in honest-record r one.0 one.1

  pub skips-soundly :
      length (needed_at (plain_rules_for given) given.request given.limits.targets) ≤ given.limits.targets →
      NoneCyclic (plain_rules_for given) given.request given.limits.targets → HasHonestBook given →
      IsSkipping (sources_for given) (checks_for given) given.request given.limits.targets
  skips-soundly few decided true_book =
      skips (sources_for given) (checks_for given) lawful
      (are-checks (sources_for given) (last_run_of given.past) given.request) given.request given.limits.targets few
      (honest-checks (sources_for given) (last_run_of given.past) given.request
      (outcome_at (plain_rules_for given) given.limits.targets) (honest-records true_book)) decided

  pub stays-true :
      length (needed_at (rules_for given) given.request given.limits.targets) ≤ given.limits.targets →
      AreTrueOfTrees given.limits.file_bytes (record_at given.past.book) →
      AreTrueOfTrees given.limits.file_bytes
      (new_book (sources_for given) (last_run_of given.past) given.request given.limits.targets)
  stays-true few true_book p r e =
      elim (all-here (sources_for given) (last_run_of given.past) given.request given.limits.targets lawful
      (trees-good given.past.sources given.limits) few p r e) [
        | inl here ↦ record {
          tree = given.past.sources;
          ask = outcome_at (rules_for given) given.limits.targets;
          witness = here;
        }
        | inr old ↦ true_book p r old
      ]
