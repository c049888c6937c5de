-- Which records of a book are true of trees.
use Rattle.std.specs.Prelude.{◌≡◌, ℕ, true, List, Option, Some}
use Rattle.std.specs.Arc.{arc_value}
use Rattle.std.specs.List.{AllByRecursion}
use Rattle.redo_digest.specs.Digest.{state_of}
use Rattle.redo_tree.specs.Tree.{Tree, file_at}
use Rattle.redo_book.specs.Book.{Record, record_at}
use Rattle.redo_book.specs.Noted.{is_notable}
use Rattle.redo_build.specs.Outcomes.{outcome_at}
use Rattle.redo_build.specs.Rules.{Ask}
use Rattle.redo_skip.specs.Truth.{AreApart, IsWitness}
use Rattle.redo_report.specs.declared.report.Row.{Row}
use Rattle.redo_past.specs.NewBook.{is_built}
use Rattle.redo_rules.specs.Build.{GivenView, plain_rules_for, sources_by, sources_for}

-- a record is true of trees: in some tree, with some answers and with this limit of a file's bytes, its target came to
-- what it says
pub record IsTrueOfTrees (file_bytes : ℕ) (r : Record) : Type 0 where
  pub tree : Tree
  pub ask : Ask
  pub witness : IsWitness r (sources_by tree file_bytes) ask

-- all records of a book are true of trees
abbrev pub AreTrueOfTrees : ℕ → (List ℕ → Option Record) → Type 0
AreTrueOfTrees file_bytes book = (p : List ℕ) (r : Record) → book p ≡ Some r → IsTrueOfTrees file_bytes r

-- no digest confuses files by a record: neither a file that its target met with the one that this build has there, nor
-- the file that it made with the one that is in the tree now
pub record IsUnconfused (given : GivenView) (r : Record) (is : IsTrueOfTrees given.limits.file_bytes r) : Type 0 where
  pub met : AreApart (sources_by is.tree given.limits.file_bytes) is.ask (sources_for given)
      (outcome_at (plain_rules_for given) given.limits.targets)
  pub made : state_of is.witness.file ≡ state_of (file_at given.past.tree r.target) →
      is.witness.file ≡ file_at given.past.tree r.target

-- the last run's book is honest: each of its records is true of trees, and no digest confuses files by it
abbrev pub HasHonestBook : GivenView → Type 0
HasHonestBook given = (p : List ℕ) (r : Record) → record_at given.past.book p ≡ Some r →
    (is : IsTrueOfTrees given.limits.file_bytes r) × IsUnconfused given r is

-- if the row's target was built, a book has each entry of its record
abbrev pub IsNotedWhole : Row → Type 0
IsNotedWhole row =
    is_built row.outcome ≡ true →
    AllByRecursion (λ d. is_notable d.kind d.path ≡ true) (arc_value row.deps)
