-- What the proofs of crates above may cite of rules, beside the contracts. No other module of proofs is for them.
use Rattle.std.specs.Prelude.{ℕ}
use Rattle.redo_tree.specs.Tree.{Tree}
use Rattle.redo_which.specs.Rule.{found_of}
use Rattle.redo_record.specs.Paths.{Path}
use Rattle.redo_build.specs.Rules.{Ask, AreLawful}
use Rattle.redo_step.specs.Limits.{LimitsView}
use Rattle.redo_skip.specs.NewBook.{IsGood}
use Rattle.redo_skip.specs.Truth.{IsAlike}
use Rattle.redo_rules.specs.Build.{GivenView, plain_rules_for, rules_for, rules_of, sources_by, sources_of}
use Rattle.redo_rules.specs.inside.Worlds.{IsFit}
use Rattle.redo_rules.proofs.AlikeTreeLemmas as alike
use Rattle.redo_rules.proofs.GoodTreeLemmas as good
use Rattle.redo_rules.proofs.LawfulTreeLemmas as lawful

-- Rules

-- the .do file that is found in a tree is a source
pub fit_found : (tree : Tree) (p : Path) → IsFit tree (found_of tree p)
fit_found = lawful.fit_found

-- the rules of a tree are lawful
pub rules_lawful : (tree : Tree) (limits : LimitsView) → AreLawful (rules_of tree limits)
rules_lawful = lawful.rules_lawful

-- those of a build without its book
pub plain_lawful : (given : GivenView) → AreLawful (plain_rules_for given)
plain_lawful = lawful.plain_lawful

-- those of a build with it
pub lawful_for : (given : GivenView) → AreLawful (rules_for given)
lawful_for = lawful.lawful_for

-- Sources

-- a target behaves alike with the sources of any two trees
pub trees-alike : (old new : Tree) (bytes : ℕ) (a b : Ask) (p : Path) →
    IsAlike (sources_by old bytes) a (sources_by new bytes) b p
trees-alike = alike.trees-alike

-- a book can have each record of a target that they build
pub trees-good : (tree : Tree) (limits : LimitsView) → IsGood (sources_of tree limits)
trees-good = good.trees-good
