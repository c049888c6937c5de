-- The rules of a build over whatever the search finds, of which those of a tree are one case.
use Rattle.std.specs.Prelude.{◌≡◌, ℕ, true, List, is_some}
use Rattle.redo_tree.specs.Tree.{Tree, file_at}
use Rattle.redo_which.specs.Rule.{Found, Source, Directory, NoDirectory, NoRule, Rule, found_of}
use Rattle.redo_record.specs.Progress.{Progress}
use Rattle.redo_step.specs.Limits.{LimitsView}
use Rattle.redo_step.specs.Setting.{is_rule}
use Rattle.redo_build.specs.Rules.{Ask, Rules}
use Rattle.redo_rules.specs.Build.{progress_by}

-- a tree, what the search finds in it for each path, and the limit of a file's bytes
pub record World : Type 0 where
  pub tree : Tree
  pub found : List ℕ → Found
  pub limit : ℕ

-- the .do file that was found is a source
abbrev pub IsFit : Tree → Found → Type 0
IsFit tree Source = Unit {0}
IsFit tree Directory = Unit {0}
IsFit tree NoDirectory = Unit {0}
IsFit tree (NoRule missing) = Unit {0}
IsFit tree (Rule do_file missing arguments) = is_some (file_at tree do_file) ≡ true

pub record IsWorld (w : World) : Type 0 where
  pub fit : (p : List ℕ) → IsFit w.tree (w.found p)

-- how far a target comes for which the search finds this
abbrev pub progress_in : World → List ℕ → Found → Ask → Progress
progress_in w target found ask = progress_by w.tree w.found w.limit target found ask

-- the rules where the search finds this
abbrev pub rules_in : World → Rules
rules_in w = record {
  is_source = λ p. is_some (file_at w.tree p);
  has_rule = λ p. is_rule (w.found p);
  progress = λ target ask. progress_in w target (w.found target) ask;
  begins = λ target ask. true;
  recorded = λ target ask. (progress_in w target (w.found target) ask).deps;
}

-- the search in a tree
abbrev pub world_of : Tree → LimitsView → World
world_of tree limits = record { tree = tree; found = found_of tree; limit = limits.file_bytes }
