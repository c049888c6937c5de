-- The rules of a build: how far each target comes with given answers, by its sources, the search for rules, and the
-- grammar and meaning of scripts; and what the book of the last run lets it keep.
use Rattle.std.specs.Prelude.{ℕ, true, List, [], is_some, unwrap_or}
use Rattle.redo_script.specs.Texts.{script_in}
use Rattle.redo_record.specs.declared.deps.DepKind.TheVariants.{Create}
use Rattle.redo_record.specs.declared.outcome.Outcome.TheVariants.{Failed, Source as Is_source}
use Rattle.redo_record.specs.declared.outcome.Why.TheVariants as why
use Rattle.redo_tree.specs.Tree.{Tree, file_at}
use Rattle.redo_which.specs.Candidates.{is_do_file}
use Rattle.redo_which.specs.Rule.{Found, Source, Directory, NoDirectory, NoRule, Rule, found_of}
use Rattle.redo_record.specs.Entries.{with_entries, search_deps}
use Rattle.redo_record.specs.Progress.{Progress, at_once}
use Rattle.redo_step.specs.Results.{by_script}
use Rattle.redo_step.specs.Setting.{is_rule, setting_by}
use Rattle.redo_build.specs.Rules.{Ask, Rules}
use Rattle.redo_skip.specs.Checks.{Checks, with_book}
use Rattle.redo_skip.specs.NewBook.{LastRun, checks_of}
use Rattle.redo_skip.specs.Sources.{Sources}
use Rattle.redo_past.specs.Past.{PastView, is_free}
use Rattle.redo_step.specs.Limits.{LimitsView}

-- how far a target comes for which the search finds this: in a tree, with what the search finds there for each path,
-- and with a limit of a file's bytes
abbrev pub progress_by : Tree → (List ℕ → Found) → ℕ → List ℕ → Found → Ask → Progress
progress_by tree found file_bytes target Source ask = at_once Is_source []
progress_by tree found file_bytes target Directory ask = at_once (Failed why.Directory) []
progress_by tree found file_bytes target NoDirectory ask = at_once (Failed why.NoDirectory) []
progress_by tree found file_bytes target (NoRule missing) ask =
    at_once (Failed why.NoRule) (with_entries [] Create missing)
progress_by tree found file_bytes target (Rule do_file missing a) ask =
    by_script (setting_by tree found file_bytes target a) (search_deps missing do_file)
    (script_in (unwrap_or (file_at tree do_file) [])) ask

-- what a build is given: a tree as it was read, with the sources in it and the book of the last run, a request, and
-- limits
pub record GivenView : Type 0 where
  pub past : PastView
  pub request : List (List ℕ)
  pub limits : LimitsView

-- how far a target comes in a source tree, where a file may have so many bytes
abbrev pub progress_of : Tree → ℕ → List ℕ → Ask → Progress
progress_of tree file_bytes target ask =
    progress_by tree (found_of tree) file_bytes target (found_of tree target) ask

-- the rules of a source tree, where a file may have so many bytes
abbrev pub rules_by : Tree → ℕ → Rules
rules_by tree file_bytes = record {
  is_source = λ p. is_some (file_at tree p);
  has_rule = λ p. is_rule (found_of tree p);
  progress = progress_of tree file_bytes;
  -- every script is begun, and its record is all that it asked for
  begins = λ target ask. true;
  recorded = λ target ask. (progress_of tree file_bytes target ask).deps;
}

-- a tree of sources, as a build with a book sees it
abbrev pub sources_by : Tree → ℕ → Sources
sources_by tree file_bytes =
    let rules = rules_by tree file_bytes in
    record {
      is_source = rules.is_source;
      has_rule = rules.has_rule;
      progress = rules.progress;
      file = file_at tree;
      is_free = is_free tree;
      is_script = is_do_file;
    }

-- the same under limits
abbrev pub rules_of : Tree → LimitsView → Rules
rules_of tree limits = rules_by tree limits.file_bytes

abbrev pub sources_of : Tree → LimitsView → Sources
sources_of tree limits = sources_by tree limits.file_bytes

-- what the last run left in a tree: its book, and each file of the tree as it was read
abbrev pub last_run_of : PastView → LastRun
last_run_of past = record { book = past.book; file = file_at past.tree }

-- the sources of a build
abbrev pub sources_for : GivenView → Sources
sources_for given = sources_of given.past.sources given.limits

-- the checks of a build by the book of the last run
abbrev pub checks_for : GivenView → Checks
checks_for given = checks_of (sources_for given) (last_run_of given.past) given.request

-- the rules of a build that is given this, without its book
abbrev pub plain_rules_for : GivenView → Rules
plain_rules_for given = rules_of given.past.sources given.limits

-- the rules of a build that is given this
abbrev pub rules_for : GivenView → Rules
rules_for given = with_book (sources_for given) (checks_for given)
