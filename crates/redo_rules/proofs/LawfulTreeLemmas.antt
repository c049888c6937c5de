-- The rules of a source tree are lawful.
use Rattle.std.proofs.Common.{◌≡◌, ℕ, Bool, true, false, find, inl, inr, List, [], ◌∷◌, Option, Some, None, refl, ap, is_some}
use Rattle.std.specs.Prelude.{unwrap_or, option_and_then}
use Rattle.std.proofs.lemmas.Bool.{cases_Bool}
use Rattle.redo_script.specs.Texts.{script_in}
use Rattle.redo_record.specs.declared.deps.DepKind.TheVariants.{Create}
use Rattle.redo_record.specs.declared.outcome.Outcome.TheVariants.{Failed, Source as Is_source}
use Rattle.redo_record.specs.declared.outcome.Why.TheVariants as why
use Rattle.redo_record.specs.Progress.{IsLawful, Progress}
use Rattle.redo_record.proofs.Public.{ended_is_lawful, missing_enters, sources_alone}
use Rattle.redo_step.proofs.Public.{progress_is_lawful}
use Rattle.redo_record.specs.Entries.{with_entries}
use Rattle.redo_step.specs.Setting.{is_rule, setting_by}
use Rattle.redo_tree.specs.Tree as tree_words
use Rattle.redo_tree.specs.Tree.{Tree, Node, node_at, file_at}
use Rattle.redo_path.specs.Names.{parent_of}
use Rattle.redo_which.specs.Candidates.{Place, candidates_of}
use Rattle.redo_which.specs.Rule.{Found, Source, Directory, NoDirectory, NoRule, Rule, is_file, missing_of}
use Rattle.redo_which.specs.Rule.{chosen_of, arguments_of, found_of}
use Rattle.redo_build.specs.Rules.{Ask, AreLawful, operands}
use Rattle.redo_build.specs.Looking.{KeepsNothing}
use Rattle.redo_rules.specs.Build.{GivenView, checks_for}
use Rattle.redo_rules.specs.inside.Worlds.{IsFit, IsWorld, World, progress_in, rules_in, world_of}
use Rattle.redo_rules.specs.Build.{last_run_of, plain_rules_for, rules_for, rules_of, sources_for}
use Rattle.redo_skip.proofs.LawfulLemmas.{with_book-lawful}
use Rattle.redo_skip.proofs.NewBookLemmas.{are-checks}
use Rattle.redo_step.specs.Limits.{LimitsView}

-- All that the search may find

missing-asks : (w : World) (missing : List (List ℕ)) → operands (rules_in w) (with_entries [] Create missing) ≡ []
missing-asks w missing = sources_alone (rules_in w).is_source (with_entries [] Create missing) (λ q h. absurd (missing_enters missing q h))

found-lawful : (w : World) (target : List ℕ) (f : Found) → IsFit w.tree f → IsLawful (rules_in w).is_source (progress_in w target f)
unfolding setting_by
found-lawful w target Source fit = ended_is_lawful (rules_in w).is_source Is_source [] refl
found-lawful w target Directory fit = ended_is_lawful (rules_in w).is_source (Failed why.Directory) [] refl
found-lawful w target NoDirectory fit = ended_is_lawful (rules_in w).is_source (Failed why.NoDirectory) [] refl
found-lawful w target (NoRule missing) fit = ended_is_lawful (rules_in w).is_source (Failed why.NoRule) (with_entries [] Create missing) (missing-asks w missing)
found-lawful w target (Rule do_file missing a) fit =
    progress_is_lawful (setting_by w.tree w.found w.limit target a) missing do_file (script_in (unwrap_or (file_at w.tree do_file) [])) fit

found-unruled : (w : World) (target : List ℕ) (f : Found) (ask : Ask) → is_rule f ≡ false → (operands (rules_in w) (progress_in w target f ask).deps ≡ []) × ((progress_in w target f ask).outcome ≡ None → ⊥)
found-unruled w target Source ask h = (refl, λ e. cc)
found-unruled w target Directory ask h = (refl, λ e. cc)
found-unruled w target NoDirectory ask h = (refl, λ e. cc)
found-unruled w target (NoRule missing) ask h = (missing-asks w missing, λ e. cc)
found-unruled w target (Rule do_file missing a) ask h = absurd cc

pub world-lawful : (w : World) → IsWorld w → AreLawful (rules_in w)
world-lawful w fits = record {
  each = λ p. found-lawful w p (w.found p) (fits.fit p);
  unruled = λ p a h. found-unruled w p (w.found p) a h;
  begins_local = λ p a b same. refl;
  recorded_local = λ p a b same. ap (λ (x : Progress). x.deps) ((found-lawful w p (w.found p) (fits.fit p)).local a b same);
  begins_stays = λ p a b more begun. begun;
  begins_waits = λ p q a b more asked none. refl;
}

-- What is found, by cases

module _ (tree : Tree) (p : List ℕ) (P : Found → Type 0) (source : is_some (file_at tree p) ≡ true → P Source)
    (directory : P Directory) (no_directory : P NoDirectory)
    (no_rule : chosen_of tree p ≡ None → P (NoRule (missing_of tree p)))
    (rule : (place : Place) → chosen_of tree p ≡ Some place →
    P (Rule place.do_file (missing_of tree p) (arguments_of p place))) where
  found_chosen : (o : Option Place) → chosen_of tree p ≡ o →
      P (elim o [
        | None ↦ NoRule (missing_of tree p)
        | Some place ↦ Rule place.do_file (missing_of tree p) (arguments_of p place)
      ])
  found_chosen None e = no_rule e
  found_chosen (Some place) e = rule place e

  found_below : (up : Option Node) → P (elim up [
    | Some node ↦ elim node [
      | tree_words.Directory ↦ elim (chosen_of tree p) [
        | None ↦ NoRule (missing_of tree p)
        | Some place ↦ Rule place.do_file (missing_of tree p) (arguments_of p place)
      ]
      | tree_words.File bytes ↦ NoDirectory
    ]
    | None ↦ NoDirectory
  ])
  found_below (Some tree_words.Directory) = found_chosen (chosen_of tree p) refl
  found_below (Some (tree_words.File bytes)) = no_directory
  found_below None = no_directory

  found_here : (n : Option Node) → node_at tree p ≡ n → P (elim n [
    | Some node ↦ elim node [ tree_words.Directory ↦ Directory | tree_words.File bytes ↦ Source ]
    | None ↦ elim (option_and_then (node_at tree) (parent_of p)) [
      | Some node ↦ elim node [
        | tree_words.Directory ↦ elim (chosen_of tree p) [
          | None ↦ NoRule (missing_of tree p)
          | Some place ↦ Rule place.do_file (missing_of tree p) (arguments_of p place)
        ]
        | tree_words.File bytes ↦ NoDirectory
      ]
      | None ↦ NoDirectory
    ]
  ])
  found_here (Some tree_words.Directory) e = directory
  found_here (Some (tree_words.File bytes)) e = source (rw e refl)
  found_here None e = found_below (option_and_then (node_at tree) (parent_of p))

  pub found_cases : P (found_of tree p)
  found_cases = found_here (node_at tree p) refl

-- The search finds files

find-passes : {X : Type 0} (f : X → Bool) (xs : List X) (x : X) → find f xs ≡ Some x → f x ≡ true
find-passes f [] x e = absurd cc
find-passes f (y ∷ ys) x e = elim (cases_Bool (f y)) [
  | inl t ↦ let same : y ≡ x = (let now = rw t at e in cc) in rw (← same) t
  | inr n ↦ find-passes f ys x (rw n at e)
]

pub fit_found : (tree : Tree) (p : List ℕ) → IsFit tree (found_of tree p)
fit_found tree p = found_cases tree p (IsFit tree) (λ e. tt) tt tt (λ e. tt)
    (λ place e. find-passes (λ (c : Place). is_file tree c.do_file) (candidates_of p) place e)

pub rules_lawful : (tree : Tree) (limits : LimitsView) → AreLawful (rules_of tree limits)
rules_lawful tree limits = world-lawful (world_of tree limits) (record { fit = fit_found tree })

pub plain_lawful : (given : GivenView) → AreLawful (plain_rules_for given)
plain_lawful given = rules_lawful given.past.sources given.limits

-- with the book of the last run the rules stay lawful
pub lawful_for : (given : GivenView) → AreLawful (rules_for given)
lawful_for given =
    with_book-lawful (sources_for given) (checks_for given) (plain_lawful given)
    (are-checks (sources_for given) (last_run_of given.past) given.request)

-- each script of a tree is begun, where there is no book
pub rules_keep_nothing : (tree : Tree) (limits : LimitsView) → KeepsNothing (rules_of tree limits)
rules_keep_nothing tree limits p ask = refl
