-- What a job asks for, and how far it comes.
use Rattle.std.proofs.Common.{◌≡◌, ℕ, zero, suc, ◌<◌, List, [], true, false, refl, subst, inl, inr, arith}
use Rattle.std.specs.Prelude.{is_some}
use Rattle.std.proofs.lemmas.Bool.{both_ways}
use Rattle.redo_tree.specs.Tree.{Tree, file_at}
use Rattle.redo_which.specs.Rule.{Arguments, Found, Rule, found_of}
use Rattle.redo_record.specs.declared.deps.DepKind.TheVariants.{Change}
use Rattle.redo_step.specs.JobView.{JobView, found_deps, record_so_far, progress_of}
use Rattle.redo_record.proofs.Public.{entered_operand, operand_entered, search_enters, whole_cases, whole_second}
use Rattle.redo_record.specs.Entries.{is_entered}
use Rattle.redo_record.specs.Paths.{IsAmong}
use Rattle.redo_build.specs.Rules.{Ask, operands}
use Rattle.redo_rules.specs.Build.{GivenView, rules_for, sources_for}
use Rattle.redo_rules.specs.inside.Worlds.{IsFit}
use Rattle.redo_rules.proofs.Public.{fit_found, lawful_for}
use Rattle.redo_core.specs.inside.Works.{IsJobOf, job_deps}
use Rattle.redo_build.proofs.DepthLemmas.{operand-target}

-- the .do file that the search finds is a file
pub found_file : (tree : Tree) (target do_file : List ℕ) (missing : List (List ℕ)) (arguments : Arguments) →
    found_of tree target ≡ Rule do_file missing arguments → is_some (file_at tree do_file) ≡ true
found_file tree target do_file missing arguments found =
    let P : Found → Type 0 = IsFit tree in
    let fit : IsFit tree (Rule do_file missing arguments) = subst P found (fit_found tree target) in fit

module _ (given : GivenView) (job : JobView) (is_job : IsJobOf given job) where
  -- the record of the search waits for the .do file alone, which is a source
  pub found_sources : (q : List ℕ) → is_entered (found_deps job) Change q ≡ true → is_some (file_at given.past.sources q) ≡ true
  found_sources q h =
      let S : List ℕ → Type 0 = λ p. is_some (file_at given.past.sources p) ≡ true in
      subst S (search_enters job.missing job.do_file q h)
      (found_file given.past.sources job.target job.do_file job.missing job.arguments is_job.found)

  -- what the record so far waits for, the script declared
  recorded_own : (q : List ℕ) → IsAmong (operands (rules_for given) (record_so_far job)) q → IsAmong (operands (rules_for given) job.state.entries) q
  recorded_own q m =
      let target : is_some (file_at given.past.sources q) ≡ false = operand-target (rules_for given) (lawful_for given) (record_so_far job) q m in
      elim (whole_cases (found_deps job) job.state.entries Change q (operand_entered (rules_for given).is_source (record_so_far job) q m)) [
        | inl first ↦ absurd (both_ways _ target (found_sources q first))
        | inr own ↦ entered_operand (rules_for given).is_source job.state.entries q target own
      ]

  pub asked_by_job : (q : List ℕ) → IsAmong (operands (rules_for given) (job_deps job)) q → IsAmong (operands (rules_for given) job.state.entries) q
  asked_by_job q m = (elim (job.turn) as (λ (n : ℕ). IsAmong (operands (rules_for given) (elim n [ zero ↦ [] | suc k ↦ record_so_far job ])) q → IsAmong (operands (rules_for given) job.state.entries) q) [
    | zero ↦ λ none. absurd none
    | suc k ↦ λ some. recorded_own q some
  ]) m

  -- what the script declared, its record waits for
  own_recorded : (q : List ℕ) → IsAmong (operands (rules_for given) job.state.entries) q → IsAmong (operands (rules_for given) (record_so_far job)) q
  own_recorded q m =
      let target = operand-target (rules_for given) (lawful_for given) job.state.entries q m in
      entered_operand (rules_for given).is_source (record_so_far job) q target (whole_second (found_deps job) job.state.entries Change q (operand_entered (rules_for given).is_source job.state.entries q m))

  pub asked_of_job : 0 < job.turn → (q : List ℕ) → IsAmong (operands (rules_for given) job.state.entries) q → IsAmong (operands (rules_for given) (job_deps job)) q
  asked_of_job some q m = (elim (job.turn) as (λ (n : ℕ). 0 < n → IsAmong (operands (rules_for given) (elim n [ zero ↦ [] | suc k ↦ record_so_far job ])) q) [
    | zero ↦ λ h. absurd (omega (arith, h))
    | suc k ↦ λ h. own_recorded q m
  ]) some

  -- how far the job's target comes by its whole script is what the sources say
  pub job_progress : (ask : Ask) → progress_of job ask ≡ (sources_for given).progress job.target ask
  job_progress ask = rw (is_job.found, is_job.of_tree, is_job.of_limits, is_job.script) refl
