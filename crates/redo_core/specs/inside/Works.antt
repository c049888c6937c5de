-- Jobs as the board keeps them, with the outcomes that they hold.
use Rattle.std.specs.Prelude.{◌≡◌, ◌⊎◌, ℕ, zero, suc, ◌+◌, ◌<◌, List, [], Some, None, map, filter, is_none}
use Rattle.std.specs.Prelude.{unwrap_or, Box, Option, ◌++◌}
use Rattle.std.specs.declared.alloc.Global.{Global}
use Rattle.redo_script.specs.Texts.{script_in}
use Rattle.redo_tree.specs.Tree.{file_at}
use Rattle.redo_which.specs.declared.Rule.{Rule as FoundRule}
use Rattle.redo_which.specs.Views.{arguments_view}
use Rattle.redo_which.specs.Rule.{Rule, Found, found_of}
use Rattle.redo_record.specs.Entries.{with_all}
use Rattle.redo_record.specs.declared.deps.Dep.{Dep}
use Rattle.redo_record.specs.declared.outcome.Outcome.{Outcome}
use Rattle.redo_sync.specs.Shown.{Shown}
use Rattle.redo_step.specs.JobView.{JobView, job_setting, whole_of, IsFit, record_so_far}
use Rattle.redo_step.specs.Reach.{Keeps}
use Rattle.redo_record.specs.Paths.{IsAmong}
use Rattle.redo_build.specs.Rules.{Ask, Rules, operands}
use Rattle.redo_build.specs.Outcomes.{outcome_at}
use Rattle.redo_build.specs.Schedule.{only}
use Rattle.redo_build.specs.inside.Turns.{IsWork, deps_at_turn}
use Rattle.redo_rules.specs.Build.{GivenView, rules_for, sources_for}
use Rattle.redo_core.specs.Views.{FactView, WorkView, told_by}
use Rattle.redo_core.specs.declared.facts.Facts.{Facts}
use Rattle.redo_core.specs.declared.work.Begun.{Begun}
use Rattle.redo_core.specs.inside.Checking.{IsBegunBehind}

-- the paths of some facts with their outcomes
abbrev pub few_known : List (Shown FactView) → List (List ℕ × Outcome)
few_known facts = map (λ f. (f.value.target, f.value.outcome)) facts

abbrev pub entries_known : List (List ℕ × Shown FactView) → List (List ℕ × Outcome)
entries_known es = map (λ e. (e.0, e.1.value.outcome)) es

abbrev pub more_known : Option (Box (List (List ℕ × Shown FactView)) Global) → List (List ℕ × Outcome)
more_known None = []
more_known (Some more) = entries_known more.value

-- the outcomes that a job knows
abbrev pub known_in : Facts → List (List ℕ × Outcome)
known_in facts = more_known facts.more ++ few_known facts.few.items

abbrev pub told_in : Facts → Ask
told_in facts = told_by (known_in facts)

-- what a job's script has asked for so far: nothing until it first stops
abbrev pub job_deps : JobView → List Dep
job_deps job = elim (job.turn) [ zero ↦ [] | suc n ↦ record_so_far job ]

-- all that a job's target has asked for so far, in its check and then in its script
abbrev pub all_asked : JobView → Facts → List Dep
all_asked job facts = with_all facts.asked (job_deps job)

-- one more fact is known, and nothing else is new
pub record AddsFact (fact : FactView) (old new : Facts) : Type 0 where
  pub asked : new.asked ≡ old.asked
  pub kept : (q : List ℕ) → told_in new q ≡ None → told_in old q ≡ None
  pub origin : (q : List ℕ) (o : Outcome) → told_in new q ≡ Some o →
      (told_in old q ≡ Some o) ⊎ ((fact.target ≡ q) × (fact.outcome ≡ o))
  pub known : told_in new fact.target ≡ None → ⊥

-- what a script asked for and has no facts of yet, in the order of its entries
abbrev pub waited_by : Rules → Begun → List (List ℕ)
waited_by r begun = filter (λ q. is_none (told_in begun.facts q)) (operands r begun.job.state.entries)

-- the job is that of its target: with the rule that the search finds, on the script that the .do file holds
pub record IsJobOf (given : GivenView) (job : JobView) : Type 0 where
  pub of_tree : job.tree ≡ given.past.sources
  pub of_limits : job.limits ≡ given.limits
  pub found : found_of given.past.sources job.target ≡ Rule job.do_file job.missing job.arguments
  pub script : whole_of job ≡ script_in (unwrap_or (file_at given.past.sources job.do_file) [])

-- the job can go on with any answers that keep these, to what it declared
abbrev pub GoesOn : JobView → Ask → Type 0
GoesOn job known = (later : Ask) → Keeps (job_setting job) job.state.entries known later → IsFit job later

-- what the search finds if it finds this rule
abbrev pub found_as : FoundRule → Found
found_as rule = Rule rule.do_file rule.missing (arguments_view rule.args)

-- a work: a job at its turn, with the build's outcomes for exactly what it asked for
pub record IsWorkWith (given : GivenView) (job : JobView) (facts : Facts) : Type 0 where
  pub is_job : IsJobOf given job
  pub is_work : IsWork (rules_for given) job.target job.turn (all_asked job facts)
  pub exact : (q : List ℕ) →
      told_in facts q ≡
      only (operands (rules_for given) (all_asked job facts)) (outcome_at (rules_for given) is_work.depth) q
  pub behind : IsBegunBehind given job.target facts.asked (told_in facts)
  pub declared : (q : List ℕ) → IsAmong (operands (rules_for given) job.state.entries) q →
      IsAmong (operands (rules_for given) (job_deps job)) q
  pub goes_on : GoesOn job (told_in facts)
  pub few : job.turn < 65536

-- a work before its script is read: it has the rule that the search finds, and the build's outcomes for exactly what
-- its check asked for
pub record IsUnreadWork (given : GivenView) (target : List ℕ) (found : Found) (facts : Facts) : Type 0 where
  pub is_found : found_of given.past.sources target ≡ found
  pub is_work : IsWork (rules_for given) target 0 facts.asked
  pub exact : (q : List ℕ) →
      told_in facts q ≡ only (operands (rules_for given) facts.asked) (outcome_at (rules_for given) is_work.depth) q
  pub behind : IsBegunBehind given target facts.asked (told_in facts)

-- a job that stopped at a turn, after `looks` stops of its check: it is at the next turn, with the outcomes of the
-- build at this depth for what it had asked for before
pub record IsStopped (given : GivenView) (depth looks : ℕ) (target : List ℕ) (turn : ℕ) (job : JobView) (facts : Facts)
    : Type 0 where
  pub is_job : IsJobOf given job
  pub of_target : job.target ≡ target
  pub at_turn : job.turn ≡ turn + 1
  pub exact : (q : List ℕ) → told_in facts q ≡
      (let r = rules_for given in let a = outcome_at r depth in
      only (operands r (deps_at_turn r target a (looks + turn))) a q)
  pub behind : IsBegunBehind given target facts.asked (told_in facts)
  pub checked : (q : List ℕ) → IsAmong (operands (rules_for given) facts.asked) q → told_in facts q ≡ None → ⊥
  pub goes_on : GoesOn job (told_in facts)
  pub own : (sources_for given).progress target (told_in facts) ≡ record { outcome = None; deps = record_so_far job }

-- a work holds the outcomes of the build at some depth, for exactly what it asked for
pub record HoldsOutcomes (w : WorkView) : Type 0 where
  pub depth : ℕ
  pub fed : (q : List ℕ) → IsAmong (operands (rules_for w.given) w.deps) q →
      outcome_at (rules_for w.given) depth q ≡ None → ⊥
  pub exact : (q : List ℕ) →
      told_by w.known q ≡
      only (operands (rules_for w.given) w.deps) (outcome_at (rules_for w.given) depth) q
