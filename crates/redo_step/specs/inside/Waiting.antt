-- What a redo-ifchange waits for, once it is known which of its operands are sources.
use Rattle.std.specs.Prelude.{ℕ, Bool, false, ◌||◌, is_none, List, [], ◌∷◌, if◌then◌else◌}
use Rattle.std.specs.List.{filter}
use Rattle.redo_record.specs.declared.outcome.Why.TheVariants as why
use Rattle.redo_record.specs.Paths.{Path, with_new}
use Rattle.redo_step.specs.Setting.{Setting}
use Rattle.redo_step.specs.Runs.{State, faulted, stopped, Run, goes, ends}
use Rattle.redo_record.specs.Answers.{Ask, is_failure}

-- the paths among these that aren't sources
abbrev pub targets_in : Setting → List Path → List Path
targets_in setting ps = filter (λ p. is_none (setting.source p)) ps

-- the targets that have no answer, each once, behind those found before
abbrev pub unanswered : Ask → List Path → List Path → List Path
unanswered ask found ps = with_new found (filter (λ p. is_none (ask p)) ps)

-- whether one of these targets failed
abbrev pub any_failure : Ask → List Path → Bool
any_failure ask [] = false
any_failure ask (p ∷ ps) = is_failure (ask p) || any_failure ask ps

-- a wait for targets, given those that have no answer: it stops, fails with Depends, or goes on
abbrev pub waited_on : Ask → ℕ → List Path → List Path → State → Run
waited_on ask line ps [] s = if any_failure ask ps then ends (faulted (why.Depends line)) s else goes s
waited_on ask line ps (q ∷ qs) s = ends (stopped (q ∷ qs)) s
