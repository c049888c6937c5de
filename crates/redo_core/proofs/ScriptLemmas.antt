-- A job that is begun is a work.
use Rattle.std.proofs.Common.{◌≡◌, ℕ, List, [], refl, sym, ap, subst, ◌∙◌, arith, Global}
use Rattle.redo_record.specs.declared.outcome.Outcome.{Outcome}
use Rattle.std.specs.Prelude.{Box, unwrap_or}
use Rattle.redo_tree.specs.Tree.{Tree, file_at}
use Rattle.redo_script.specs.Texts.{script_in}
use Rattle.redo_step.specs.declared.parsed.Parsed.{Parsed}
use Rattle.redo_step.specs.Parsed.{parsed_of}
use Rattle.redo_record.specs.Answers.{Ask as Answers}
use Rattle.redo_step.specs.Job.{begun}
use Rattle.redo_step.specs.JobView.{JobView, IsFit}
use Rattle.redo_step.specs.Limits.{LimitsView}
use Rattle.redo_which.specs.declared.Rule.{Rule as FoundRule}
use Rattle.redo_which.specs.Rule.{Found, Rule, found_of}
use Rattle.redo_which.specs.Views.{arguments_view}
use Rattle.redo_rules.specs.Build.{GivenView}
use Rattle.redo_core.specs.Views.{WorkView}
use Rattle.redo_core.specs.inside.Scripts.{IsFirstJob, IsScriptOf, script_deps, script_known, script_target, script_turn}
use Rattle.redo_core.specs.inside.Works.{IsUnreadWork, IsWorkWith, found_as, known_in}
use Rattle.redo_core.specs.declared.work.Begun.{Begun as BegunScript}
use Rattle.redo_core.specs.declared.work.ScriptStage.{ScriptStage}
use Rattle.redo_core.specs.declared.work.ScriptStage.TheVariants.{Unread}
use Rattle.redo_core.specs.declared.work.Unread.{Unread as UnreadScript}
use Rattle.redo_core.specs.declared.facts.Facts.{Facts}

-- a job that was just begun is a work with what its check came to know
pub begun-work : (given : GivenView) (target : List ℕ) (rule : FoundRule) (parsed : Parsed) →
    found_of given.past.sources target ≡ Rule rule.do_file rule.missing (arguments_view rule.args) →
    parsed_of parsed ≡ script_in (unwrap_or (file_at given.past.sources rule.do_file) []) →
    ((ask : Answers) → IsFit (begun given.past.sources target rule parsed given.limits) ask) →
    (found : Found) (facts : Facts) → IsUnreadWork given target found facts →
    IsWorkWith given (begun given.past.sources target rule parsed given.limits) facts
begun-work given target rule parsed is_found script fits found facts unread = record {
  is_job = record { of_tree = refl; of_limits = refl; found = is_found; script = script };
  is_work = unread.is_work;
  exact = unread.exact;
  behind = unread.behind;
  declared = λ q m. m;
  goes_on = λ later keeps. fits later;
  few = omega arith;
}

-- a job that was begun on a shared tree is one of the tree
pub begun-is : (given : GivenView) (own : Tree) (limits : LimitsView) (target : List ℕ) (rule : FoundRule) (parsed : Parsed) (job : JobView) →
    own ≡ given.past.sources → limits ≡ given.limits → found_of given.past.sources target ≡ Rule rule.do_file rule.missing (arguments_view rule.args) →
    parsed_of parsed ≡ script_in (unwrap_or (file_at given.past.sources rule.do_file) []) →
    job ≡ begun own target rule parsed limits → ((ask : Answers) → IsFit job ask) → IsFirstJob given target job
begun-is given own limits target rule parsed job same bounds found script is fits =
    let J : Tree → LimitsView → JobView = λ t l. begun t target rule parsed l in
    let at : job ≡ J given.past.sources given.limits = is ∙ ap (λ t. J t limits) same ∙ ap (J given.past.sources) bounds in
    let F : JobView → Type 0 = λ j. (ask : Answers) → IsFit j ask in
    let fits' = subst F at fits in
    let P : JobView → Type 0 = IsFirstJob given target in
    subst P (sym at) (record {
      of_target = refl;
      at_first = refl;
      none_recorded = refl;
      is_work = begun-work given target rule parsed found script fits';
    })

-- What is advanced of a work is what the work shows

-- an unread script that was begun is a work
pub unread-work : (given : GivenView) (unread : Box UnreadScript Global) → IsScriptOf given (Unread unread) →
    (own : UnreadScript) → own ≡ unread.value → (job : JobView) → IsFirstJob given own.target job → IsWorkWith given job own.facts
unread-work given unread is own same job begun =
    let P : UnreadScript → Type 0 = λ u. IsUnreadWork given u.target (found_as u.rule) u.facts in
    begun.is_work (found_as own.rule) own.facts (subst P (sym same) is)

-- a work as its script shows it
abbrev pub work_of : GivenView → ScriptStage → WorkView
work_of given script = record {
  given = given;
  target = script_target script;
  turn = script_turn script;
  deps = script_deps script;
  known = script_known script;
}

-- what is so of the script that was begun is so of the work
pub begun-shows : (given : GivenView) (script : ScriptStage) (view : WorkView) → work_of given script ≡ view → (begun : BegunScript) →
    begun.job.target ≡ script_target script → known_in begun.facts ≡ script_known script →
    (Q : GivenView → List ℕ → List (List ℕ × Outcome) → Type 0) → Q given begun.job.target (known_in begun.facts) → Q view.given view.target view.known
begun-shows given script view is begun target known Q h =
    let V : WorkView → Type 0 = λ w. Q w.given w.target w.known in
    let T : List ℕ → Type 0 = λ x. Q given x (script_known script) in
    let K : List (List ℕ × Outcome) → Type 0 = Q given begun.job.target in
    subst V is (subst T target (subst K known h))
