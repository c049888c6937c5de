-- What an advance promises, from what running the rest came to.
use Rattle.std.proofs.Common.{◌≡◌, ℕ, ◌+◌, Some, Result, Ok, List, refl, sym, ap, ◌∙◌, subst}
use Rattle.redo_script.specs.Syntax.{Script, finish}
use Rattle.redo_script.specs.View.{script_of}
use Rattle.redo_script.specs.declared.ast.Script.{Script as ScriptTree}
use Rattle.redo_record.specs.declared.outcome.Outcome.{Outcome}
use Rattle.redo_step.specs.declared.job.Step.{Step}
use Rattle.redo_step.specs.declared.job.Step.TheVariants as steps
use Rattle.redo_step.specs.declared.parsed.Parsed.TheVariants.{Read, Refused}
use Rattle.redo_step.specs.declared.syntax_fault.SyntaxFault.{SyntaxFault}
use Rattle.redo_script.specs.declared.fault.ScriptFault.{ScriptFault}
use Rattle.redo_step.specs.declared.place.StopPlace.{StopPlace, Before}
use Rattle.redo_record.specs.Paths.{Path}
use Rattle.redo_step.specs.Parsed.{parsed_of}
use Rattle.redo_step.specs.Place.{Rest, all_of, skip, left_at}
use Rattle.redo_step.specs.Setting.{Setting}
use Rattle.redo_step.specs.Runs.{State, End, exited, stopped, Run, goes, ends, start}
use Rattle.redo_step.specs.Statements.{run, meaning}
use Rattle.redo_record.specs.Answers.{Ask}
use Rattle.redo_record.specs.declared.deps.Dep.{Dep}
use Rattle.redo_step.specs.Reach.{Keeps, Reaches, Fits}
use Rattle.redo_step.specs.Results.{after_run, by_script}
use Rattle.redo_step.specs.inside.Endings.{IsEnded, IsRefused}
use Rattle.redo_step.specs.JobView.{JobView, job_setting, whole_of, found_deps, progress_of, FitsWhole, IsFit}
use Rattle.redo_step.specs.Job.{with_rest, AsksFor, Advances}
use Rattle.redo_step.proofs.RunLemmas.{Keeps-refl, Reaches-refl, Reaches-trans}

Keeps-trans : (setting : Setting) (es : List Dep) (a b c : Ask) → Keeps setting es a b → Keeps setting es b c → Keeps setting es a c
Keeps-trans setting es a b c x y = record { same = λ p an n h e. y.same p an n h (x.same p an n h e) }

-- what is reached under an ask is reached under each that keeps its answers
pub Reaches-later : (setting : Setting) (ask later : Ask) (a b : Rest) (s t : State) → Keeps setting t.entries ask later → Reaches setting ask a s b t → Reaches setting later a s b t
Reaches-later setting ask later a b s t k r = record { extends = r.extends; same = λ other k'. r.same other (Keeps-trans setting t.entries ask later other k k') }

-- a job that was just begun fits each ask
pub begun_fits : (setting : Setting) (ask : Ask) (parsed : _) → FitsWhole setting ask (parsed_of parsed) (Before 0) start
unfolding left_at skip
begun_fits setting ask (Read script) = Reaches-refl setting ask (all_of setting (script_of script.stmts.items)) start
begun_fits setting ask (Refused refusal) = tt

module _ (setting : Setting) (ask : Ask) (script : Script) (rest : Rest) (s : State) (fits : Fits setting ask script rest s) where
  meaning_is : meaning setting ask script ≡ rest ask s
  unfolding meaning
  meaning_is = fits.same ask (Keeps-refl setting s.entries ask)

  finish_goes : (t : State) → run setting ask finish t ≡ goes t
  unfolding run
  finish_goes t = refl

  all_goes : (t : State) → Reaches setting ask rest s (all_of setting finish) t → meaning setting ask script ≡ goes t
  all_goes t r = meaning_is ∙ r.same ask (Keeps-refl setting t.entries ask) ∙ finish_goes t

  all_stops : (ps : List Path) (left : Rest) (t : State) → Reaches setting ask rest s left t → left ask t ≡ ends (stopped ps) t → meaning setting ask script ≡ ends (stopped ps) t
  all_stops ps left t r stops = meaning_is ∙ r.same ask (Keeps-refl setting t.entries ask) ∙ stops

  fits_later : (left : Rest) (t : State) (later : Ask) → Reaches setting ask rest s left t → Keeps setting t.entries ask later → Fits setting later script left t
  fits_later left t later r k = Reaches-later setting ask later (all_of setting script) left start t k (Reaches-trans setting ask (all_of setting script) rest left start s t fits r)

module _ (ask : Ask) (job : JobView) (tree : ScriptTree) (fit : IsFit job ask) (is : job.parsed ≡ Read tree) where
  script : Script
  script = script_of tree.stmts.items

  whole : whole_of job ≡ Ok (script_of tree.stmts.items)
  whole = ap parsed_of is

  fits : Fits (job_setting job) ask (script_of tree.stmts.items) (left_at job.place (job_setting job) (script_of tree.stmts.items)) job.state
  fits = let P : Result Script ScriptFault → Type 0 = λ w. FitsWhole (job_setting job) ask w job.place job.state in subst P whole fit

  by_meaning : (r : Run) → meaning (job_setting job) ask (script_of tree.stmts.items) ≡ r → progress_of job ask ≡ after_run (found_deps job) r
  by_meaning r m = ap (λ w. by_script (job_setting job) (found_deps job) w ask) whole ∙ ap (after_run (found_deps job)) m

  ends_as : (r : Run) (step : Step) → meaning (job_setting job) ask (script_of tree.stmts.items) ≡ r → IsEnded (found_deps job) r step → Advances ask job step
  ends_as r (steps.Ended done) m h = by_meaning r m ∙ sym h
  ends_as r (steps.Asks later paths) m h = absurd h

  pub ended : (e : End) (t : State) (step : Step) → left_at job.place (job_setting job) (script_of tree.stmts.items) ask job.state ≡ ends e t → IsEnded (found_deps job) (ends e t) step → Advances ask job step
  ended e t step h d = ends_as (ends e t) step (meaning_is (job_setting job) ask (script_of tree.stmts.items) (left_at job.place (job_setting job) (script_of tree.stmts.items)) job.state fits ∙ h) d

  same_end : (t : State) → after_run (found_deps job) (ends (exited 0) t) ≡ after_run (found_deps job) (goes t)
  same_end t = refl

  pub ended_well : (t : State) (step : Step) → Reaches (job_setting job) ask (left_at job.place (job_setting job) (script_of tree.stmts.items)) job.state (all_of (job_setting job) finish) t → IsEnded (found_deps job) (ends (exited 0) t) step → Advances ask job step
  ended_well t step r d =
      let all = all_goes (job_setting job) ask (script_of tree.stmts.items) (left_at job.place (job_setting job) (script_of tree.stmts.items)) job.state fits t r in
      ends_as (goes t) step all d

  pub asks : (place : StopPlace) (t : State) (turn : ℕ) (paths : List Path) → turn ≡ job.turn + 1 → Reaches (job_setting job) ask (left_at job.place (job_setting job) (script_of tree.stmts.items)) job.state (left_at place (job_setting job) (script_of tree.stmts.items)) t → left_at place (job_setting job) (script_of tree.stmts.items) ask t ≡ ends (stopped paths) t → AsksFor ask job (with_rest job place t turn) paths
  asks place t turn paths later r stops =
      let all = all_stops (job_setting job) ask (script_of tree.stmts.items) (left_at job.place (job_setting job) (script_of tree.stmts.items)) job.state fits paths (left_at place (job_setting job) (script_of tree.stmts.items)) t r stops in
      record {
        script = script_of tree.stmts.items;
        whole = whole;
        lacks = all;
        same = ap (with_rest job place t) later;
        fits = λ ask' k.
            let P : Result Script ScriptFault → Type 0 = λ w. FitsWhole (job_setting job) ask' w place t in
            subst P (sym whole) (fits_later (job_setting job) ask (script_of tree.stmts.items) (left_at job.place (job_setting job) (script_of tree.stmts.items)) job.state fits (left_at place (job_setting job) (script_of tree.stmts.items)) t ask' r k);
        progress = by_meaning (ends (stopped paths) t) all;
      }

pub refused : (ask : Ask) (job : JobView) (refusal : SyntaxFault) (step : Step) → job.parsed ≡ Refused refusal → IsRefused (found_deps job) refusal.fault step → Advances ask job step
refused ask job refusal (steps.Ended done) is h = ap (λ p. by_script (job_setting job) (found_deps job) (parsed_of p) ask) is ∙ sym h
refused ask job refusal (steps.Asks later paths) is h = absurd h

-- with more answers a job that asked goes on
pub fits_more : (ask later : Ask) (job next : JobView) (paths : List Path) → AsksFor ask job next paths → ((p : Path) (o : Outcome) → ask p ≡ Some o → later p ≡ Some o) → IsFit next later
fits_more ask later job next paths asks more = asks.fits later (record { same = λ p o n h e. more p o e })
