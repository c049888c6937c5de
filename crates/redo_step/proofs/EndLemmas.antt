-- A run that comes to an act that ends, ends there.
use Rattle.std.proofs.Common.{◌≡◌, ℕ, List, [], ◌∷◌, ◌++◌, Result, Ok, Err, refl, sym, ap, ◌∙◌}
use Rattle.redo_script.specs.Syntax.{Script, finish, simple, choice, loop}
use Rattle.redo_record.specs.Answers.{Ask}
use Rattle.redo_step.specs.Setting.{Setting, with_value}
use Rattle.redo_step.specs.Runs.{State, End, Run, goes, ends}
use Rattle.redo_step.specs.Statements.{run, then_run, chosen, looped, turns, command_run, condition_result}
use Rattle.redo_step.specs.Words.{texts_of}
use Rattle.redo_step.specs.Place.{behind_first}
use Rattle.redo_step.specs.Ends.{first_alone, finding, Moment, moment_run, ComesTo, to_command, to_condition}
use Rattle.redo_step.specs.Ends.{in_first, in_second, to_words, in_turn, behind}

module _ (setting : Setting) (ask : Ask) where
  -- a run that is finished goes on with what follows
  finished : (r : Run) (next : State → Run) → then_run (then_run r (run setting ask finish)) next ≡ then_run r next
  unfolding run
  finished (goes s) next = refl
  finished (ends e s) next = refl

  -- a script is its first statement, and then the others
  pub runs_first : (script : Script) (s : State) → run setting ask script s ≡ then_run (run setting ask (first_alone script) s) (run setting ask (behind_first script))
  unfolding run
  runs_first finish s = refl
  runs_first (simple line c rest) s = sym (finished (command_run setting ask line c s) (run setting ask rest))
  runs_first (choice line c first second rest) s = sym (finished (chosen (condition_result setting ask line c s) (run setting ask first) (run setting ask second) s) (run setting ask rest))
  runs_first (loop line name ws body rest) s = sym (finished (looped (texts_of setting line ws) (λ value. run (with_value setting name value) ask body) s) (run setting ask rest))

pub finding_ends : {A : Type 0} (r : Result A End) (s t : State) (e : End) (next : Result A End → State → Run) → ((w : End) → next (Err w) s ≡ ends w s) → finding r s ≡ ends e t → next r s ≡ ends e t
finding_ends (Ok x) s t e next by h = absurd cc
finding_ends (Err w) s t e next by h = by w ∙ h

then_same : (r : Run) (all f g : State → Run) → ((s : State) → all s ≡ then_run (f s) g) → then_run r all ≡ then_run (then_run r f) g
then_same (goes s) all f g h = h s
then_same (ends e s) all f g h = refl

-- turns for some values, and then for others
pub turns-append : (turn : List ℕ → State → Run) (xs ys : List (List ℕ)) (s : State) → turns turn (xs ++ ys) s ≡ then_run (turns turn xs s) (turns turn ys)
turns-append turn [] ys s = refl
turns-append turn (x ∷ xs) ys s = then_same (turn x s) (turns turn (xs ++ ys)) (turns turn xs) (turns turn ys) (turns-append turn xs ys)

pub comes_ends : {ask : Ask} {setting : Setting} {script : Script} {s : State} {n : ℕ} {m : Moment} → ComesTo ask setting script s n m → (t : State) (e : End) → moment_run ask m ≡ ends e t → run setting ask script s ≡ ends e t
unfolding run
comes_ends {ask} (to_command {setting} {line} {c} {rest} {s}) t e h = ap (λ r. then_run r (run setting ask rest)) h
comes_ends {ask} (to_condition {setting} {line} {c} {first} {second} {rest} {s}) t e h =
    ap (λ r. then_run r (run setting ask rest)) (finding_ends (condition_result setting ask line c s) s t e (λ r u. chosen r (run setting ask first) (run setting ask second) u) (λ w. refl) h)
comes_ends {ask} (in_first {setting} {line} {c} {first} {second} {rest} {s} cond inner) t e h =
    ap (λ r. then_run (chosen r (run setting ask first) (run setting ask second) s) (run setting ask rest)) cond ∙ ap (λ r. then_run r (run setting ask rest)) (comes_ends inner t e h)
comes_ends {ask} (in_second {setting} {line} {c} {first} {second} {rest} {s} cond inner) t e h =
    ap (λ r. then_run (chosen r (run setting ask first) (run setting ask second) s) (run setting ask rest)) cond ∙ ap (λ r. then_run r (run setting ask rest)) (comes_ends inner t e h)
comes_ends {ask} (to_words {setting} {line} {name} {ws} {body} {rest} {s}) t e h =
    ap (λ r. then_run r (run setting ask rest)) (finding_ends (texts_of setting line ws) s t e (λ r u. looped r (λ value. run (with_value setting name value) ask body) u) (λ w. refl) h)
comes_ends {ask} (in_turn {setting} {line} {name} {value} {ws} {body} {rest} {s} {t = u} before after texts so_far inner) t e h =
    let turn : List ℕ → State → Run = λ v. run (with_value setting name v) ask body in
    let here = comes_ends inner t e h in
    let all : turns turn (before ++ value ∷ after) s ≡ ends e t = turns-append turn before (value ∷ after) s ∙ ap (λ r. then_run r (turns turn (value ∷ after))) so_far ∙ ap (λ r. then_run r (turns turn after)) here in
    ap (λ r. then_run (looped r turn s) (run setting ask rest)) texts ∙ ap (λ r. then_run r (run setting ask rest)) all
comes_ends {ask} (behind {setting} {script} {s} {t = u} first inner) t e h =
    runs_first setting ask script s ∙ ap (λ r. then_run r (run setting ask (behind_first script))) first ∙ comes_ends inner t e h
