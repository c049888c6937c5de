-- What a script declares stands behind what was declared before.
use Rattle.std.proofs.Common.{◌≡◌, ℕ, Bool, true, false, cond, List, [], ◌∷◌, refl, sym, ◌∙◌, Result, Ok, Err}
use Rattle.std.proofs.Common.{append-nil}
use Rattle.redo_script.specs.Syntax.{Command, write, test, change, create, always, always_true, always_false, exit}
use Rattle.redo_script.specs.Syntax.{Script, finish, simple, choice, loop}
use Rattle.redo_record.specs.declared.deps.Dep.{Dep}
use Rattle.redo_record.specs.declared.deps.DepKind.TheVariants as kinds
use Rattle.redo_record.specs.declared.outcome.Why.TheVariants as why
use Rattle.redo_record.specs.Paths.{Path}
use Rattle.redo_step.specs.Setting.{Setting, with_value}
use Rattle.redo_step.specs.Runs.{State, End, faulted, Run, goes, ends, end_state, ◌>>=◌}
use Rattle.redo_step.specs.Words.{texts_of, paths_of}
use Rattle.redo_step.specs.Declaring.{free_paths, declaring, lacking, any_failed, waited, changed, created}
use Rattle.redo_step.specs.Outputs.{written}
use Rattle.redo_step.specs.Files.{tested}
use Rattle.redo_step.specs.Statements.{with_status, with_state, command_run, condition_result, then_run, chosen}
use Rattle.redo_step.specs.Statements.{turns, looped, run}
use Rattle.redo_record.specs.Answers.{Ask}
use Rattle.redo_step.proofs.StepLemmas.{written_entries}
use Rattle.redo_record.proofs.BehindLemmas.{IsBeginning, beginning-refl, beginning-trans, entries-begin}

module _ (setting : Setting) (ask : Ask) where
  waited-begins : (line : ℕ) (ps qs : List Path) (s : State) → IsBeginning s.entries (end_state (waited setting ask line ps qs s)).entries
  waited-begins line ps [] s = elim (any_failed setting ask ps) as (λ (v : Bool). IsBeginning s.entries (end_state (cond v (ends (faulted (why.Depends line)) s) (goes s))).entries)
      [ true ↦ beginning-refl s.entries | false ↦ beginning-refl s.entries ]
  waited-begins line ps (q ∷ qs) s = beginning-refl s.entries

  changed-begins : (line : ℕ) (r : Result (List Path) End) (s : State) → IsBeginning s.entries (end_state (changed setting ask line r s)).entries
  changed-begins line (Err e) s = beginning-refl s.entries
  changed-begins line (Ok ps) s =
      let t : State = declaring s kinds.Change ps in
      beginning-trans s.entries t.entries (end_state (changed setting ask line (Ok ps) s)).entries (entries-begin s.entries kinds.Change ps)
      (waited-begins line ps (lacking setting ask [] ps) t)

  pub created-begins : (r : Result (List Path) End) (s : State) → IsBeginning s.entries (end_state (created r s)).entries
  created-begins (Err e) s = beginning-refl s.entries
  created-begins (Ok ps) s = entries-begin s.entries kinds.Create ps

  status-begins : (r : Result Bool End) (s : State) → IsBeginning s.entries (end_state (with_status r s)).entries
  status-begins (Err e) s = beginning-refl s.entries
  status-begins (Ok true) s = beginning-refl s.entries
  status-begins (Ok false) s = beginning-refl s.entries

  state-begins : (r : Result State End) (s : State) → ((t : State) → r ≡ Ok t → t.entries ≡ s.entries) → IsBeginning s.entries (end_state (with_state r s)).entries
  state-begins (Err e) s same = beginning-refl s.entries
  state-begins (Ok t) s same = ([], same t refl ∙ sym (append-nil s.entries))

  command-begins : (line : ℕ) (c : Command) (s : State) → IsBeginning s.entries (end_state (command_run setting ask line c s)).entries
  command-begins line (write w r) s = state-begins (written setting ask line w r s) s (λ t e. written_entries setting ask line w r s t e)
  command-begins line (test t) s = status-begins (tested setting ask line t s) s
  command-begins line (change ws) s = changed-begins line (texts_of setting line ws >>= paths_of setting line) s
  command-begins line (create ws) s = created-begins (texts_of setting line ws >>= free_paths setting line) s
  command-begins line always s = entries-begin s.entries kinds.Always ([] ∷ [])
  command-begins line always_true s = beginning-refl s.entries
  command-begins line always_false s = beginning-refl s.entries
  command-begins line (exit n) s = beginning-refl s.entries

pub then-begins : (es : List Dep) (r : Run) (f : State → Run) → IsBeginning es (end_state r).entries → ((t : State) → IsBeginning t.entries (end_state (f t)).entries) →
    IsBeginning es (end_state (then_run r f)).entries
then-begins es (goes t) f x k = beginning-trans es t.entries (end_state (f t)).entries x (k t)
then-begins es (ends e t) f x k = x

chosen-begins : (r : Result Bool End) (f g : State → Run) (s : State) → IsBeginning s.entries (end_state (f s)).entries → IsBeginning s.entries (end_state (g s)).entries →
    IsBeginning s.entries (end_state (chosen r f g s)).entries
chosen-begins (Ok true) f g s x y = x
chosen-begins (Ok false) f g s x y = y
chosen-begins (Err e) f g s x y = beginning-refl s.entries

pub turns-begins : (turn : List ℕ → State → Run) → ((value : List ℕ) (s : State) → IsBeginning s.entries (end_state (turn value s)).entries) → (values : List (List ℕ)) (s : State) →
    IsBeginning s.entries (end_state (turns turn values s)).entries
turns-begins turn k [] s = beginning-refl s.entries
turns-begins turn k (value ∷ values) s = then-begins s.entries (turn value s) (turns turn values) (k value s) (turns-begins turn k values)

looped-begins : (r : Result (List (List ℕ)) End) (turn : List ℕ → State → Run) → ((value : List ℕ) (s : State) → IsBeginning s.entries (end_state (turn value s)).entries) → (s : State) →
    IsBeginning s.entries (end_state (looped r turn s)).entries
looped-begins (Err e) turn k s = beginning-refl s.entries
looped-begins (Ok values) turn k s = turns-begins turn k values s

-- a run only adds to what was declared, behind it
pub run-begins : (setting : Setting) (ask : Ask) (c : Script) (s : State) → IsBeginning s.entries (end_state (run setting ask c s)).entries
unfolding run
run-begins setting ask finish s = beginning-refl s.entries
run-begins setting ask (simple line c rest) s =
    then-begins s.entries (command_run setting ask line c s) (run setting ask rest) (command-begins setting ask line c s) (run-begins setting ask rest)
run-begins setting ask (choice line c first second rest) s =
    then-begins s.entries (chosen (condition_result setting ask line c s) (run setting ask first) (run setting ask second) s) (run setting ask rest)
    (chosen-begins (condition_result setting ask line c s) (run setting ask first) (run setting ask second) s (run-begins setting ask first s) (run-begins setting ask second s))
    (run-begins setting ask rest)
run-begins setting ask (loop line name ws body rest) s =
    then-begins s.entries (looped (texts_of setting line ws) (λ value. run (with_value setting name value) ask body) s) (run setting ask rest)
    (looped-begins (texts_of setting line ws) (λ value. run (with_value setting name value) ask body) (λ value. run-begins (with_value setting name value) ask body) s)
    (run-begins setting ask rest)
