-- Commands, from their parts.
use Rattle.std.proofs.Common.{◌≡◌, ℕ, Bool, true, false, Option, Some, None, Result, Ok, Err, List, refl, sym, ap, subst}
use Rattle.std.specs.Prelude.{option_map}
use Rattle.redo_script.specs.Syntax.{Word, Redirection, Writer}
use Rattle.redo_step.specs.declared.halt.Halt.{Halt}
use Rattle.redo_step.specs.Setting.{Setting}
use Rattle.redo_step.specs.Runs.{State, End, exited, Run, goes, ends, ◌>>=◌}
use Rattle.redo_step.specs.Outputs.{writer_texts, goal_of, bytes_of, put, written}
use Rattle.redo_step.specs.Statements.{with_state, with_status}
use Rattle.redo_record.specs.Answers.{Ask}
use Rattle.redo_step.specs.inside.Machine.{run_by, IsMeant}
use Rattle.redo_step.specs.inside.Writing.{put_bytes}

module _ (setting : Setting) (ask : Ask) (line : ℕ) (w : Writer Word) (r : Option Redirection) (s : State) (texts : Writer (List ℕ)) (goal : Option Bool) (t : writer_texts setting line w ≡ Ok texts) (g : goal_of setting line r ≡ Ok goal) where
  written_is : written setting ask line w r s ≡ (bytes_of setting ask s.entries line texts >>= put setting line s goal)
  written_is = rw (t, g) refl

  pub writes : {X : Type 0} (result : Result X Halt) (new : State) → IsMeant (run_by result new) (put_bytes setting ask line texts goal s) → IsMeant (run_by result new) (with_state (written setting ask line w r s) s)
  writes result new runs = let P : Run → Type 0 = λ x. IsMeant (run_by result new) x in subst P (sym (ap (λ y. with_state y s) written_is)) runs

-- a test that stopped
pub stops_status : (end : Option End) (r : Result Bool End) (s : State) → IsMeant (option_map Err end) r → IsMeant (option_map (λ e. ends e s) end) (with_status r s)
stops_status None r s h = tt
stops_status (Some e) r s h = rw h refl

pub status_true : (r : Result Bool End) (b : Bool) (s : State) → r ≡ Ok b → b ≡ true → with_status r s ≡ goes s
status_true r b s h t = rw (h, t) refl

pub status_false : (r : Result Bool End) (b : Bool) (s : State) → r ≡ Ok b → b ≡ false → with_status r s ≡ ends (exited 1) s
status_false r b s h f = rw (h, f) refl
