-- A run of a script: what it has done, and how it ends.
use Rattle.std.specs.Prelude.{ℕ, List, [], Option, Some, None, Result, Ok, Err}
use Rattle.redo_record.specs.declared.outcome.Why.{Why}
use Rattle.redo_record.specs.Paths.{Path}
use Rattle.redo_record.specs.declared.deps.Dep.{Dep}
use Rattle.redo_step.specs.declared.halt.Ending.{Ending}
use Rattle.redo_step.specs.declared.halt.Ending.TheVariants as endings

-- standard output, the bytes of $3 once it is created, and the declared entries
pub record State : Type 0 where
  pub output : List ℕ
  pub third : Option (List ℕ)
  pub entries : List Dep

-- nothing is done yet
abbrev pub start : State
start = record { output = []; third = None; entries = [] }

-- How a script ends before its last statement: with a status, with a fault, or lacking answers.
pub data End : Type 0 where
  exited : ℕ → End
  faulted : Why → End
  stopped : List Path → End

-- how a script ends that lacks no answers
abbrev pub end_of : Ending → End
end_of (endings.Exited n) = exited n
end_of (endings.Faulted w) = faulted w

-- a run so far: it goes on, or it has ended
pub data Run : Type 0 where
  goes : State → Run
  ends : End → State → Run

-- what was done, whether or not the run goes on
abbrev pub end_state : Run → State
end_state (goes s) = s
end_state (ends e s) = s

infixl 10 ◌>>=◌
abbrev pub ◌>>=◌ : {A B : Type 0} → Result A End → (A → Result B End) → Result B End
(Ok x) >>= f = f x
(Err e) >>= f = Err e

-- the value, or this end if there is none
abbrev pub or_else : {A : Type 0} → End → Option A → Result A End
or_else e None = Err e
or_else e (Some x) = Ok x
