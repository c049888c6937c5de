-- Faults of a script.
use Rattle.std.specs.Prelude.{◌≡◌, ◌⊎◌, ℕ, Result, Ok, Err}
use Rattle.redo_script.specs.declared.fault.ScriptFault.{ScriptFault}
use Rattle.redo_script.specs.declared.fault.Reason.{Reason}
use Rattle.redo_script.specs.declared.fault.Reason.TheVariants as reasons

-- out of memory, which has no line
abbrev pub no_memory : ScriptFault
no_memory = record { line = 0; why = reasons.Memory }

-- a fault on this line
abbrev pub fault_at : {A : Type 0} → ℕ → Reason → Result A ScriptFault
fault_at line why = Err (record { line = line; why = why })

-- the next step, unless the first one has a fault
infixl 10 ◌>>=◌
abbrev pub ◌>>=◌ : {A B : Type 0} → Result A ScriptFault → (A → Result B ScriptFault) → Result B ScriptFault
(Ok x) >>= f = f x
(Err e) >>= f = Err e

-- a fault is out of memory, or the one that reading gives
abbrev pub Fails : {Y : Type 0} → ScriptFault → Result Y ScriptFault → Type 0
Fails fault read = (fault ≡ no_memory) ⊎ (read ≡ Err fault)

-- What a function returned, seen through `view`, is what reading gives, unless memory ran out.
abbrev pub Gives : {X Y : Type 0} → (X → Y) → Result X ScriptFault → Result Y ScriptFault → Type 0
Gives view (Ok x) read = read ≡ Ok (view x)
Gives view (Err e) read = Fails e read
