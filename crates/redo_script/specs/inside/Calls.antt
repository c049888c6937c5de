-- What a call of the reader leaves.
use Rattle.std.specs.Prelude.{◌≡◌, ◌++◌, Result, Ok, Err}
use Rattle.redo_script.specs.declared.fault.ScriptFault.{ScriptFault}
use Rattle.redo_script.specs.declared.lexer.Mode.{Mode}
use Rattle.redo_script.specs.Faults.{Fails}
use Rattle.redo_script.specs.Reading.{Reader}
use Rattle.redo_script.specs.Syntax.{Word}

-- what it left, seen by view, is what reading says, where it reports no fault
abbrev pub Leaves : {U X Y : Type 0} → (X → Y) → X → Result U ScriptFault → Result Y ScriptFault → Type 0
Leaves view new (Ok u) read = read ≡ Ok (view new)
Leaves view new (Err e) read = Fails e read

-- more symbols of the word
abbrev pub with_symbols : Reader → Mode → Word → Reader
with_symbols r m w = record r { mode = m; word = r.word ++ w }
