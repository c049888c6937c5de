-- What contracts see of a script that was read.
use Rattle.std.specs.Prelude.{Result, Ok, Err}
use Rattle.redo_script.specs.declared.fault.ScriptFault.{ScriptFault}
use Rattle.redo_script.specs.Syntax.{Script}
use Rattle.redo_script.specs.View.{script_of}
use Rattle.redo_step.specs.declared.parsed.Parsed.{Parsed}
use Rattle.redo_step.specs.declared.parsed.Parsed.TheVariants.{Read, Refused}

-- the script, or the fault of its text
abbrev pub parsed_of : Parsed → Result Script ScriptFault
parsed_of (Read script) = Ok (script_of script.stmts.items)
parsed_of (Refused refusal) = Err refusal.fault
