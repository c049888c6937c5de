-- Operands as definitions see them.
use Rattle.std.specs.Prelude.{List, map}
use Rattle.redo_script.specs.View.{word_of}
use Rattle.redo_step.specs.declared.operands.Operand.{Operand as OperandTree}
use Rattle.redo_step.specs.Operands.{Operand}

-- an operand, with its word as symbols
abbrev pub operand_of : OperandTree → Operand
operand_of o = record { role = o.role; word = word_of o.word.now }

-- operands, each with its word as symbols
abbrev pub seen : List OperandTree → List Operand
seen os = map operand_of os
