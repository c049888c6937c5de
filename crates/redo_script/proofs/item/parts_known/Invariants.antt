use Rattle.std.proofs.Common.{◌≡◌, [], drop}
use Rattle.redo_script.specs.Forms.{knows_word}
use Rattle.redo_script.specs.Parsing.{names_in}
use Rattle.redo_script.specs.View.{symbols_of}
use Rattle.redo_script.specs.inside.Parser.{stack_onto}
use Rattle.redo_script.proofs.item.parts_known.Given as goal

abbrev pub invariant-loop-part : goal.invariant-loop-part
invariant-loop-part l = knows_word (names_in (stack_onto [] l.fn.opens)) (symbols_of (drop l.part-index l.parts)) ≡ knows_word (names_in (stack_onto [] l.fn.opens)) (symbols_of l.fn.parts)
