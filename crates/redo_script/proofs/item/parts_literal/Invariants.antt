use Rattle.std.proofs.Common.{◌≡◌, [], drop}
use Rattle.redo_script.specs.Forms.{literal_on}
use Rattle.redo_script.specs.View.{symbols_of}
use Rattle.redo_script.proofs.item.parts_literal.Given as goal

abbrev pub invariant-loop-part : goal.invariant-loop-part
invariant-loop-part l = literal_on l.literal.items (symbols_of (drop l.part-index l.parts)) ≡ literal_on [] (symbols_of l.fn.parts)
