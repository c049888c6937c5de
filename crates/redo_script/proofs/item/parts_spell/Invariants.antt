use Rattle.std.proofs.Common.{◌≡◌, drop}
use Rattle.redo_script.specs.Forms.{spells}
use Rattle.redo_script.specs.View.{symbols_of}
use Rattle.redo_script.proofs.item.parts_spell.Given as goal

abbrev pub invariant-loop-part : goal.invariant-loop-part
invariant-loop-part l = spells (symbols_of (drop l.part-index l.parts)) l.left ≡ spells (symbols_of l.fn.parts) l.fn.name
