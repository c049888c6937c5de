use Rattle.std.proofs.Common.{◌≡◌, [], drop, map}
use Rattle.redo_script.specs.Forms.{knows_items}
use Rattle.redo_script.specs.Parsing.{names_in}
use Rattle.redo_script.specs.inside.Parser.{item_of, stack_onto}
use Rattle.redo_script.proofs.partial.all_known.Given as goal

abbrev pub invariant-loop-item : goal.invariant-loop-item
invariant-loop-item l = knows_items (names_in (stack_onto [] l.fn.opens)) (map item_of (drop l.item-index l.items)) ≡ knows_items (names_in (stack_onto [] l.fn.opens)) (map item_of l.fn.items)
