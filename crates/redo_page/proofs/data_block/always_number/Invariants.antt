use Rattle.std.proofs.Common.{◌≡◌, drop}
use Rattle.redo_page.specs.Data.{always_number}
use Rattle.redo_page.proofs.data_block.always_number.Given as goal

-- what is left tells the same as all
abbrev pub invariant-loop-entry : goal.invariant-loop-entry
invariant-loop-entry l = always_number (drop l.entry-index l.entries) ≡ always_number l.entries
