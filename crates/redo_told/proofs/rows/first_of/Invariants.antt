use Rattle.std.proofs.Common.{◌≡◌, drop}
use Rattle.redo_told.specs.Rows.{first_change}
use Rattle.redo_told.proofs.rows.first_of.Given as goal

-- none of the entries so far is a change entry
abbrev pub invariant-loop-entry : goal.invariant-loop-entry
invariant-loop-entry l = first_change (drop l.entry-index l.entries) ≡ first_change l.entries
