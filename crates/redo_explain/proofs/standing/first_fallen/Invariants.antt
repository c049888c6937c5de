use Rattle.std.proofs.Common.{◌≡◌, drop}
use Rattle.redo_why.specs.Reasons.{first_fallen}
use Rattle.redo_explain.specs.inside.Told.{AreRows, sources_in, told_by}
use Rattle.redo_explain.proofs.standing.first_fallen.Given as goal

-- the entries so far stand, so the first that falls is one of those that are left
abbrev pub invariant-loop-entry : goal.invariant-loop-entry
invariant-loop-entry l = AreRows l.rows →
    first_fallen (sources_in l.past) (told_by l.rows) (drop l.entry-index l.entries)
    ≡ first_fallen (sources_in l.past) (told_by l.rows) l.entries
