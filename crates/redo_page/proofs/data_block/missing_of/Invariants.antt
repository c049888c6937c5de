use Rattle.std.proofs.Common.{◌≡◌, ◌++◌, drop, false, map}
use Rattle.redo_page.specs.Data.{missing_after}
use Rattle.redo_page.specs.inside.Named.{number_by}
use Rattle.redo_page.proofs.data_block.missing_of.Given as goal

-- the numbers so far, with those of the entries that are left, are all
abbrev pub invariant-loop-entry : goal.invariant-loop-entry
invariant-loop-entry l =
    l.numbers.items ++ map (number_by l.named) (missing_after l.ruled (drop l.entry-index l.entries))
    ≡ map (number_by l.named) (missing_after false l.entries)
