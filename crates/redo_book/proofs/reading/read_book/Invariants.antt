use Rattle.std.proofs.Common.{length}
use Rattle.std.specs.Prelude.{IfSome}
use Rattle.redo_book.specs.inside.Reading.{IsKept, Reached, made_of}
use Rattle.redo_book.proofs.reading.read_book.Given as goal

-- the lines so far made what is kept of them, and the rest is left
abbrev pub invariant-lines : goal.invariant-lines
invariant-lines l = record {
  kept : IfSome l.made.last IsKept;
  reached : Reached l.text (made_of l.made) l.number l.rest;
}

abbrev pub decreases-lines : goal.decreases-lines
decreases-lines l = length l.rest
