use Rattle.std.proofs.Common.{◌≤◌, length, drop}
use Rattle.redo_step.specs.Formats.{once}
use Rattle.redo_step.proofs.RoundLemmas.{Round}
use Rattle.redo_step.proofs.printf.print_once.Given as goal

abbrev pub invariant-loop-piece : goal.invariant-loop-piece
invariant-loop-piece l = record {
  within : l.printed ≤ length l.texts;
  round : Round (drop l.piece-index l.pieces) (drop l.printed l.texts) (once l.pieces l.texts) l.initial.sink l.sink;
}
