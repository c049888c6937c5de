use Rattle.std.proofs.Common.{◌≡◌, []}
use Rattle.std.specs.Prelude.{IsNone}
use Rattle.redo_run.specs.inside.Driving.{AreOut, HasCome}
use Rattle.redo_run.specs.Picks.{driven_on}
use Rattle.redo_run.proofs.DrivingLemmas.{Leads}
use Rattle.redo_run.proofs.picks.drive.Given as goal

-- the board of the build that was opened runs, the works that were taken are out, and where the picks that are left
-- lead, all of them lead
abbrev pub invariant-loop-done : goal.invariant-loop-done
invariant-loop-done l = record {
  running : IsNone l.board.stopped;
  build : l.board.given ≡ l.initial.board.given;
  out : AreOut l.board l.out.items;
  come : HasCome l.board;
  leads : Leads l.initial.board.given l.picks (driven_on l.initial.board []) l.board l.out.items l.done;
}
