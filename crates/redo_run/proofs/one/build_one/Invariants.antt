use Rattle.std.proofs.Common.{◌≡◌}
use Rattle.std.specs.Prelude.{IsNone}
use Rattle.redo_build.specs.TakesLeft.{takes_left}
use Rattle.redo_core.specs.Views.{jobs_out}
use Rattle.redo_run.proofs.one.build_one.Given as goal

-- the board of the build that was opened runs, and no job is out
abbrev pub invariant-loop-board : goal.invariant-loop-board
invariant-loop-board l =
    IsNone l.board.stopped × (jobs_out l.board ≡ 0) × (l.board.given ≡ l.initial.board.given)

-- each turn leaves fewer jobs to take
abbrev pub decreases-loop-board : goal.decreases-loop-board
decreases-loop-board l = takes_left l.board.given.limits.targets l.board.state
