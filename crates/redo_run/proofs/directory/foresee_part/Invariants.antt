use Rattle.std.proofs.Common.{◌≤◌, ◌+◌}
use Rattle.redo_dir.specs.Loaded.{AreNamesIn}
use Rattle.redo_run.proofs.directory.foresee_part.Given as goal

-- boards for the parts that are left and one more, and the names as they were found
abbrev pub invariant-loop-part : goal.invariant-loop-part
invariant-loop-part g l = record {
  permit : 15 ≤ l.host.permit + l._part;
  names : AreNamesIn (g.D.DirView.lists l.dir) (g.D.DirView.looks l.dir) l.round.names;
}
