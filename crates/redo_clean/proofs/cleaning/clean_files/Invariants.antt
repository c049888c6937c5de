use Rattle.std.proofs.Common.{◌≡◌, ◌++◌, length}
use Rattle.redo_dir.specs.Loaded.{Leads}
use Rattle.redo_clean.specs.Cleaned.{AnsweredWhile, MeetFates, removals}
use Rattle.redo_clean.proofs.cleaning.clean_files.Given as goal

-- the files so far have met their fates
abbrev pub invariant-loop-path : goal.invariant-loop-path
invariant-loop-path g l = record {
  count : length l.fates.items ≡ l.path-index;
  met : MeetFates (AnsweredWhile g.D.WorkDir.done (λ d. Leads (g.D.DirView.looks d) (g.D.DirView.reads d))) (AnsweredWhile g.D.WorkDir.done g.D.DirView.refuses) (g.D.WorkDir.done l.fn.dir) l.files l.fates.items;
  removed : g.D.WorkDir.done l.dir ≡ g.D.WorkDir.done l.fn.dir ++ removals l.files l.fates.items;
}
