use Rattle.redo_run.proofs.foreseen.build.Given as goal

-- the build that the workers are at is that of the tree that was read
abbrev pub ghosts-report_over : goal.ghosts-report_over
ghosts-report_over g a = record { tree = a.past.tree; request = a.request.now; limits = a.limits }
