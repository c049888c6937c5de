use Rattle.redo_tests.proofs.memory.by_four_workers.Given as goal

-- the build is that of the tree
abbrev pub ghosts-built_by : goal.ghosts-built_by
ghosts-built_by g a = record { tree = a.tree; request = a.request.now; limits = a.limits }
