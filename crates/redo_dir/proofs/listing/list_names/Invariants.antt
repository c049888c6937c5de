use Rattle.redo_dir.specs.inside.Levels.{IsBetween, progress}
use Rattle.redo_dir.proofs.listing.list_names.Given as goal

-- what was listed so far comes to what was found
abbrev pub invariant-loop : goal.invariant-loop
invariant-loop g l = IsBetween (g.D.DirView.lists l.dir) (g.D.DirView.looks l.dir) (progress l.walk)
