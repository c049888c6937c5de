use Rattle.std.proofs.Common.{◌≡◌, All, take}
use Rattle.redo_core.specs.inside.Reported.{listed_paths, IsNumberOf}
use Rattle.redo_core.proofs.finish.numbered.Given as goal

-- the targets so far are listed with their numbers
abbrev pub invariant-loop-at : goal.invariant-loop-at
invariant-loop-at l = record {
  paths : listed_paths l.listed.items ≡ take l.at l.targets;
  numbers : All (λ e. IsNumberOf l.targets e.0.now e.1) l.listed.items;
}
