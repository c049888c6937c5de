use Rattle.std.proofs.Common.{◌≡◌, List, ℕ, take}
use Rattle.redo_names.specs.Paths.{is_among}
use Rattle.redo_dot.specs.Lists.{is_listed}
use Rattle.redo_dot.proofs.list.set_of.Given as goal

-- the targets so far
abbrev pub invariant-loop-listed : goal.invariant-loop-listed
invariant-loop-listed l = (p : List ℕ) → is_among l.set p ≡ is_listed (take l.listed-index l.targets) p
