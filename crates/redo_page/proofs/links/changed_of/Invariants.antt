use Rattle.std.proofs.Common.{◌≡◌, List, ℕ, take}
use Rattle.redo_names.specs.Paths.{is_among}
use Rattle.redo_page.specs.Pages.{changed_in}
use Rattle.redo_page.proofs.links.changed_of.Given as goal

-- the targets of the rows so far
abbrev pub invariant-loop-row : goal.invariant-loop-row
invariant-loop-row l = (p : List ℕ) → is_among l.set p ≡ is_among (changed_in l.before (take l.row-index l.rows)) p
