use Rattle.std.proofs.Common.{◌≡◌, ℕ, List, take}
use Rattle.std.specs.Map.{lookup}
use Rattle.std.specs.Prelude.{bytes_eq}
use Rattle.redo_page.specs.Pages.{row_of}
use Rattle.redo_page.proofs.links.numbers_of.Given as goal

-- the numbers of the rows so far
abbrev pub invariant-loop-number : goal.invariant-loop-number
invariant-loop-number l = (p : List ℕ) → lookup (bytes_eq p) l.numbers ≡ row_of (take l.number l.rows) p
