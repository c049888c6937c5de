-- What a token of a cell owns.
use Rattle.std.specs.Prelude.{ℕ}
use base.Fml.{Fml, fres}
use denote.RattleType.{RattleType}
use Rattle.once_cell.specs.Once.{mark}

-- the cell named γ has this value forever
abbrev pub known_of : (R : RattleType) → ℕ → R.Denot → Fml
known_of R γ x = fres γ (mark R γ x)
