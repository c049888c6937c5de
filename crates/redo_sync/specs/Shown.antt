-- A published value.
use Rattle.std.specs.Prelude.{ℕ, Option}

-- the name of the cell that has the value, if one does; the value; and the name of a cell that has been written
pub record Shown (T : Type 0) : Type 0 where
  pub cell : Option ℕ
  pub value : T
  pub written : ℕ
