-- What contracts see of a text.
use Rattle.std.specs.Prelude.{ℕ, List}
use Rattle.redo_step.specs.declared.text.Bytes.{Bytes}
use Rattle.redo_step.specs.declared.text.Bytes.TheVariants as bytes

-- the bytes, lent or held
abbrev pub bytes_in : Bytes → List ℕ
bytes_in (bytes.Lent text) = text.now
bytes_in (bytes.Held text) = text.items
