-- How bytes are stored.
use Rattle.std.specs.Prelude.{◌≡◌, ◌≤◌, ℕ, List, length, take, ⊤}
use Rattle.std.specs.Arc.{arc_slice_items}
use Rattle.redo_bytes.specs.declared.Kept.{Kept}
use Rattle.redo_bytes.specs.declared.Kept.TheVariants as kept
use Rattle.redo_bytes.specs.declared.Short.{Short}

-- the bytes of a short string: the first `len` of its places
abbrev pub bytes_of : Short → List ℕ
bytes_of short = take short.len short.bytes

-- it has at most 22 bytes, and exactly 22 places
pub record IsFit (short : Short) : Type 0 where
  pub within : short.len ≤ 22
  pub places : length short.bytes ≡ 22

-- the bytes, in place or shared
abbrev pub bytes_in : Kept → List ℕ
bytes_in (kept.Short short) = bytes_of short
bytes_in (kept.Shared bytes) = arc_slice_items bytes

-- a short string is fit
abbrev pub IsKept : Kept → Type 0
IsKept (kept.Short short) = IsFit short
IsKept (kept.Shared _) = ⊤
