-- A table of numbers that become known.
use Rattle.std.specs.Prelude.{ℕ, List, Option, None, slice_index_or}

abbrev pub known_at : List (Option ℕ) → ℕ → Option ℕ
known_at known n = slice_index_or known n None
