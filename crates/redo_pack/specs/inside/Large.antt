-- Files that are too large for a bundle.
use Rattle.std.specs.Prelude.{Bool, false, ◌^◌, ℕ, List, Option, Some, None, length, nat_lt}

-- a file of more bytes than a bundle allows
abbrev pub is_large : Option (List ℕ) → Bool
is_large None = false
is_large (Some bytes) = nat_lt (2 ^ 30) (length bytes)
