-- What contracts see of a permit: how many boards may still be opened by it.
use Rattle.std.specs.Prelude.{◌≡◌, ◌+◌, ◌≤◌, ℕ}

-- a board may be opened by it
abbrev pub IsUnused : ℕ → Type 0
IsUnused permit = 1 ≤ permit

-- a board was opened by it
abbrev pub Uses : ℕ → ℕ → Type 0
Uses old new = new + 1 ≡ old
