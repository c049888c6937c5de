-- How large a build may grow.
use Rattle.std.specs.Prelude.{ℕ, ◌≤◌, ◌^◌}

-- the most targets that a build may need, and the most bytes of a file
pub record LimitsView : Type 0 where
  pub targets : ℕ
  pub file_bytes : ℕ

-- 1 to 65,536 targets, and 1 byte to a gibibyte
abbrev pub AreLimits : ℕ → ℕ → Type 0
AreLimits targets file_bytes = (1 ≤ targets) × (targets ≤ 65536) × (1 ≤ file_bytes) × (file_bytes ≤ 2 ^ 30)
