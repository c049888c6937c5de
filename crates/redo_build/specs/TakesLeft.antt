-- A bound on the takes and looks that can still come. Within the limit it falls with each of them and never rises.
use Rattle.std.specs.Prelude.{ℕ, ◌+◌, ◌*◌, ◌-◌, List, [], ◌∷◌, is_some, if◌then◌else◌, length}
use Rattle.redo_build.specs.Schedule.{Entry, State}

-- how often a target can still be looked at or taken: up to the limit, and never once it is decided
abbrev pub turns_left : ℕ → Entry → ℕ
turns_left limit e = if is_some e.outcome then 0 else limit - (e.looks + e.turn + (if e.is_out then 1 else 0))

-- the same for all targets seen so far
abbrev pub turns_of : ℕ → List Entry → ℕ
turns_of limit [] = 0
turns_of limit (e ∷ es) = turns_left limit e + turns_of limit es

-- the same, with `limit` for each target that can still be seen
abbrev pub takes_left : ℕ → State → ℕ
takes_left limit s = turns_of limit s.entries + limit * (limit - length s.entries)
