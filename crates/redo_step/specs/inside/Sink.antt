-- Bytes that grow up to a limit.
use Rattle.std.specs.Prelude.{◌≡◌, ℕ, false, not, nat_le, List, ◌++◌, length, Result, Ok, Err, OnSome, option_map}
use Rattle.redo_step.specs.declared.sink.Sink.{Sink}
use Rattle.redo_step.specs.declared.halt.Halt.{Halt}
use Rattle.redo_step.specs.Runs.{End}
use Rattle.redo_step.specs.inside.Machine.{end_by, IsMeant}

-- a sink that began with `base` and was given `more` holds both, unless they are too long
pub record Holds (base more : List ℕ) (sink : Sink) : Type 0 where
  pub over : sink.is_over ≡ not (nat_le (length (base ++ more)) sink.limit)
  pub all : sink.is_over ≡ false → sink.bytes.items ≡ base ++ more

-- the old bytes are still in front
abbrev pub Grows : Sink → Sink → Type 0
Grows old new = (rest : List ℕ) × (new.bytes.items ≡ old.bytes.items ++ rest)

-- the sink was given these bytes
pub record Adds (more : List ℕ) (old new : Sink) : Type 0 where
  pub limit : new.limit ≡ old.limit
  pub grows : Grows old new
  pub holds : (base before : List ℕ) → Holds base before old → Holds base (before ++ more) new

-- A command gave the sink the bytes that are meant, or stopped as is meant. The old bytes are still in front, unless
-- memory ran out.
abbrev pub Fills : {X : Type 0} → Result X Halt → Result (List ℕ) End → Sink → Sink → Type 0
Fills (Ok x) meant old new = (bytes : List ℕ) × (meant ≡ Ok bytes) × Adds bytes old new
Fills (Err stop) meant old new = IsMeant (option_map Err (end_by stop)) meant × OnSome (end_by stop) (Grows old new)
