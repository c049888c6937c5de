-- What the parts of printf do.
use Rattle.std.specs.Prelude.{◌≡◌, ℕ, true, List, [], ◌∷◌, Option, Some}
use Rattle.redo_step.specs.declared.printf.FormatPart.{FormatPart}
use Rattle.redo_step.specs.declared.sink.Sink.{Sink}
use Rattle.redo_step.specs.Formats.{takes_operands}
use Rattle.redo_step.specs.inside.Sink.{Adds}

-- if there are operands, the format has a place for one
abbrev pub HasPlaces : List FormatPart → List (List ℕ) → Type 0
HasPlaces pieces [] = Unit {0}
HasPlaces pieces (text ∷ texts) = takes_operands pieces ≡ true

-- a sink was given what is printed
abbrev pub Prints : Option (List ℕ) → Sink → Sink → Type 0
Prints printed old new = (bytes : List ℕ) × (printed ≡ Some bytes) × Adds bytes old new

-- a sink was given one round, and these operands are left
abbrev pub PrintsOnce : List ℕ × List (List ℕ) → List (List ℕ) → Sink → Sink → Type 0
PrintsOnce round left old new = Adds round.0 old new × (left ≡ round.1)
