-- Why a clean stops, as its code has it.
use Rattle.std.specs.Prelude.{◌≡◌, ℕ, List, Some, slice_get}
use Rattle.std.specs.declared.io.ErrorKind.{ErrorKind}
use Rattle.redo_dir.specs.declared.faults.StoreFault.{StoreFault}
use Rattle.redo_clean.specs.declared.faults.CleanFault.{CleanFault}
use Rattle.redo_clean.specs.declared.faults.CleanFault.TheVariants.{Left, Device, Memory}

-- a call at a path was refused so, or memory ran out
abbrev pub IsFault : CleanFault → List ℕ → ErrorKind → Type 0
IsFault (Left fault) path kind = ⊥
IsFault (Device other why) path kind = (other ≡ path) × (why ≡ kind)
IsFault Memory path kind = Unit {0}

-- a call at the path in this place of a list was refused, or memory ran out
abbrev pub IsFaultAt : (List ℕ → ErrorKind → Type 0) → List (List ℕ) → ℕ → CleanFault → Type 0
IsFaultAt refuses paths place (Left fault) = ⊥
IsFaultAt refuses paths place (Device path kind) = (slice_get paths place ≡ Some path) × refuses path kind
IsFaultAt refuses paths place Memory = Unit {0}

-- what was left can't be cleared away, and this is said of the fault
abbrev pub IsLeftFault : (StoreFault → Type 0) → CleanFault → Type 0
IsLeftFault said (Left fault) = said fault
IsLeftFault said (Device path kind) = ⊥
IsLeftFault said Memory = ⊥
