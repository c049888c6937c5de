-- Where a published value is stored, in contracts.
use Rattle.std.specs.Prelude.{◌≡◌, ◌<◌, length, slice_index, Some, None}
use Rattle.std.specs.Arc.{arc_value}
use Rattle.redo_sync.specs.declared.cells.Location.{Location}
use Rattle.redo_sync.specs.declared.cells.Location.TheVariants.{InCell, Beside}
use Rattle.redo_sync.specs.Shown.{Shown}

-- what is published at a location
abbrev pub shown_at : {T : Type 0} → Location T → Shown T
shown_at (InCell cells index knows) = record { cell = Some knows.cell; value = knows.value; written = knows.cell }
shown_at (Beside beside) =
    let b = arc_value beside in record { cell = None; value = b.value; written = b.knows.cell }

-- what is known is of the cell at that index
abbrev pub IsPlaced : {T : Type 0} → Location T → Type 0
IsPlaced (InCell cells index knows) =
    (index < length (arc_value cells)) × (slice_index (arc_value cells) index ≡ knows.cell)
IsPlaced (Beside beside) = Unit {0}
