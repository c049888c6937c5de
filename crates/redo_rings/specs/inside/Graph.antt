-- Which cyclic targets ask for which, by numbers.
use Rattle.std.specs.Prelude.{◌≡◌, ◌<◌, ℕ, List, [], Option, Some, None, Contains, filter, length, map, slice_get}
use Rattle.std.specs.Arc.{arc_value}
use Rattle.redo_names.specs.Paths.{is_among}
use Rattle.redo_record.specs.Progress.{changes}
use Rattle.redo_report.specs.declared.report.Row.{Row}
use Rattle.redo_rings.specs.Rings.{is_cyclic}
use Rattle.redo_rings.specs.inside.Walks.{IsIn, next_at}
use Rattle.redo_rings.specs.declared.graph.Asks.{Asks}

-- the rows of cyclic targets
abbrev pub cyclic_among : List Row → List Row
cyclic_among rows = filter (λ row. is_cyclic row.outcome) rows

-- these are the numbers that a row asks for
abbrev pub IsNumbering : List (List ℕ) → List ℕ → Row → Type 0
IsNumbering names numbers row = map (slice_get names) numbers ≡ map Some (filter (is_among names) (changes (arc_value row.deps)))

abbrev pub numbers_in : Option Asks → List ℕ
numbers_in None = []
numbers_in (Some asks) = asks.numbers.items

abbrev pub asks_at : List Asks → ℕ → List ℕ
asks_at table k = numbers_in (slice_get table k)

-- each cyclic target with what it asks for, by a row of it
abbrev pub AreAsks : List Row → List (List ℕ) → List Asks → Type 0
AreAsks rows names table = (k : ℕ) (p : List ℕ) → slice_get names k ≡ Some p →
    (row : Row) × Contains (cyclic_among rows) row × (row.path ≡ p) × IsNumbering names (asks_at table k) row

-- each number goes on to one of those that it asks for, if there is any
abbrev pub IsNext : List Row → List (List ℕ) → List (Option ℕ) → Type 0
IsNext rows names next = (table : List Asks) × AreAsks rows names table × (length next ≡ length names)
    × ((k n : ℕ) → next_at next k ≡ Some n → IsIn (asks_at table k) n)
    × ((k : ℕ) → k < length next → next_at next k ≡ None → asks_at table k ≡ [])
