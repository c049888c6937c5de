-- Rings of the cyclic targets of a report.
use Rattle.std.specs.Prelude.{◌≡◌, ◌⊎◌, ◌↔◌, Bool, true, false, ℕ, List, [], ◌∷◌, Option, Some, None, All, Contains, filter, flat_map, map}
use Rattle.std.specs.Arc.{arc_value}
use Rattle.std.specs.List.{count_by}
use Rattle.std.specs.Str.{bytes_eq}
use Rattle.redo_names.specs.Paths.{AreDistinct, IsAmong, is_among}
use Rattle.redo_record.specs.Progress.{changes}
use Rattle.redo_record.specs.declared.outcome.Outcome.{Outcome}
use Rattle.redo_record.specs.declared.outcome.Outcome.TheVariants.{Source, Built, Failed, Cyclic}
use Rattle.redo_report.specs.declared.report.Report.{Report}
use Rattle.redo_report.specs.declared.report.Row.{Row}
use Rattle.redo_rings.specs.declared.ring.Ring.{Ring}

abbrev pub is_cyclic : Outcome → Bool
is_cyclic Source = false
is_cyclic (Built file) = false
is_cyclic (Failed why) = false
is_cyclic Cyclic = true

-- the rows of the cyclic targets
abbrev pub cyclic_rows : Report → List Row
cyclic_rows report = filter (λ row. is_cyclic row.outcome) report.rows.items

-- the cyclic targets
abbrev pub cyclic_paths : Report → List (List ℕ)
cyclic_paths report = map (λ row. row.path) (cyclic_rows report)

-- the cyclic targets among the paths that a row's record has in change entries
abbrev pub asked : Report → Row → List (List ℕ)
asked report row = filter (is_among (cyclic_paths report)) (changes (arc_value row.deps))

-- a cyclic target asks for another, or for itself
abbrev pub AsksFor : Report → List ℕ → List ℕ → Type 0
AsksFor report p q = (row : Row) × Contains (cyclic_rows report) row × (row.path ≡ p) × IsAmong (asked report row) q

-- a cyclic target asks for none
abbrev pub AsksForNone : Report → List ℕ → Type 0
AsksForNone report p = (row : Row) × Contains (cyclic_rows report) row × (row.path ≡ p) × (asked report row ≡ [])

-- each of these asks for the next one, and the last for the end
abbrev pub IsChain : Report → List (List ℕ) → List ℕ → Type 0
IsChain report [] end = Unit {0}
IsChain report (p ∷ []) end = AsksFor report p end
IsChain report (p ∷ q ∷ ps) end = AsksFor report p q × IsChain report (q ∷ ps) end

-- a target is this one, or waits for it by a chain of records
abbrev pub LeadsTo : Report → List ℕ → List ℕ → Type 0
LeadsTo report p q = (p ≡ q) ⊎ ((between : List (List ℕ)) × IsChain report (p ∷ between) q)

-- the targets from this one on are a ring: each asks for the next one, the last for the first, and each is there once
abbrev pub IsRing : Report → List ℕ → List (List ℕ) → Type 0
IsRing report first ps =
    (others : List (List ℕ)) × (ps ≡ first ∷ others) × IsChain report ps first × AreDistinct ps

-- the members of rings
abbrev pub on_rings : List Ring → List (List ℕ)
on_rings rings = flat_map (λ ring. ring.members.items) rings

-- where a target is counted: with the ring that begins with this target, or with none, as it leads to one that asks for none
abbrev pub IsPlace : Report → List Ring → List ℕ → Option (List ℕ) → Type 0
IsPlace report rings p None = (q : List ℕ) × LeadsTo report p q × AsksForNone report q
IsPlace report rings p (Some first) = LeadsTo report p first
    × ((ring : Ring) × Contains rings ring × IsRing report first ring.members.items)

-- whether a place is with the ring that begins with this target
abbrev pub is_with : List ℕ → Option (List ℕ) → Bool
is_with first None = false
is_with first (Some p) = bytes_eq p first

-- each cyclic target that is no member of a ring, once, with its place
pub record ArePlaces (report : Report) (rings : List Ring) (places : List (List ℕ × Option (List ℕ))) : Type 0 where
  pub once : AreDistinct (map (λ e. e.0) places)
  pub each : (p : List ℕ) → IsAmong (map (λ e. e.0) places) p ↔ (IsAmong (cyclic_paths report) p × (IsAmong (on_rings rings) p → ⊥))
  pub right : All (λ e. IsPlace report rings e.0 e.1) places

-- a ring, with the number of the targets whose place is with it
abbrev pub IsCounted : Report → List (List ℕ × Option (List ℕ)) → Ring → Type 0
IsCounted report places ring = (first : List ℕ) × IsRing report first ring.members.items
    × (ring.waiting ≡ count_by (λ e. is_with first e.1) places)
