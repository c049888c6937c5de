-- Rings with paths, of circles of numbers.
use Rattle.std.specs.Prelude.{◌≡◌, ◌-◌, ◌==◌, Bool, false, ℕ, List, Option, Some, None, filter_map, length, map, slice_get, slice_index_or}
use Rattle.std.specs.List.{AllZip, count_by}
use Rattle.redo_rings.specs.declared.ring.Ring.{Ring}
use Rattle.redo_rings.specs.declared.walks.Circle.{Circle}

abbrev pub is_at : ℕ → Option ℕ → Bool
is_at m None = false
is_at m (Some n) = n == m

-- a circle with the paths of its numbers, of which so many lead to it
abbrev pub IsRingOf : List (List ℕ) → ℕ → Circle → Ring → Type 0
IsRingOf names count circle ring = (map (slice_get names) circle.members.items ≡ map Some ring.members.items)
    × (ring.waiting ≡ count - length circle.members.items)

-- the rings of these circles
abbrev pub AreRingsOf : List (List ℕ) → List (Option ℕ) → List (Option Circle) → List Ring → Type 0
AreRingsOf names places circles rings =
    AllZip (λ circle ring. IsRingOf names (count_by (is_at (slice_index_or circle.members.items 0 0)) places) circle ring)
    (filter_map (λ o. o) circles) rings
