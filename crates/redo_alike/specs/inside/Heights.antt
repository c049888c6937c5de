-- Heights of nodes, as they become known.
use Rattle.std.specs.Prelude.{◌≡◌, ◌<◌, ◌≤◌, ◌+◌, ◌⊎◌, ℕ, List, Option, Some, Contains, length, slice_get, take}
use Rattle.redo_alike.specs.Alike.{IsHeight}
use Rattle.redo_alike.specs.inside.Known.{known_at}
use Rattle.redo_alike.specs.declared.graph.Node.{Node}

-- the least number above the known heights of the first needs
pub record IsLeastAbove (needs : List ℕ) (known : List (Option ℕ)) (count height : ℕ) : Type 0 where
  pub above : (i m h : ℕ) → i < count → slice_get needs i ≡ Some m → known_at known m ≡ Some h → h < height
  pub least : (height ≡ 0) ⊎ ((m : ℕ) × (h : ℕ) × Contains needs m × (known_at known m ≡ Some h) × (height ≡ h + 1))

-- the first nodes of the order have their heights, and no others have any
pub record AreRaised (nodes : List Node) (order : List ℕ) (known : List (Option ℕ)) (count : ℕ) : Type 0 where
  pub size : length known ≡ length nodes
  pub first : (i n : ℕ) → i < count → slice_get order i ≡ Some n →
      (h : ℕ) × (known_at known n ≡ Some h) × (h ≤ i) × IsHeight nodes (known_at known) (take i order) n h
  pub back : (n h : ℕ) → known_at known n ≡ Some h → (i : ℕ) × (i < count) × (slice_get order i ≡ Some n)
