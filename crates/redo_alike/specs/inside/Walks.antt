-- Walks in depth.
use Rattle.std.specs.Prelude.{◌≡◌, ◌<◌, ◌≤◌, ◌+◌, ◌⊎◌, ℕ, suc, Bool, true, false, List, [], ◌∷◌, Some, Contains, length, slice_get, slice_index, slice_index_or, take}
use Rattle.redo_alike.specs.Alike.{LeadsTo, Needs, needs_of}
use Rattle.redo_alike.specs.declared.graph.Node.{Node}

abbrev pub seen_at : List Bool → ℕ → Bool
seen_at seen n = slice_index_or seen n false

-- how many aren't seen
abbrev pub unseen_count : List Bool → ℕ
unseen_count [] = 0
unseen_count (true ∷ seen) = unseen_count seen
unseen_count (false ∷ seen) = suc (unseen_count seen)

-- the needs from one place up to another are seen
abbrev pub AreSeen : List ℕ → List Bool → ℕ → ℕ → Type 0
AreSeen needs seen from to = (k m : ℕ) → from ≤ k → k < to → slice_get needs k ≡ Some m → seen_at seen m ≡ true

-- no number is there twice
abbrev pub AreOnce : List ℕ → Type 0
AreOnce ns = (i j n : ℕ) → slice_get ns i ≡ Some n → slice_get ns j ≡ Some n → i ≡ j

-- a walk: those seen are on its way or left; each of the way leads to those behind it; those left are in order
pub record IsWalk (nodes : List Node) (seen : List Bool) (next way left : List ℕ) : Type 0 where
  pub seen_size : length seen ≡ length nodes
  pub next_size : length next ≡ length nodes
  pub count : unseen_count seen + length way + length left ≡ length nodes
  pub either : (n : ℕ) → seen_at seen n ≡ true → Contains way n ⊎ Contains left n
  pub way_seen : (n : ℕ) → Contains way n → seen_at seen n ≡ true
  pub left_seen : (n : ℕ) → Contains left n → seen_at seen n ≡ true
  pub apart : (n : ℕ) → Contains way n → Contains left n → ⊥
  pub way_once : AreOnce way
  pub left_once : AreOnce left
  pub leads : (i j a b : ℕ) → i < j → slice_get way i ≡ Some a → slice_get way j ≡ Some b → LeadsTo nodes a b
  pub looked : (n : ℕ) → AreSeen (needs_of (slice_get nodes n)) seen 0 (slice_index next n)
  pub closes : (i n m : ℕ) → slice_get left i ≡ Some n → Needs nodes n m → Contains (take i left) m ⊎ LeadsTo nodes m n
