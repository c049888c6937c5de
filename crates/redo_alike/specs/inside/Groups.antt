-- Groups of nodes, each with a key.
use Rattle.std.specs.Prelude.{◌≡◌, ◌<◌, ◌≤◌, ◌⊎◌, ◌↔◌, false, ℕ, List, Option, Some, None, All, Contains, length, slice_get}
use Rattle.std.specs.List.Sorted.{IsStrictlyIncreasing}
use Rattle.redo_alike.specs.Alike.{AreTogether, IsAlone, IsFree, NeedSameGroups, Needs, kind_of, needs_of}
use Rattle.redo_alike.specs.inside.Known.{known_at}
use Rattle.redo_alike.specs.declared.graph.Kind.{Kind}
use Rattle.redo_alike.specs.declared.graph.Node.{Node}
use Rattle.redo_alike.specs.declared.groups.Key.{Key}
use Rattle.redo_alike.specs.declared.groups.Key.TheVariants.{Own, Shared}

-- these are the groups of needs, from the least on, each once
abbrev pub AreGroupsOf : List ℕ → (ℕ → Option ℕ) → List ℕ → Type 0
AreGroupsOf needs group groups = IsStrictlyIncreasing groups
    × ((g : ℕ) → Contains groups g ↔ ((m : ℕ) × Contains needs m × (group m ≡ Some g)))

-- a node that isn't alone, with its kind and the groups of its needs, which are all known
pub record IsShared (nodes : List Node) (group : ℕ → Option ℕ) (n : ℕ) (kind : Kind) (groups : List ℕ) : Type 0 where
  pub node : Node
  pub there : slice_get nodes n ≡ Some node
  pub kinds : node.kind ≡ kind
  pub not_alone : node.alone ≡ false
  pub known : (m : ℕ) → Needs nodes n m → (g : ℕ) × (group m ≡ Some g)
  pub below : AreGroupsOf (needs_of (slice_get nodes n)) group groups

-- the key of a node, as far as groups are known
abbrev pub IsKey : List Node → (ℕ → Option ℕ) → ℕ → Key → Type 0
IsKey nodes group n (Own m) = (m ≡ n) × (IsAlone nodes n ⊎ ((m : ℕ) × Needs nodes n m × (group m ≡ None)))
IsKey nodes group n (Shared kind groups) = IsShared nodes group n kind groups.items

-- what a key says of a node
abbrev pub IsKeyed : List Node → (ℕ → Option ℕ) → ℕ → Key → Type 0
IsKeyed nodes group n (Own m) = (m ≡ n) × (IsFree nodes n → ⊥)
IsKeyed nodes group n (Shared kind groups) = IsShared nodes group n kind groups.items

-- two keys are the same
abbrev pub IsSame : Key → Key → Type 0
IsSame (Own m) (Own n) = m ≡ n
IsSame (Own m) (Shared kind groups) = ⊥
IsSame (Shared kind groups) (Own n) = ⊥
IsSame (Shared kind groups) (Shared other others) = (kind ≡ other) × (groups.items ≡ others.items)

-- the nodes that have groups are the first in the order, and each group has a key, which its nodes have
pub record AreKeyed (nodes : List Node) (order : List ℕ) (known : List (Option ℕ)) (keys : List Key) (count : ℕ) : Type 0 where
  pub size : length known ≡ length nodes
  pub first : (i n : ℕ) → i < count → slice_get order i ≡ Some n → (g : ℕ) × (known_at known n ≡ Some g)
  pub back : (n g : ℕ) → known_at known n ≡ Some g → (i : ℕ) × (i < count) × (slice_get order i ≡ Some n)
  pub keyed : (n g : ℕ) → known_at known n ≡ Some g → (key : Key) × (slice_get keys g ≡ Some key) × IsKeyed nodes (known_at known) n key
  pub apart : (g h : ℕ) (key other : Key) → slice_get keys g ≡ Some key → slice_get keys h ≡ Some other → IsSame key other → g ≡ h
  pub few : length keys ≤ count
  pub each : (g : ℕ) → g < length keys → (n : ℕ) × (known_at known n ≡ Some g)

-- the groups of all nodes
pub record AreGroups (nodes : List Node) (groups : List ℕ) : Type 0 where
  pub size : length groups ≡ length nodes
  pub bound : All (λ g. g < length nodes) groups
  pub numbered : All (λ g. (other : ℕ) → other < g → Contains groups other) groups
  pub kind : (a b : ℕ) → AreTogether groups a b → kind_of (slice_get nodes a) ≡ kind_of (slice_get nodes b)
  pub needs : (a b : ℕ) → AreTogether groups a b → NeedSameGroups nodes groups a b
  pub alone : (a b : ℕ) → AreTogether groups a b → IsAlone nodes a → a ≡ b
  pub together : (a b : ℕ) → IsFree nodes a → IsFree nodes b → kind_of (slice_get nodes a) ≡ kind_of (slice_get nodes b) →
      NeedSameGroups nodes groups a b → AreTogether groups a b
