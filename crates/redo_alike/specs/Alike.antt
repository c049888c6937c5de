-- Which nodes of a graph are alike, and how high each stands.
use Rattle.std.specs.Prelude.{◌≡◌, ◌<◌, ◌+◌, ◌⊎◌, ◌↔◌, false, true, ℕ, List, [], ◌∷◌, Option, Some, None, Contains, length, slice_get, take}
use Rattle.redo_alike.specs.declared.graph.Kind.{Kind}
use Rattle.redo_alike.specs.declared.graph.Node.{Node}

-- what a node needs
abbrev pub needs_of : Option Node → List ℕ
needs_of None = []
needs_of (Some node) = node.needs.items

-- a node's kind
abbrev pub kind_of : Option Node → Option Kind
kind_of None = None
kind_of (Some node) = Some node.kind

-- one node needs another, or itself
abbrev pub Needs : List Node → ℕ → ℕ → Type 0
Needs nodes n m = Contains (needs_of (slice_get nodes n)) m

-- each need is the number of a node
abbrev pub IsGraph : List Node → Type 0
IsGraph nodes = (n m : ℕ) → Needs nodes n m → m < length nodes

-- a way along needs: from a node over these, the last of which is the end
abbrev pub IsWay : List Node → ℕ → List ℕ → ℕ → Type 0
IsWay nodes from [] to = from ≡ to
IsWay nodes from (n ∷ ns) to = Needs nodes from n × IsWay nodes n ns to

-- a way along needs leads from one node to another, or it is the other
abbrev pub LeadsTo : List Node → ℕ → ℕ → Type 0
LeadsTo nodes from to = (ns : List ℕ) × IsWay nodes from ns to

-- all nodes, each once; a need that doesn't come before a node leads back to it
pub record IsOrder (nodes : List Node) (order : List ℕ) : Type 0 where
  pub all : (n : ℕ) → n < length nodes → Contains order n
  pub within : (n : ℕ) → Contains order n → n < length nodes
  pub once : (i j n : ℕ) → slice_get order i ≡ Some n → slice_get order j ≡ Some n → i ≡ j
  pub closes : (i n m : ℕ) → slice_get order i ≡ Some n → Needs nodes n m → Contains (take i order) m ⊎ LeadsTo nodes m n

-- a node's height is the least above the heights of its needs that come before it: 0 if there are none
pub record IsHeight (nodes : List Node) (height : ℕ → Option ℕ) (before : List ℕ) (n h : ℕ) : Type 0 where
  pub above : (m below : ℕ) → Needs nodes n m → Contains before m → height m ≡ Some below → below < h
  pub least : (h ≡ 0) ⊎ ((m : ℕ) × (below : ℕ) × Needs nodes n m × Contains before m × (height m ≡ Some below) × (h ≡ below + 1))

-- each node has its height in this order
abbrev pub AreHeights : List Node → List ℕ → List ℕ → Type 0
AreHeights nodes heights order = (i n h : ℕ) → slice_get order i ≡ Some n → slice_get heights n ≡ Some h →
    IsHeight nodes (slice_get heights) (take i order) n h

-- a node needs one of this group
abbrev pub NeedsGroup : List Node → (ℕ → Option ℕ) → ℕ → ℕ → Type 0
NeedsGroup nodes group n g = (m : ℕ) × Needs nodes n m × (group m ≡ Some g)

-- two nodes need the same groups
abbrev pub NeedSameGroups : List Node → List ℕ → ℕ → ℕ → Type 0
NeedSameGroups nodes groups a b = (g : ℕ) → NeedsGroup nodes (slice_get groups) a g ↔ NeedsGroup nodes (slice_get groups) b g

-- two nodes are in one group
abbrev pub AreTogether : List ℕ → ℕ → ℕ → Type 0
AreTogether groups a b = (g : ℕ) × (slice_get groups a ≡ Some g) × (slice_get groups b ≡ Some g)

-- a node is to be put with no other
abbrev pub IsAlone : List Node → ℕ → Type 0
IsAlone nodes n = (node : Node) × (slice_get nodes n ≡ Some node) × (node.alone ≡ true)

-- a node may be put with others: it isn't alone, and none of its needs leads back to it
abbrev pub IsFree : List Node → ℕ → Type 0
IsFree nodes n = (node : Node) × (slice_get nodes n ≡ Some node) × (node.alone ≡ false)
    × ((m : ℕ) → Needs nodes n m → LeadsTo nodes m n → ⊥)
