-- The keys of a tree: paths that rise.
use Rattle.std.proofs.Common.{◌≡◌, List, [], ◌∷◌, ℕ, refl, ap, ◌∙◌}
use Rattle.std.specs.BTreeMap.{insert_entry}
use Rattle.std.specs.Cmp.Lexicographic.{slice_cmp, nat_list_cmp_total}
use Rattle.std.specs.List.{AllByRecursion}
use Rattle.std.specs.List.Sorted.{IsStrictlySortedBy}
use Rattle.std.specs.Map.{keys_of}
use Rattle.std.specs.Ordering.{nat_cmp, match_ordering, ordering_reverse}
use Rattle.std.specs.declared.cmp.Ordering.TheVariants.{Less, Equal, Greater}
use Rattle.redo_tree.specs.Tree.{Tree, Node, with_node}

-- what is behind the keys that rise is behind what comes before them
pub all_further : (dir path : List ℕ) (qs : List (List ℕ)) → slice_cmp nat_cmp dir path ≡ Less → AllByRecursion (λ q. slice_cmp nat_cmp path q ≡ Less) qs → AllByRecursion (λ q. slice_cmp nat_cmp dir q ≡ Less) qs
all_further dir path [] e h = tt
all_further dir path (q ∷ qs) e h = (nat_list_cmp_total.trans dir path q e h.0, all_further dir path qs e h.1)

-- what holds of each key, and of a new one, holds of each key with it
pub keys-with : (P : List ℕ → Type 0) (tree : Tree) (path : List ℕ) (node : Node) → AllByRecursion P (keys_of tree) → P path → AllByRecursion P (keys_of (with_node tree path node))
keys-with P [] path node h k = (k, tt)
keys-with P (e ∷ es) path node h k =
    elim (slice_cmp nat_cmp path e.0) as (λ o. AllByRecursion P (keys_of (match_ordering {X = Tree} o ((path, node) ∷ e ∷ es) ((e.0, node) ∷ es) (e ∷ insert_entry (slice_cmp nat_cmp) es path node)))) [
      | Less ↦ (k, h)
      | Equal ↦ h
      | Greater ↦ (h.0, keys-with P es path node h.1 k)
    ]

pub sorted-with : (tree : Tree) (path : List ℕ) (node : Node) → IsStrictlySortedBy (slice_cmp nat_cmp) (keys_of tree) → IsStrictlySortedBy (slice_cmp nat_cmp) (keys_of (with_node tree path node))
unfolding IsStrictlySortedBy
sorted-with [] path node h = (tt, tt)
sorted-with (e ∷ es) path node h =
    elim (slice_cmp nat_cmp path e.0) as (λ o. slice_cmp nat_cmp path e.0 ≡ o → IsStrictlySortedBy (slice_cmp nat_cmp) (keys_of (match_ordering {X = Tree} o ((path, node) ∷ e ∷ es) ((e.0, node) ∷ es) (e ∷ insert_entry (slice_cmp nat_cmp) es path node)))) [
      | Less ↦ λ p. ((p, all_further path e.0 (keys_of es) p h.0), h)
      | Equal ↦ λ p. h
      | Greater ↦ λ p. (keys-with (λ q. slice_cmp nat_cmp e.0 q ≡ Less) es path node h.0 (nat_list_cmp_total.antisymm e.0 path ∙ ap ordering_reverse p), sorted-with es path node h.1)
    ] refl
