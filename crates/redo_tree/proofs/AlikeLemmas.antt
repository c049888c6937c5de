-- Trees that `==` tells equal are one tree.
use Rattle.std.proofs.Common.{◌≡◌, ◌&&◌, [], ◌∷◌, Bool, true, false, refl, ap, sym, subst, ◌∙◌, Option, Some, None}
use Rattle.std.proofs.Common.{nat_eq}
use Rattle.std.specs.Cmp.Lexicographic.{nat_list_eq_equiv, options_equiv, pointwise, same_text}
use Rattle.std.specs.Option.{option_eq}
use Rattle.std.specs.Prelude.{option_map}
use Rattle.redo_tree.specs.contracts.entries.EntryPartialEq.TheImpl.{ghosts}
use Rattle.redo_tree.specs.declared.entries.Entry.{Entry}
use Rattle.redo_tree.specs.declared.entries.Entry.TheVariants as entries
use Rattle.redo_tree.specs.Tree.{Node, Directory, File, Tree, bytes_of, entry_eq, node_of, tree_eq, trees_alike}

same_node : (a b : Node) → option_eq (pointwise nat_eq) (bytes_of a) (bytes_of b) ≡ true → a ≡ b
same_node Directory Directory h = refl
same_node Directory (File bytes) h = cc
same_node (File bytes) Directory h = cc
same_node (File bytes) (File other) h = ap File (same_text bytes other (sym h))

both : (a b : Bool) → (a && b) ≡ true → (a ≡ true) × (b ≡ true)
both true b h = (refl, h)
both false b h = cc

pub same_entries : (tree other : Tree) → tree_eq tree other ≡ true → tree ≡ other
same_entries [] [] h = refl
same_entries [] (f ∷ fs) h = cc
same_entries (e ∷ es) [] h = cc
same_entries (e ∷ es) (f ∷ fs) h =
    let k = both (entry_eq e f) (tree_eq es fs) h in
    let l = both (pointwise nat_eq e.0 f.0) (option_eq (pointwise nat_eq) (bytes_of e.1) (bytes_of f.1)) k.0 in
    λ i. (same_text e.0 f.0 (sym l.0) i, same_node e.1 f.1 l.1 i) ∷ same_entries es fs k.1 i

pub alike : (tree other : Tree) → tree ≡ other → tree_eq tree other ≡ true
alike tree other e = subst (λ t. tree_eq tree t ≡ true) e (trees_alike.refl tree)

-- `==` of two entries looks at what they are seen as
nodes_alike : (a b : Entry) → ghosts.eq a b ≡ option_eq (pointwise nat_eq) (bytes_of (node_of a)) (bytes_of (node_of b))
nodes_alike entries.Directory entries.Directory = refl
nodes_alike entries.Directory (entries.File content) = refl
nodes_alike (entries.File content) entries.Directory = refl
nodes_alike (entries.File content) (entries.File other) = refl

pub same_found : (o p : Option Entry) → option_eq ghosts.eq o p ≡ true → option_map node_of o ≡ option_map node_of p
same_found None None h = refl
same_found None (Some b) h = cc
same_found (Some a) None h = cc
same_found (Some a) (Some b) h = ap (λ n. Some n) (same_node (node_of a) (node_of b) (sym (nodes_alike a b) ∙ h))

pub found_alike : (o p : Option Entry) → option_map node_of o ≡ option_map node_of p → option_eq ghosts.eq o p ≡ true
found_alike None None h = refl
found_alike None (Some b) h = cc
found_alike (Some a) None h = cc
found_alike (Some a) (Some b) h =
    let e : node_of a ≡ node_of b = cc in
    nodes_alike a b ∙ subst (λ n. option_eq (pointwise nat_eq) (bytes_of (node_of a)) (bytes_of n) ≡ true) e ((options_equiv nat_list_eq_equiv).refl (bytes_of (node_of a)))
