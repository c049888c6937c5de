-- What the code keeps, as the tree that contracts see.
use Rattle.std.proofs.Common.{◌≡◌, List, [], ◌∷◌, ◌++◌, ℕ, Bool, true, false, cond, map, drop, refl, ap, sym, ◌∙◌, Bor}
use Rattle.std.proofs.Common.{Option, Some, None, MatchOption, ◌+◌, slice_get}
use Rattle.std.proofs.lemmas.List.{drop_more}
use Rattle.std.proofs.lemmas.Option.{get_or_from_slice_get, slice_get_within}
use Rattle.std.proofs.lemmas.List.Sums.{fold-append}
use Rattle.std.specs.Prelude.{option_map}
use Rattle.std.specs.BTreeMap.{insert_entry}
use Rattle.std.specs.Cmp.Lexicographic.{slice_cmp}
use Rattle.std.specs.Ordering.{nat_cmp, match_ordering}
use Rattle.std.specs.declared.cmp.Ordering.TheVariants.{Less, Equal, Greater}
use Rattle.redo_tree.specs.declared.entries.Entry.{Entry}
use Rattle.redo_tree.specs.Tree.{Tree, node_of, with_node, tree_of}

-- entries that are lent, as contracts see them
abbrev pub seen : List (Bor (List ℕ) × Bor Entry) → Tree
seen es = map (λ e. (e.0.now, node_of e.1.now)) es

pub insert_entry-seen : (es : List (Bor (List ℕ) × Bor Entry)) (path : Bor (List ℕ)) (entry : Bor Entry) → seen (insert_entry (λ x y. slice_cmp nat_cmp x.now y.now) es path entry) ≡ with_node (seen es) path.now (node_of entry.now)
insert_entry-seen [] path entry = refl
insert_entry-seen (e ∷ es) path entry =
    elim (slice_cmp nat_cmp path.now e.0.now) as (λ o.
    seen (match_ordering {X = List (Bor (List ℕ) × Bor Entry)} o ((path, entry) ∷ e ∷ es) ((e.0, entry) ∷ es) (e ∷ insert_entry (λ x y. slice_cmp nat_cmp x.now y.now) es path entry))
    ≡ match_ordering {X = Tree} o ((path.now, node_of entry.now) ∷ seen (e ∷ es)) ((e.0.now, node_of entry.now) ∷ seen es) ((e.0.now, node_of e.1.now) ∷ with_node (seen es) path.now (node_of entry.now))) [
      | Less ↦ refl
      | Equal ↦ refl
      | Greater ↦ ap (λ rest. (e.0.now, node_of e.1.now) ∷ rest) (insert_entry-seen es path entry)
    ]

-- the entry that came last is put into the tree of those before it
pub tree_of-last : (es : List (List ℕ × Entry)) (path : List ℕ) (entry : Entry) → tree_of (es ++ (path, entry) ∷ []) ≡ with_node (tree_of es) path (node_of entry)
tree_of-last es path entry = fold-append (λ done e. with_node done e.0 (node_of e.1)) [] es ((path, entry) ∷ [])

pub node_of-cond : (b : Bool) (entry : Entry) (o : Option Entry) → option_map node_of (cond b (Some entry) o) ≡ cond b (Some (node_of entry)) (option_map node_of o)
node_of-cond true entry o = refl
node_of-cond false entry o = refl

-- what is left of some entries at a place is the entry there and what is left behind it
pub drop-at : (es : List (List ℕ × Entry)) (n : ℕ) (e : List ℕ × Entry) → slice_get es n ≡ Some e → drop n es ≡ e ∷ drop (n + 1) es
drop-at es n e h = drop_more es n e (slice_get_within es n e h) ∙ ap (λ x. x ∷ drop (n + 1) es) (get_or_from_slice_get es n e e h)

-- what is left of a sorted map behind its first entry
pub behind_first : (first : Option (Bor (List ℕ) × Bor Entry)) (all left : List (Bor (List ℕ) × Bor Entry)) → MatchOption first ((all ≡ []) × (left ≡ [])) (λ e. all ≡ e ∷ left) → drop 1 (seen all) ≡ seen left
behind_first None all left h = ap (λ es. drop 1 (seen es)) h.0 ∙ ap seen (sym h.1)
behind_first (Some e) all left h = ap (λ es. drop 1 (seen es)) h
