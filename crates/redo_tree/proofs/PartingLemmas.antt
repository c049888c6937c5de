-- Entries that are kept in any order, and the tree of them.
use Rattle.std.proofs.Common.{◌≡◌, ◌+◌, List, [], ◌∷◌, ◌++◌, ℕ, Bool, true, false, cond, not, refl, sym, ap, subst, ◌∙◌}
use Rattle.std.proofs.Common.{Option, Some, None, nat_eq, length, arith, inl, inr}
use Rattle.std.proofs.lemmas.Bool.{cases_Bool}
use Rattle.std.proofs.lemmas.List.{map-append}
use Rattle.std.specs.Cmp.Lexicographic.{nat_list_eq_equiv, pointwise, slice_cmp, texts_ties}
use Rattle.std.specs.List.{filter, list_any}
use Rattle.std.specs.List.Sorted.{IsStrictlySortedBy}
use Rattle.std.specs.Map.{keys_of, lookup}
use Rattle.std.specs.Option.{option_or}
use Rattle.std.specs.Ordering.{is_eq, nat_cmp}
use Rattle.std.specs.Prelude.{◌||◌, bytes_eq, option_map}
use Rattle.redo_names.specs.Paths.{AreDistinct, IsAmong, is_among}
use Rattle.redo_tree.specs.declared.entries.Entry.{Entry}
use Rattle.redo_tree.specs.Tree.{IsKept, IsTree, Node, NotesDefaults, Tree, node_at}
use Rattle.redo_tree.specs.Tree.{is_file_among, node_of, tree_of, with_entries, with_node, without}
use Rattle.redo_tree.specs.inside.Parting.{nodes_of}
use Rattle.redo_tree.proofs.GrowLemmas.{Puts-with, is_path, length-with}
use Rattle.redo_tree.proofs.KeptLemmas.{none_found, one_sorted}
use Rattle.redo_tree.proofs.KeyLemmas.{sorted-with}
use Rattle.redo_tree.proofs.NodeLemmas.{node_of-cond}
use Rattle.redo_tree.proofs.WithoutLemmas.{IsTree-without, is_here, no_node, node_at-filter, node_at-filter-distinct, passing, stood}

-- ---- nodes as entries show them

found_nodes : (es : List (List ℕ × Entry)) (q : List ℕ) → option_map node_of (lookup (pointwise nat_eq q) es) ≡ node_at (nodes_of es) q
found_nodes [] q = refl
found_nodes (e ∷ es) q = node_of-cond (pointwise nat_eq q e.0) e.1 (lookup (pointwise nat_eq q) es) ∙ (λ i. cond (texts_ties q e.0 i) (Some (node_of e.1)) (found_nodes es q i))

-- ---- entries with distinct paths make a tree, in whatever order they are kept

keys-nodes : (es : List (List ℕ × Entry)) → keys_of (nodes_of es) ≡ keys_of es
keys-nodes [] = refl
keys-nodes (e ∷ es) = ap (λ ks. e.0 ∷ ks) (keys-nodes es)

-- paths of entries are those of their nodes
pub distinct-nodes : (es : List (List ℕ × Entry)) → AreDistinct (keys_of es) → AreDistinct (keys_of (nodes_of es))
distinct-nodes es d = subst AreDistinct (sym (keys-nodes es)) d

at_path : (p q : List ℕ) (b : Bool) → is_eq (slice_cmp nat_cmp q p) ≡ b → is_path p q ≡ b
at_path p q b h = nat_list_eq_equiv.symm p q ∙ texts_ties q p ∙ h

-- what stands in a tree to which they are added
found-with : (t : Tree) (es : List (List ℕ × Entry)) (q : List ℕ) → AreDistinct (keys_of (nodes_of es)) → node_at (with_entries t es) q ≡ option_or (node_at (nodes_of es) q) (node_at t q)
found-with t [] q d = refl
found-with t (e ∷ es) q d =
    let n = node_of e.1 in
    found-with (with_node t e.0 n) es q d.1
    ∙ ap (option_or (node_at (nodes_of es) q)) ((Puts-with t e.0 n).at q)
    ∙ elim (cases_Bool (is_eq (slice_cmp nat_cmp q e.0))) [
      | inl at ↦
          let none : node_at (nodes_of es) q ≡ None = no_node (nodes_of es) q (λ m. d.0 (subst (IsAmong (keys_of (nodes_of es))) (is_here q e.0 at) m)) in
          rw (at_path e.0 q true at, at, none) refl
      | inr other ↦ rw (at_path e.0 q false other, other) refl
    ]

or_none : (o : Option Node) → option_or o None ≡ o
or_none None = refl
or_none (Some node) = refl

pub found-in : (es : List (List ℕ × Entry)) (q : List ℕ) → AreDistinct (keys_of (nodes_of es)) → node_at (tree_of es) q ≡ node_at (nodes_of es) q
found-in es q d = found-with [] es q d ∙ or_none (node_at (nodes_of es) q)

sorted-all : (t : Tree) (es : List (List ℕ × Entry)) → IsStrictlySortedBy (slice_cmp nat_cmp) (keys_of t) → IsStrictlySortedBy (slice_cmp nat_cmp) (keys_of (with_entries t es))
sorted-all t [] h = h
sorted-all t (e ∷ es) h = sorted-all (with_node t e.0 (node_of e.1)) es (sorted-with t e.0 (node_of e.1) h)

sorted-none : IsStrictlySortedBy (slice_cmp nat_cmp) (keys_of {X = Node} [])
unfolding IsStrictlySortedBy
sorted-none = tt

counted-with : (t : Tree) (es : List (List ℕ × Entry)) → AreDistinct (keys_of (nodes_of es)) → ((q : List ℕ) → IsAmong (keys_of (nodes_of es)) q → node_at t q ≡ None) → length (with_entries t es) ≡ length t + length es
counted-with t [] d free = omega arith
counted-with t (e ∷ es) d free =
    let n = node_of e.1 in
    let one = length-with t e.0 n (free e.0 (inl refl)) in
    let rest = counted-with (with_node t e.0 n) es d.1 (λ q m. (Puts-with t e.0 n).at q ∙ elim (cases_Bool (is_eq (slice_cmp nat_cmp q e.0))) [
      | inl at ↦ absurd (d.0 (subst (IsAmong (keys_of (nodes_of es))) (is_here q e.0 at) m))
      | inr other ↦ rw (at_path e.0 q false other) (free q (inr m))
    ]) in
    omega arith

-- entries with distinct paths, whose tree is one, are kept
pub IsKept-distinct : (es : List (List ℕ × Entry)) (dirs : List (List ℕ)) → AreDistinct (keys_of (nodes_of es)) → IsTree (tree_of es) → NotesDefaults dirs (tree_of es) → IsKept es dirs
IsKept-distinct es dirs d is noted = record {
  tree = is;
  counted = let all = counted-with [] es d (λ q m. refl) in omega arith;
  found = λ q. found_nodes es q ∙ sym (found-in es q d);
  noted = noted;
}

among-filter : (p : List ℕ × Node → Bool) (t : Tree) (q : List ℕ) → IsAmong (keys_of (filter p t)) q → IsAmong (keys_of t) q
among-filter p [] q m = m
among-filter p (e ∷ es) q m = elim (p e) as (λ b. IsAmong (keys_of (cond b (e ∷ filter p es) (filter p es))) q → IsAmong (e.0 ∷ keys_of es) q) [
  | true ↦ λ m. elim m [ inl here ↦ inl here | inr there ↦ inr (among-filter p es q there) ]
  | false ↦ λ m. inr (among-filter p es q m)
] m

distinct-filter : (p : List ℕ × Node → Bool) (t : Tree) → AreDistinct (keys_of t) → AreDistinct (keys_of (filter p t))
distinct-filter p [] d = tt
distinct-filter p (e ∷ es) d = elim (p e) as (λ b. AreDistinct (keys_of (cond b (e ∷ filter p es) (filter p es)))) [
  | true ↦ (λ m. d.0 (among-filter p es e.0 m), distinct-filter p es d.1)
  | false ↦ distinct-filter p es d.1
]

-- the tree of those that stay is the tree without the others
pub without-distinct : (es kept : List (List ℕ × Entry)) (ps : List (List ℕ)) → IsTree (tree_of es) → AreDistinct (keys_of (nodes_of es)) → AreDistinct (keys_of (nodes_of kept)) → nodes_of kept ≡ without (nodes_of es) ps → tree_of kept ≡ without (tree_of es) ps
without-distinct es kept ps is d k whole =
    let stays : List ℕ × Node → Bool = λ e. not (is_file_among ps e) in
    one_sorted (tree_of kept) (without (tree_of es) ps) (sorted-all [] kept sorted-none) (IsTree-without (tree_of es) ps is).sorted
    (λ q. found-in kept q k ∙ ap (λ t. node_at t q) whole ∙ node_at-filter-distinct stays (nodes_of es) q d
    ∙ ap (passing stays q) (sym (found-in es q d)) ∙ sym (node_at-filter stays (tree_of es) q is.sorted))

-- ---- the directories that are noted

noted-among : (dirs : List (List ℕ)) (dir : List ℕ) → list_any (pointwise nat_eq dir) dirs ≡ is_among dirs dir
noted-among [] dir = refl
noted-among (d ∷ ds) dir = λ i. nat_list_eq_equiv.symm dir d i || noted-among ds dir i

-- they are the same where files are taken out
pub noted-without : (old new : List (List ℕ)) (t kept : Tree) (ps : List (List ℕ)) → IsTree t → kept ≡ without t ps → ((d : List ℕ) → is_among new d ≡ is_among old d) → NotesDefaults old t → NotesDefaults new kept
noted-without old new t kept ps is whole same noted path dir node at e =
    noted-among new dir ∙ same dir ∙ sym (noted-among old dir)
    ∙ noted path dir node (stood t ps path node is (ap (λ k. node_at k path) (sym whole) ∙ at)) e

-- ---- one entry more

pub put-nodes : (es next : List (List ℕ × Entry)) (path : List ℕ) (entry : Entry) → next ≡ es ++ (path, entry) ∷ [] → nodes_of next ≡ nodes_of es ++ (path, node_of entry) ∷ []
put-nodes es next path entry put = ap nodes_of put ∙ map-append (λ e. (e.0, node_of e.1)) es ((path, entry) ∷ [])

mid-there : (a : Tree) (n : List ℕ × Node) (b : Tree) → IsAmong (keys_of (a ++ n ∷ b)) n.0
mid-there [] n b = inl refl
mid-there (e ∷ es) n b = inr (mid-there es n b)

mid-apart : (a : Tree) (n : List ℕ × Node) (b : Tree) → AreDistinct (keys_of (a ++ n ∷ b)) → IsAmong (keys_of a) n.0 → ⊥
mid-apart [] n b d m = m
mid-apart (e ∷ es) n b d m = elim m [
  | inl here ↦ d.0 (subst (IsAmong (keys_of (es ++ n ∷ b))) (sym here) (mid-there es n b))
  | inr there ↦ mid-apart es n b d.1 there
]

-- an entry, if it stays, and those that stay of the rest
pub next-without : (n : List ℕ × Node) (rest : Tree) (ps : List (List ℕ)) → without (n ∷ []) ps ++ without rest ps ≡ without (n ∷ rest) ps
next-without n rest ps = elim (is_file_among ps n) as (λ b. cond (not b) (n ∷ []) [] ++ without rest ps ≡ cond (not b) (n ∷ without rest ps) (without rest ps)) [
  | true ↦ refl
  | false ↦ refl
]

-- the next of the entries that stay is a new one
pub is_new : (es : List (List ℕ × Entry)) (n : List ℕ × Node) (rest t : Tree) (ps : List (List ℕ)) → AreDistinct (keys_of t) → nodes_of es ++ without (n ∷ rest) ps ≡ without t ps → is_file_among ps n ≡ false → lookup (bytes_eq n.0) es ≡ None
is_new es n rest t ps d whole stays =
    let cut : without (n ∷ rest) ps ≡ n ∷ without rest ps = ap (λ b. cond (not b) (n ∷ without rest ps) (without rest ps)) stays in
    let apart = subst (λ t. AreDistinct (keys_of t)) (sym whole ∙ ap (λ more. nodes_of es ++ more) cut) (distinct-filter (λ e. not (is_file_among ps e)) t d) in
    none_found (lookup (bytes_eq n.0) es) (found_nodes es n.0 ∙ no_node (nodes_of es) n.0 (mid-apart (nodes_of es) n (without rest ps) apart))
