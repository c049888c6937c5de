-- The entries that the code keeps: they grow to a tree, and look-ups by hash find what stands in it.
use Rattle.std.proofs.Common.{◌≡◌, List, [], ◌∷◌, ◌++◌, ℕ, Bool, true, false, cond, refl, sym, ap, subst, ◌∙◌, Option}
use Rattle.std.proofs.Common.{Some, None, IsSome, nat_eq, T, arith, ◌+◌, length, length-append}
use Rattle.std.proofs.lemmas.Map.Keys.{sorted_head, sorted_tail}
use Rattle.std.specs.Prelude.{IfSome, option_map, ◌&&◌}
use Rattle.std.specs.Cmp.Lexicographic.{slice_cmp, pointwise, nat_list_cmp_total}
use Rattle.std.specs.FinMap.{slice_cmp-IsAntisymmetric, nat_cmp-IsAntisymmetric}
use Rattle.std.specs.FinMap.Entries.{below_all, is_sorted, same_entries as same_lists}
use Rattle.std.specs.List.{AllByRecursion}
use Rattle.std.specs.List.Sorted.{IsStrictlySortedBy}
use Rattle.std.specs.Map.{keys_of, lookup}
use Rattle.std.specs.Ordering.{nat_cmp, is_lt}
use Rattle.std.specs.declared.cmp.Ordering.TheVariants.{Less}
use Rattle.redo_path.specs.Names.{IsPath, parent_of}
use Rattle.redo_tree.specs.declared.entries.Entry.{Entry}
use Rattle.redo_tree.specs.declared.entries.Entry.TheVariants as entries
use Rattle.redo_tree.specs.Tree.{AreAmong, Directory, Tree, IsKept, IsNoted, IsTree, NotesDefaults, default_dir, node_at, node_of}
use Rattle.redo_tree.specs.Tree.{refusal, top, tree_of, with_node}
use Rattle.redo_tree.proofs.GrowLemmas.{IsTree-with, Puts-with, free, is_path, length-with}
use Rattle.redo_tree.proofs.NodeLemmas.{node_of-cond, tree_of-last}
use Rattle.redo_tree.proofs.NotedLemmas.{noted-with, noted_top}

-- ---- the top directory alone

sorted_top : IsStrictlySortedBy (slice_cmp nat_cmp) (keys_of top)
unfolding IsStrictlySortedBy
sorted_top = (tt, tt)

parents_top : (path dir : List ℕ) → IsSome (node_at top path) → parent_of path ≡ Some dir → node_at top dir ≡ Some Directory
parents_top [] dir some e = cc
parents_top (byte ∷ bytes) dir some e = cc

found_top : (path : List ℕ) → option_map node_of (lookup (pointwise nat_eq path) (([], entries.Directory) ∷ [])) ≡ node_at top path
found_top [] = refl
found_top (byte ∷ bytes) = refl

pub IsKept-top : IsKept (([], entries.Directory) ∷ []) []
IsKept-top = record {
  tree = record {
    sorted = sorted_top;
    paths = (record { each = tt; short = omega arith }, tt);
    root = refl;
    parents = parents_top;
  };
  counted = refl;
  found = found_top;
  noted = noted_top;
}

-- ---- one entry more

-- where nothing stands in the tree, nothing is found
pub none_found : (o : Option Entry) → option_map node_of o ≡ None → o ≡ None
none_found None h = refl
none_found (Some entry) h = cc

pub absent : (es : List (List ℕ × Entry)) (dirs : List (List ℕ)) (path : List ℕ) (entry : Entry) → IsKept es dirs → refusal (tree_of es) path (node_of entry) ≡ None → lookup (pointwise nat_eq path) es ≡ None
absent es dirs path entry is h = none_found (lookup (pointwise nat_eq path) es) (is.found path ∙ free (tree_of es) path (node_of entry) h)

-- more directories may be noted
pub IsKept-noted : (es : List (List ℕ × Entry)) (dirs more : List (List ℕ)) → IsKept es dirs → ((d : List ℕ) → IsNoted dirs d → IsNoted more d) → IsKept es more
IsKept-noted es dirs more is kept = record { tree = is.tree; counted = is.counted; found = is.found; noted = λ path dir node at e. kept dir (is.noted path dir node at e) }

pub IsKept-with : (old new : List (List ℕ × Entry)) (dirs : List (List ℕ)) (path : List ℕ) (entry : Entry) → IsKept old dirs → IfSome (default_dir path (node_of entry)) (IsNoted dirs) → IsPath path → refusal (tree_of old) path (node_of entry) ≡ None → new ≡ old ++ (path, entry) ∷ []
    → ((q : List ℕ) → lookup (pointwise nat_eq q) new ≡ cond (is_path path q) (Some entry) (lookup (pointwise nat_eq q) old)) → IsKept new dirs
IsKept-with old new dirs path entry is noted fits h put finds =
    let grown : tree_of new ≡ with_node (tree_of old) path (node_of entry) = ap tree_of put ∙ tree_of-last old path entry in
    record {
      tree = subst IsTree (sym grown) (IsTree-with (tree_of old) path (node_of entry) is.tree fits h);
      counted = ap length grown ∙ length-with (tree_of old) path (node_of entry) (free (tree_of old) path (node_of entry) h) ∙ ap (λ n. n + 1) is.counted ∙ sym (ap length put ∙ length-append old ((path, entry) ∷ []));
      found = λ q. ap (option_map node_of) (finds q) ∙ node_of-cond (is_path path q) entry (lookup (pointwise nat_eq q) old)
          ∙ ap (λ o. cond (is_path path q) (Some (node_of entry)) o) (is.found q)
          ∙ sym ((Puts-with (tree_of old) path (node_of entry)).at q)
          ∙ ap (λ t. node_at t q) (sym grown);
      noted = subst (NotesDefaults dirs) (sym grown) (noted-with dirs dirs (tree_of old) (with_node (tree_of old) path (node_of entry)) path (node_of entry) (Puts-with (tree_of old) path (node_of entry)) is.noted (λ d k. k) noted);
    }

-- ---- trees in which look-ups find the same are one

same_kept : (o p : Option Entry) → ((e : Entry) → o ≡ Some e → option_map node_of p ≡ Some (node_of e)) → ((e : Entry) → p ≡ Some e → option_map node_of o ≡ Some (node_of e)) → option_map node_of o ≡ option_map node_of p
same_kept None None there back = refl
same_kept None (Some f) there back = back f refl
same_kept (Some e) p there back = sym (there e refl)

both_hold : (a b : Bool) → T a → T b → T (a && b)
both_hold true b h k = k
both_hold false b h k = h

below : (path : List ℕ) (es : Tree) → AllByRecursion (λ q. slice_cmp nat_cmp path q ≡ Less) (keys_of es) → T (below_all (slice_cmp nat_cmp) path es)
below path [] h = tt
below path (e ∷ es) h = both_hold (is_lt (slice_cmp nat_cmp path e.0)) _ (subst (λ o. T (is_lt o)) (sym h.0) tt) (below path es h.1)

rises : (es : Tree) → IsStrictlySortedBy (slice_cmp nat_cmp) (keys_of es) → T (is_sorted (slice_cmp nat_cmp) es)
rises [] h = tt
rises (e ∷ es) h = both_hold (below_all (slice_cmp nat_cmp) e.0 es) _ (below e.0 es (sorted_head (slice_cmp nat_cmp) e.0 (keys_of es) h)) (rises es (sorted_tail (slice_cmp nat_cmp) e.0 (keys_of es) h))

pub one_sorted : (tree other : Tree) → IsStrictlySortedBy (slice_cmp nat_cmp) (keys_of tree) → IsStrictlySortedBy (slice_cmp nat_cmp) (keys_of other) → ((q : List ℕ) → node_at tree q ≡ node_at other q) → tree ≡ other
one_sorted tree other is is_other same =
    same_lists (slice_cmp nat_cmp) nat_list_cmp_total (slice_cmp-IsAntisymmetric nat_cmp-IsAntisymmetric) tree other (rises tree is) (rises other is_other) same

pub both_ways : (a b : Bool) → (a ≡ true → b ≡ true) → (b ≡ true → a ≡ true) → a ≡ b
both_ways true b f g = sym (f refl)
both_ways false true f g = g refl
both_ways false false f g = refl

-- what both keep is one tree
pub one-kept : (es fs : List (List ℕ × Entry)) (dirs others : List (List ℕ)) → IsKept es dirs → IsKept fs others → AreAmong es fs → AreAmong fs es → tree_of es ≡ tree_of fs
one-kept es fs dirs others is is_other there back =
    one_sorted (tree_of es) (tree_of fs) is.tree.sorted is_other.tree.sorted (
    λ q. sym (is.found q) ∙ same_kept (lookup (pointwise nat_eq q) es) (lookup (pointwise nat_eq q) fs) (there q) (back q) ∙ is_other.found q)

pub kept-among : (es fs : List (List ℕ × Entry)) (dirs others : List (List ℕ)) → IsKept es dirs → IsKept fs others → tree_of es ≡ tree_of fs → AreAmong es fs
kept-among es fs dirs others is is_other same path entry h =
    sym (is.found path ∙ ap (λ t. node_at t path) same ∙ sym (is_other.found path)) ∙ ap (option_map node_of) h
