-- A tree with one more node is a tree.
use Rattle.std.proofs.Common.{◌≡◌, List, [], ◌∷◌, ℕ, Bool, true, false, cond, refl, sym, ap, subst, ◌∙◌, Option, Some}
use Rattle.std.proofs.Common.{None, IsSome, nat_eq, ◌+◌, length, arith, ◌++◌}
use Rattle.std.proofs.lemmas.Grind.{common_steps}
use Rattle.std.specs.Prelude.{option_and_then, Result, Ok, Err}
use Rattle.std.specs.Cmp.Lexicographic.{slice_cmp, pointwise, same_text, texts_ties, nat_list_cmp_total}
use Rattle.std.specs.Cmp.Lexicographic.{nat_list_eq_equiv}
use Rattle.std.specs.FinMap.Entries.{by_order, put, find-put}
use Rattle.std.specs.Option.{option_or, option_map_or}
use Rattle.std.specs.Ordering.{nat_cmp, match_ordering, is_eq}
use Rattle.std.specs.declared.cmp.Ordering.TheVariants.{Less, Equal, Greater}
use Rattle.redo_path.specs.Names.{IsPath, parent_of}
use Rattle.redo_path.proofs.ApartLemmas.{apart}
use Rattle.redo_tree.specs.declared.faults.TreeFault.{TreeFault}
use Rattle.redo_tree.specs.Tree.{Node, Directory, File, Tree, IsTree, node_at, parent_refusal, place_refusal, refusal}
use Rattle.redo_tree.specs.Tree.{added, with_node, grown}
use Rattle.redo_tree.proofs.KeyLemmas.{keys-with, sorted-with}

-- whether a path is the one that is looked for
abbrev pub is_path : List ℕ → List ℕ → Bool
is_path path q = pointwise nat_eq path q

same_path : (path q : List ℕ) → is_path path q ≡ true → path ≡ q
same_path path q h = same_text path q (sym h)

both_none : {A : Type 0} (a b : Option A) → option_or a b ≡ None → (a ≡ None) × (b ≡ None)
both_none None b h = (refl, h)
both_none (Some x) b h = cc

free_place : (o : Option Node) (node : Node) → place_refusal o node ≡ None → o ≡ None
free_place None node h = refl
free_place (Some Directory) Directory h = cc
free_place (Some Directory) (File bytes) h = cc
free_place (Some (File bytes)) Directory h = cc
free_place (Some (File bytes)) (File others) h = cc

in_directory : (o : Option Node) → parent_refusal o ≡ None → o ≡ Some Directory
in_directory None h = cc
in_directory (Some Directory) h = refl
in_directory (Some (File bytes)) h = cc

-- where nothing is refused, nothing stands there, and the parent is a directory
pub free : (tree : Tree) (path : List ℕ) (node : Node) → refusal tree path node ≡ None → node_at tree path ≡ None
free tree path node h = free_place _ node (both_none (option_and_then (λ dir. parent_refusal (node_at tree dir)) (parent_of path)) _ h).1

parent_is_directory : (tree : Tree) (path dir : List ℕ) (node : Node) → refusal tree path node ≡ None → parent_of path ≡ Some dir → node_at tree dir ≡ Some Directory
parent_is_directory tree path dir node h e =
    let no = (both_none (option_and_then (λ dir. parent_refusal (node_at tree dir)) (parent_of path)) (place_refusal (node_at tree path) node) h).0 in
    in_directory (node_at tree dir) (subst (λ o. option_and_then (λ dir. parent_refusal (node_at tree dir)) o ≡ None) e no)

-- the new tree has the node at the path, and is the old one elsewhere
pub record Puts (old new : Tree) (path : List ℕ) (node : Node) : Type 0 where
  pub at : (q : List ℕ) → node_at new q ≡ cond (is_path path q) (Some node) (node_at old q)

kept : (old new : Tree) (path : List ℕ) (node here : Node) (q : List ℕ) (b : Bool) → is_path path q ≡ b → node_at old path ≡ None → node_at old q ≡ Some here → node_at new q ≡ cond b (Some node) (node_at old q) → node_at new q ≡ Some here
kept old new path node here q true t free at put = let e : node_at old path ≡ node_at old q = ap (node_at old) (same_path path q t) in cc
kept old new path node here q false t free at put = put ∙ at

pub keeps : (old new : Tree) (path : List ℕ) (node here : Node) (q : List ℕ) → Puts old new path node → node_at old path ≡ None → node_at old q ≡ Some here → node_at new q ≡ Some here
keeps old new path node here q puts free at = kept old new path node here q (is_path path q) refl free at (puts.at q)

was_below : (old new : Tree) (path : List ℕ) (node : Node) (q dir : List ℕ) (b : Bool) → is_path path q ≡ b → IsTree old → refusal old path node ≡ None → IsSome (node_at new q) → parent_of q ≡ Some dir → node_at new q ≡ cond b (Some node) (node_at old q) → node_at old dir ≡ Some Directory
was_below old new path node q dir true t is h some e put = parent_is_directory old path dir node h (ap parent_of (same_path path q t) ∙ e)
was_below old new path node q dir false t is h some e put = is.parents q dir (subst IsSome put some) e

-- the library's insertion into a sorted list, with its arguments in another order
placed : (tree : Tree) (path : List ℕ) (node : Node) → with_node tree path node ≡ put (slice_cmp nat_cmp) path node tree
placed [] path node = refl
placed (e ∷ es) path node =
    ap (λ rest. match_ordering {X = Tree} (slice_cmp nat_cmp path e.0) ((path, node) ∷ e ∷ es) ((e.0, node) ∷ es) (e ∷ rest)) (placed es path node)
    ∙ elim (slice_cmp nat_cmp path e.0) as (λ o. match_ordering {X = Tree} o ((path, node) ∷ e ∷ es) ((e.0, node) ∷ es) (e ∷ put (slice_cmp nat_cmp) path node es) ≡ by_order {A = Tree} o ((path, node) ∷ e ∷ es) ((e.0, node) ∷ es) (e ∷ put (slice_cmp nat_cmp) path node es)) [
      | Less ↦ refl
      | Equal ↦ refl
      | Greater ↦ refl
    ]

pub Puts-with : (tree : Tree) (path : List ℕ) (node : Node) → Puts tree (with_node tree path node) path node
Puts-with tree path node = record {
  at = λ q. ap (λ t. node_at t q) (placed tree path node)
      ∙ find-put (slice_cmp nat_cmp) nat_list_cmp_total q path node tree
      ∙ ap (λ b. cond b (Some node) (node_at tree q)) (sym (texts_ties q path) ∙ nat_list_eq_equiv.symm q path);
}

pub IsTree-with : (tree : Tree) (path : List ℕ) (node : Node) → IsTree tree → IsPath path → refusal tree path node ≡ None → IsTree (with_node tree path node)
IsTree-with tree path node is fits h =
    let puts = Puts-with tree path node in
    record {
      sorted = sorted-with tree path node is.sorted;
      paths = keys-with IsPath tree path node is.paths fits;
      root = keeps tree (with_node tree path node) path node Directory [] puts (free tree path node h) is.root;
      parents = λ q dir some e.
          keeps tree (with_node tree path node) path node Directory dir puts (free tree path node h)
          (was_below tree (with_node tree path node) path node q dir (is_path path q) refl is h some e (puts.at q));
    }

pub added-free : (tree : Tree) (path : List ℕ) (node : Node) → refusal tree path node ≡ None → added tree path node ≡ Ok (with_node tree path node)
added-free tree path node h = ap (λ o. option_map_or Err o (Ok (with_node tree path node))) h

pub added-refused : (tree : Tree) (path : List ℕ) (node : Node) (fault : TreeFault) → refusal tree path node ≡ Some fault → added tree path node ≡ Err fault
added-refused tree path node fault h = ap (λ o. option_map_or Err o (Ok (with_node tree path node))) h

-- a node more where nothing stood is an entry more
pub length-with : (tree : Tree) (path : List ℕ) (node : Node) → node_at tree path ≡ None → length (with_node tree path node) ≡ length tree + 1
length-with [] path node h = refl
length-with (e ∷ es) path node h =
    elim (slice_cmp nat_cmp path e.0) as (λ o. slice_cmp nat_cmp path e.0 ≡ o → length (match_ordering {X = Tree} o ((path, node) ∷ e ∷ es) ((e.0, node) ∷ es) (e ∷ with_node es path node)) ≡ length (e ∷ es) + 1) [
      | Less ↦ λ o. grind (arith, common_steps)
      | Equal ↦ λ o. let there : Some e.1 ≡ None = sym (ap (λ c. cond (is_eq c) (Some e.1) (node_at es path)) o) ∙ h in apart cc
      | Greater ↦ λ o. let r = length-with es path node (sym (ap (λ c. cond (is_eq c) (Some e.1) (node_at es path)) o) ∙ h) in grind (arith, common_steps)
    ] refl

added-with : (o : Option TreeFault) (next new : Tree) → option_map_or Err o (Ok next) ≡ Ok new → (o ≡ None) × (next ≡ new)
added-with None next new h = (refl, cc)
added-with (Some fault) next new h = apart cc

-- an entry was added
pub length-added : (old new : Tree) (path : List ℕ) (node : Node) → added old path node ≡ Ok new → length new ≡ length old + 1
length-added old new path node h =
    let a = added-with (refusal old path node) (with_node old path node) new h in
    sym (ap length a.1) ∙ length-with old path node (free old path node a.0)

-- the entries after one that was added, or the fault
abbrev pub onward : List (List ℕ × Node) → Result Tree TreeFault → Result Tree TreeFault
onward es r = elim r [ Ok next ↦ grown next es | Err fault ↦ Err fault ]

pub grown-append : (old mid new : Tree) (es : List (List ℕ × Node)) (e : List ℕ × Node) → grown old es ≡ Ok mid → added mid e.0 e.1 ≡ Ok new → grown old (es ++ e ∷ []) ≡ Ok new
grown-append old mid new [] e h k = let same : old ≡ mid = cc in ap (λ t. onward [] (added t e.0 e.1)) same ∙ ap (onward []) k
grown-append old mid new (x ∷ xs) e h k = elim (added old x.0 x.1) as (λ r. onward xs r ≡ Ok mid → onward (xs ++ e ∷ []) r ≡ Ok new) [
  | Ok next ↦ λ g. grown-append next mid new xs e g k
  | Err fault ↦ λ g. cc
] h
