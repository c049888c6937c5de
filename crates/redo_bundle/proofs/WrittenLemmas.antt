-- The bundle of a tree is read as that tree.
use Rattle.std.proofs.Common.{◌≡◌, ◌≢◌, ℕ, ◌≤◌, ◌^◌, cond, List, [], ◌∷◌, ◌++◌, length, drop, refl, sym, ap, subst, ◌∙◌}
use Rattle.std.proofs.Common.{Option, Some, None, IsSome, append_assoc, append-nil}
use Rattle.std.proofs.lemmas.Cmp.{nat_list_cmp_total, tied_itself}
use Rattle.std.proofs.lemmas.Map.Keys.{sorted_head, sorted_tail}
use Rattle.std.specs.BTreeMap.{insert_entry}
use Rattle.std.specs.Cmp.Lexicographic.{slice_cmp}
use Rattle.std.specs.List.{AllByRecursion}
use Rattle.std.specs.List.Sorted.{IsStrictlySortedBy}
use Rattle.std.specs.Map.{keys_of}
use Rattle.std.specs.Option.{option_or}
use Rattle.std.specs.Ordering.{nat_cmp, is_eq, match_ordering, ordering_reverse}
use Rattle.std.specs.Prelude.{Ok, option_and_then}
use Rattle.std.specs.declared.cmp.Ordering.{Ordering}
use Rattle.std.specs.declared.cmp.Ordering.TheVariants.{Less, Greater}
use Rattle.redo_path.proofs.ApartLemmas.{apart}
use Rattle.redo_path.specs.Names.{IsPath, parent_of}
use Rattle.redo_path.proofs.CanonicalLemmas.{parent_first}
use Rattle.redo_tree.specs.Tree.{Node, Directory, File, Tree, IsTree, top, added, bytes_of, node_at, parent_refusal}
use Rattle.redo_tree.specs.Tree.{place_refusal, with_node}
use Rattle.redo_bundle.specs.Bundle.{HasSmallFiles, IsBundle, IsEntry, bundle_of}
use Rattle.redo_tree.specs.Tree.{grown}
use Rattle.redo_tree.proofs.GrowLemmas.{added-free, onward}
use Rattle.redo_tree.proofs.KeyLemmas.{all_further}
use Rattle.redo_bundle.proofs.SmallLemmas.{is_small}

abbrev cmp : List ℕ → List ℕ → Ordering
cmp x y = slice_cmp nat_cmp x y

backwards : (x y : List ℕ) → cmp x y ≡ Less → cmp y x ≡ Greater
backwards x y h = nat_list_cmp_total.antisymm y x ∙ ap ordering_reverse h

-- ---- the entries before and behind one of a sorted list

abbrev AllBefore : Tree → List ℕ → Type 0
AllBefore done path = AllByRecursion (λ q. cmp q path ≡ Less) (keys_of done)

head_before : (d path : List ℕ) (done : Tree) (node : Node) (more : Tree) → AllByRecursion (λ q. cmp d q ≡ Less) (keys_of (done ++ (path, node) ∷ more)) → cmp d path ≡ Less
head_before d path [] node more h = h.0
head_before d path (x ∷ xs) node more h = head_before d path xs node more h.1

all_before : (done : Tree) (path : List ℕ) (node : Node) (more : Tree) → IsStrictlySortedBy (slice_cmp nat_cmp) (keys_of (done ++ (path, node) ∷ more)) → AllBefore done path
all_before [] path node more h = tt
all_before (d ∷ done) path node more h =
    let ks = keys_of (done ++ (path, node) ∷ more) in
    (head_before d.0 path done node more (sorted_head (slice_cmp nat_cmp) d.0 ks h), all_before done path node more (sorted_tail (slice_cmp nat_cmp) d.0 ks h))

all_behind : (done : Tree) (path : List ℕ) (node : Node) (more : Tree) → IsStrictlySortedBy (slice_cmp nat_cmp) (keys_of (done ++ (path, node) ∷ more)) → AllByRecursion (λ q. cmp path q ≡ Less) (keys_of more)
all_behind [] path node more h = sorted_head (slice_cmp nat_cmp) path (keys_of more) h
all_behind (d ∷ done) path node more h = all_behind done path node more (sorted_tail (slice_cmp nat_cmp) d.0 (keys_of (done ++ (path, node) ∷ more)) h)

insert-last : (done : Tree) (path : List ℕ) (node : Node) → AllBefore done path → with_node done path node ≡ done ++ (path, node) ∷ []
insert-last [] path node h = refl
insert-last (d ∷ done) path node h =
    ap (λ o. match_ordering {X = Tree} o ((path, node) ∷ d ∷ done) ((d.0, node) ∷ done) (d ∷ insert_entry (slice_cmp nat_cmp) done path node)) (backwards d.0 path h.0)
    ∙ ap (λ es. d ∷ es) (insert-last done path node h.1)

free-last : (done : Tree) (path : List ℕ) → AllBefore done path → node_at done path ≡ None
free-last [] path h = refl
free-last (d ∷ done) path h = ap (λ o. cond (is_eq o) (Some d.1) (node_at done path)) (backwards d.0 path h.0) ∙ free-last done path h.1

-- a path that stands nowhere in the second part is looked up in the first
lookup-front : (done more : Tree) (path : List ℕ) → AllByRecursion (λ q. cmp path q ≡ Less) (keys_of more) → node_at (done ++ more) path ≡ node_at done path
lookup-front [] [] path h = refl
lookup-front [] (e ∷ more) path h = ap (λ o. cond (is_eq o) (Some e.1) (node_at more path)) h.0 ∙ lookup-front [] more path h.1
lookup-front (d ∷ done) more path h = ap (λ o. cond (is_eq (cmp path d.0)) (Some d.1) o) (lookup-front done more path h)

lookup-here : (done : Tree) (path : List ℕ) (node : Node) (more : Tree) → AllBefore done path → node_at (done ++ (path, node) ∷ more) path ≡ Some node
lookup-here [] path node more h = ap (λ o. cond (is_eq o) (Some node) (node_at more path)) (tied_itself nat_list_cmp_total path)
lookup-here (d ∷ done) path node more h = ap (λ o. cond (is_eq o) (Some d.1) (node_at (done ++ (path, node) ∷ more) path)) (backwards d.0 path h.0) ∙ lookup-here done path node more h.1

-- ---- one entry more

no_refusal : (parent : Option (List ℕ)) (done : Tree) (here : Option Node) (node : Node) → here ≡ None → ((dir : List ℕ) → parent ≡ Some dir → node_at done dir ≡ Some Directory)
    → option_or (option_and_then (λ dir. parent_refusal (node_at done dir)) parent) (place_refusal here node) ≡ None
no_refusal None done here node free below = ap (λ o. place_refusal o node) free
no_refusal (Some dir) done here node free below =
    ap (λ o. option_or (parent_refusal o) (place_refusal here node)) (below dir refl) ∙ ap (λ o. place_refusal o node) free

takes : (done : Tree) (path : List ℕ) (node : Node) (more : Tree) → IsTree (done ++ (path, node) ∷ more) → added done path node ≡ Ok (done ++ (path, node) ∷ [])
takes done path node more is =
    let before = all_before done path node more is.sorted in
    let behind = all_behind done path node more is.sorted in
    let some : IsSome (node_at (done ++ (path, node) ∷ more) path) = subst IsSome (sym (lookup-here done path node more before)) refl in
    let below : (dir : List ℕ) → parent_of path ≡ Some dir → node_at done dir ≡ Some Directory = λ dir e.
    let first = parent_first path dir e in
    sym (lookup-front done ((path, node) ∷ more) dir (first, all_further dir path (keys_of more) first behind)) ∙ is.parents path dir some e in
    added-free done path node (no_refusal (parent_of path) done (node_at done path) node (free-last done path before) below) ∙ ap Ok (insert-last done path node before)

grown-on : (done rest : Tree) → IsTree (done ++ rest) → grown done rest ≡ Ok (done ++ rest)
grown-on done [] is = ap Ok (sym (append-nil done))
grown-on done (e ∷ rest) is =
    let whole : done ++ e ∷ rest ≡ (done ++ e ∷ []) ++ rest = sym (append_assoc done (e ∷ []) rest) in
    ap (onward rest) (takes done e.0 e.1 rest is) ∙ grown-on (done ++ e ∷ []) rest (subst IsTree whole is) ∙ ap Ok (sym whole)

-- ---- the entries are fit for a bundle

path_of : (done : Tree) (path : List ℕ) (node : Node) (more : Tree) → AllByRecursion IsPath (keys_of (done ++ (path, node) ∷ more)) → IsPath path
path_of [] path node more h = h.0
path_of (d ∷ done) path node more h = path_of done path node more h.1

small_node : (node : Node) → ((bytes : List ℕ) → node ≡ File bytes → length bytes ≤ 2 ^ 30) → is_small node
small_node Directory h = tt
small_node (File bytes) h = h bytes refl

below_root : (path : List ℕ) → cmp [] path ≡ Less → path ≢ []
below_root [] h e = apart cc
below_root (b ∷ bs) h e = cc

entries_fit : (done rest : Tree) → IsTree (done ++ rest) → HasSmallFiles (done ++ rest) → AllByRecursion (λ q. cmp [] q ≡ Less) (keys_of rest) → AllByRecursion IsEntry rest
entries_fit done [] is small below = tt
entries_fit done (e ∷ rest) is small below =
    let whole : done ++ e ∷ rest ≡ (done ++ e ∷ []) ++ rest = sym (append_assoc done (e ∷ []) rest) in
    let at = lookup-here done e.0 e.1 rest (all_before done e.0 e.1 rest is.sorted) in (
      (
        below_root e.0 below.0,
        path_of done e.0 e.1 rest is.paths,
        small_node e.1 (λ bytes k. small e.0 bytes (ap (option_and_then bytes_of) at ∙ ap bytes_of k)),
      ),
      entries_fit (done ++ e ∷ []) rest (subst IsTree whole is) (subst HasSmallFiles whole small) below.1,
    )

-- ---- the root stands first

no_root : (b : ℕ) (bs : List ℕ) (qs : Tree) → AllByRecursion (λ q. cmp (b ∷ bs) q ≡ Less) (keys_of qs) → node_at qs [] ≡ None
no_root b bs [] h = refl
no_root b bs (([], node) ∷ qs) h = apart cc
no_root b bs (((x ∷ xs), node) ∷ qs) h = no_root b bs qs h.1

root_first : (tree : Tree) → IsTree tree → tree ≡ top ++ drop 1 tree
root_first [] is = let e = is.root in apart cc
root_first (([], node) ∷ es) is = let e = is.root in let same : node ≡ Directory = cc in ap (λ n. ([], n) ∷ es) same
root_first (((b ∷ bs), node) ∷ es) is =
    let e = is.root in
    let none = no_root b bs es (sorted_head (slice_cmp nat_cmp) (b ∷ bs) (keys_of es) is.sorted) in
    absurd (let k : None ≡ Some Directory = sym none ∙ e in cc)

pub read_back : (tree : Tree) → IsTree tree → HasSmallFiles tree → IsBundle (bundle_of tree) tree
read_back tree is small =
    let whole = root_first tree is in
    let rest = drop 1 tree in
    let tree_is = subst IsTree whole is in
    let below = sorted_head (slice_cmp nat_cmp) [] (keys_of rest) tree_is.sorted in (
      rest,
      record {
        entries = entries_fit top rest tree_is (subst HasSmallFiles whole small) below;
        whole = refl;
        makes = grown-on top rest tree_is ∙ ap Ok (sym whole);
      },
    )
