-- Two trees with the same names have the same entries but for the contents of their files.
use Rattle.std.proofs.Common.{◌≡◌, ◌∙◌, ℕ, Bool, true, false, cond, List, [], ◌∷◌, Option, Some, None, filter, inl, inr, map}
use Rattle.std.proofs.Common.{refl, sym, ap, ap₂, subst}
use Rattle.std.specs.Prelude.{filter_map, option_map}
use Rattle.std.specs.Cmp.Lexicographic.{slice_cmp}
use Rattle.std.specs.List.{cons_option}
use Rattle.std.specs.List.Sorted.{IsStrictlySortedBy}
use Rattle.std.specs.Map.{keys_of}
use Rattle.std.specs.Ordering.{is_eq, nat_cmp}
use Rattle.std.proofs.lemmas.Bool.{cases_Bool}
use Rattle.redo_path.proofs.ApartLemmas.{apart}
use Rattle.redo_tree.specs.Tree.{Directory, File, IsTree, Node, Tree, kind_of, node_at}
use Rattle.redo_tree.proofs.KeptLemmas.{one_sorted}
use Rattle.redo_reads.specs.Reads.{AreNamedAlike}

-- an entry of which only the name is left
abbrev pub bare : Node → Node
bare Directory = Directory
bare (File bytes) = File []

abbrev pub bare_entry : List ℕ × Node → List ℕ × Node
bare_entry e = (e.0, bare e.1)

abbrev pub names : Tree → Tree
names tree = map bare_entry tree

at_names : (tree : Tree) (q : List ℕ) → node_at (names tree) q ≡ option_map bare (node_at tree q)
at_names [] q = refl
at_names (e ∷ es) q = elim (cases_Bool (is_eq (slice_cmp nat_cmp q e.0))) [
  | inl at ↦ rw at refl
  | inr other ↦ rw other (at_names es q)
]

keys_names : (tree : Tree) → keys_of (names tree) ≡ keys_of tree
keys_names [] = refl
keys_names (e ∷ es) = ap (λ (ps : List (List ℕ)). e.0 ∷ ps) (keys_names es)

same_bare : (m n : Option Node) → kind_of n ≡ kind_of m → option_map bare n ≡ option_map bare m
same_bare None None k = refl
same_bare None (Some Directory) k = apart cc
same_bare None (Some (File bytes)) k = apart cc
same_bare (Some Directory) None k = apart cc
same_bare (Some Directory) (Some Directory) k = refl
same_bare (Some Directory) (Some (File bytes)) k = apart cc
same_bare (Some (File bytes)) None k = apart cc
same_bare (Some (File bytes)) (Some Directory) k = apart cc
same_bare (Some (File bytes)) (Some (File others)) k = refl

pub names_alike : (one two : Tree) → IsTree one → IsTree two → AreNamedAlike one two → names two ≡ names one
names_alike one two is_one is_two alike =
    let sorted : (tree : Tree) → IsTree tree → IsStrictlySortedBy (slice_cmp nat_cmp) (keys_of (names tree)) =
    λ tree is. subst (IsStrictlySortedBy (slice_cmp nat_cmp)) (sym (keys_names tree)) is.sorted in
    one_sorted (names two) (names one) (sorted two is_two) (sorted one is_one) (λ q.
    at_names two q ∙ same_bare (node_at one q) (node_at two q) (alike q) ∙ sym (at_names one q))

-- trees with the same names have the same paths
pub keys_alike : (one two : Tree) → IsTree one → IsTree two → AreNamedAlike one two → keys_of two ≡ keys_of one
keys_alike one two is_one is_two alike =
    sym (keys_names two) ∙ ap keys_of (names_alike one two is_one is_two alike) ∙ keys_names one

-- What is picked and gathered of entries by their names

picked_names : (test : List ℕ × Node → Bool) → ((e : List ℕ × Node) → test (bare_entry e) ≡ test e) → (tree : Tree) →
    keys_of (filter test (names tree)) ≡ keys_of (filter test tree)
picked_names test same [] = refl
picked_names test same (e ∷ es) =
    ap (λ (b : Bool). keys_of (cond b (bare_entry e ∷ filter test (names es)) (filter test (names es)))) (same e)
    ∙ by_test (test e) (picked_names test same es)
  where
    by_test : (b : Bool) → keys_of (filter test (names es)) ≡ keys_of (filter test es) →
        keys_of (cond b (bare_entry e ∷ filter test (names es)) (filter test (names es))) ≡
        keys_of (cond b (e ∷ filter test es) (filter test es))
    by_test true others = ap (λ (ps : List (List ℕ)). e.0 ∷ ps) others
    by_test false others = others

gathered_names : {X : Type 0} (of : List ℕ × Node → Option X) →
    ((e : List ℕ × Node) → of (bare_entry e) ≡ of e) → (tree : Tree) →
    filter_map of (names tree) ≡ filter_map of tree
gathered_names of same [] = refl
gathered_names of same (e ∷ es) = ap₂ cons_option (same e) (gathered_names of same es)

-- both trees have the same
module _ (one two : Tree) (is_one : IsTree one) (is_two : IsTree two) (alike : AreNamedAlike one two) where
  pub picked_alike : (test : List ℕ × Node → Bool) → ((e : List ℕ × Node) → test (bare_entry e) ≡ test e) →
      keys_of (filter test two) ≡ keys_of (filter test one)
  picked_alike test same =
      sym (picked_names test same two)
      ∙ ap (λ (es : Tree). keys_of (filter test es)) (names_alike one two is_one is_two alike)
      ∙ picked_names test same one

  pub gathered_alike : {X : Type 0} (of : List ℕ × Node → Option X) →
      ((e : List ℕ × Node) → of (bare_entry e) ≡ of e) → filter_map of two ≡ filter_map of one
  gathered_alike of same =
      sym (gathered_names of same two) ∙ ap (filter_map of) (names_alike one two is_one is_two alike)
      ∙ gathered_names of same one
