-- What stands where in a tree without some of its files.
use Rattle.std.proofs.Common.{◌≡◌, ◌&&◌, List, [], ◌∷◌, ℕ, Bool, true, false, cond, not, refl, sym, ap, subst, ◌∙◌}
use Rattle.std.proofs.Common.{Option, Some, None, IsSome, inl, inr}
use Rattle.std.proofs.lemmas.Bool.{cases_Bool}
use Rattle.std.proofs.lemmas.Map.Keys.{sorted_head, sorted_tail}
use Rattle.std.specs.Cmp.Lexicographic.{same_text, slice_cmp, texts_ties}
use Rattle.std.specs.List.{AllByRecursion, filter}
use Rattle.std.specs.List.Sorted.{IsStrictlySortedBy}
use Rattle.std.specs.Map.{keys_of}
use Rattle.std.specs.Ordering.{is_eq, nat_cmp}
use Rattle.std.specs.Prelude.{is_some, option_and_then}
use Rattle.std.specs.declared.cmp.Ordering.TheVariants.{Less}
use Rattle.redo_names.specs.Paths.{AreDistinct, IsAmong, is_among}
use Rattle.redo_path.specs.Names.{IsPath}
use Rattle.redo_tree.specs.Tree.{Directory, File, IsTree, Node, Tree, bytes_of, file_at}
use Rattle.redo_tree.specs.Tree.{is_file_among, node_at, without}

-- ---- entries that pass a test

-- the node, if it passes at this path
abbrev pub passing : (List ℕ × Node → Bool) → List ℕ → Option Node → Option Node
passing p q None = None
passing p q (Some node) = cond (p (q, node)) (Some node) None

-- the keys rise from this one
abbrev IsBefore : List ℕ → List (List ℕ) → Type 0
IsBefore q ks = AllByRecursion (λ k. slice_cmp nat_cmp q k ≡ Less) ks

-- nothing stands before the first key
pub absent_before : (q : List ℕ) (es : Tree) → IsBefore q (keys_of es) → node_at es q ≡ None
absent_before q [] h = refl
absent_before q (e ∷ es) h = rw h.0 (absent_before q es h.1)

pub is_here : (q k : List ℕ) → is_eq (slice_cmp nat_cmp q k) ≡ true → q ≡ k
is_here q k h = same_text q k (sym (texts_ties q k ∙ h))

before_here : (q : List ℕ) (e : List ℕ × Node) (es : Tree) → is_eq (slice_cmp nat_cmp q e.0) ≡ true → IsBefore e.0 (keys_of es) → node_at es q ≡ None
before_here q e es at head = absent_before q es (subst (λ k. IsBefore k (keys_of es)) (sym (is_here q e.0 at)) head)

here : (p : List ℕ × Node → Bool) (e : List ℕ × Node) (es : Tree) (q : List ℕ) (c b : Bool) → p e ≡ c → is_eq (slice_cmp nat_cmp q e.0) ≡ b → (b ≡ true → node_at es q ≡ None) → node_at (filter p es) q ≡ passing p q (node_at es q)
    → node_at (cond c (e ∷ filter p es) (filter p es)) q ≡ passing p q (cond b (Some e.1) (node_at es q))
here p e es q true true pe at none ih =
    let passes : p (q, e.1) ≡ true = ap (λ k. p (k, e.1)) (is_here q e.0 at) ∙ pe in
    rw (at, passes) refl
here p e es q true false pe at none ih = rw at ih
here p e es q false true pe at none ih =
    let fails : p (q, e.1) ≡ false = ap (λ k. p (k, e.1)) (is_here q e.0 at) ∙ pe in
    ih ∙ ap (passing p q) (none refl) ∙ sym (ap (λ b. cond b (Some e.1) None) fails)
here p e es q false false pe at none ih = ih

pub node_at-filter : (p : List ℕ × Node → Bool) (t : Tree) (q : List ℕ) → IsStrictlySortedBy (slice_cmp nat_cmp) (keys_of t) → node_at (filter p t) q ≡ passing p q (node_at t q)
node_at-filter p [] q h = refl
node_at-filter p (e ∷ es) q h = here p e es q (p e) (is_eq (slice_cmp nat_cmp q e.0)) refl refl
    (λ at. before_here q e es at (sorted_head (slice_cmp nat_cmp) e.0 (keys_of es) h)) (node_at-filter p es q (sorted_tail (slice_cmp nat_cmp) e.0 (keys_of es) h))

-- the same of entries with distinct paths, in any order
pub no_node : (t : Tree) (q : List ℕ) → (IsAmong (keys_of t) q → ⊥) → node_at t q ≡ None
no_node [] q none = refl
no_node (e ∷ es) q none = elim (cases_Bool (is_eq (slice_cmp nat_cmp q e.0))) [
  | inl at ↦ absurd (none (inl (sym (is_here q e.0 at))))
  | inr other ↦ rw other (no_node es q (λ m. none (inr m)))
]

pub node_at-filter-distinct : (p : List ℕ × Node → Bool) (t : Tree) (q : List ℕ) → AreDistinct (keys_of t) → node_at (filter p t) q ≡ passing p q (node_at t q)
node_at-filter-distinct p [] q d = refl
node_at-filter-distinct p (e ∷ es) q d = here p e es q (p e) (is_eq (slice_cmp nat_cmp q e.0)) refl refl
    (λ at. no_node es q (λ m. d.0 (subst (IsAmong (keys_of es)) (is_here q e.0 at) m))) (node_at-filter-distinct p es q d.1)

keys-filter : (P : List ℕ → Type 0) (p : List ℕ × Node → Bool) (t : Tree) → AllByRecursion P (keys_of t) → AllByRecursion P (keys_of (filter p t))
keys-filter P p [] h = tt
keys-filter P p (e ∷ es) h = elim (p e) as (λ b. AllByRecursion P (keys_of (cond b (e ∷ filter p es) (filter p es)))) [
  | true ↦ (h.0, keys-filter P p es h.1)
  | false ↦ keys-filter P p es h.1
]

sorted-filter : (p : List ℕ × Node → Bool) (t : Tree) → IsStrictlySortedBy (slice_cmp nat_cmp) (keys_of t) → IsStrictlySortedBy (slice_cmp nat_cmp) (keys_of (filter p t))
unfolding IsStrictlySortedBy
sorted-filter p [] h = tt
sorted-filter p (e ∷ es) h = elim (p e) as (λ b. IsStrictlySortedBy (slice_cmp nat_cmp) (keys_of (cond b (e ∷ filter p es) (filter p es)))) [
  | true ↦ (keys-filter (λ k. slice_cmp nat_cmp e.0 k ≡ Less) p es h.0, sorted-filter p es h.1)
  | false ↦ sorted-filter p es h.1
]

-- ---- a tree without some files

-- an entry stays
abbrev stays : List (List ℕ) → List ℕ × Node → Bool
stays ps e = not (is_file_among ps e)

pub node_at-without : (t : Tree) (ps : List (List ℕ)) (q : List ℕ) → IsTree t → node_at (without t ps) q ≡ passing (stays ps) q (node_at t q)
node_at-without t ps q is = node_at-filter (stays ps) t q is.sorted

directory_passes : (ps : List (List ℕ)) (q : List ℕ) (o : Option Node) → o ≡ Some Directory → passing (stays ps) q o ≡ Some Directory
directory_passes ps q o h = ap (passing (stays ps) q) h

pub directory_stays : (t : Tree) (ps : List (List ℕ)) (q : List ℕ) → IsTree t → node_at t q ≡ Some Directory → node_at (without t ps) q ≡ Some Directory
directory_stays t ps q is h = node_at-without t ps q is ∙ directory_passes ps q (node_at t q) h

passed : (p : List ℕ × Node → Bool) (q : List ℕ) (o : Option Node) (node : Node) → passing p q o ≡ Some node → o ≡ Some node
passed p q None node h = h
passed p q (Some here) node h = elim (p (q, here)) as (λ b. cond b (Some here) None ≡ Some node → Some here ≡ Some node) [
  | true ↦ λ k. k
  | false ↦ λ k. absurd cc
] h

-- what stands there stood there
pub stood : (t : Tree) (ps : List (List ℕ)) (q : List ℕ) (node : Node) → IsTree t → node_at (without t ps) q ≡ Some node → node_at t q ≡ Some node
stood t ps q node is h = passed (stays ps) q (node_at t q) node (sym (node_at-without t ps q is) ∙ h)

some_stood : (p : List ℕ × Node → Bool) (q : List ℕ) (o : Option Node) → IsSome (passing p q o) → IsSome o
some_stood p q None h = h
some_stood p q (Some here) h = refl

none_there : (b : Bool) → ◌≡◌ {A = Option (List ℕ)} None (cond b None None)
none_there true = refl
none_there false = refl

file_passes : (ps : List (List ℕ)) (q : List ℕ) (o : Option Node) → option_and_then bytes_of (passing (stays ps) q o) ≡ cond (is_among ps q) None (option_and_then bytes_of o)
file_passes ps q None = none_there (is_among ps q)
file_passes ps q (Some Directory) = none_there (is_among ps q)
file_passes ps q (Some (File bytes)) = elim (is_among ps q) as (λ b. option_and_then bytes_of (cond (not b) (Some (File bytes)) None) ≡ cond b None (Some bytes)) [ true ↦ refl | false ↦ refl ]

pub file_at-without : (t : Tree) (ps : List (List ℕ)) (q : List ℕ) → IsTree t → file_at (without t ps) q ≡ cond (is_among ps q) None (file_at t q)
file_at-without t ps q is = ap (option_and_then bytes_of) (node_at-without t ps q is) ∙ file_passes ps q (node_at t q)

pub IsTree-without : (t : Tree) (ps : List (List ℕ)) → IsTree t → IsTree (without t ps)
IsTree-without t ps is = record {
  sorted = sorted-filter (stays ps) t is.sorted;
  paths = keys-filter IsPath (stays ps) t is.paths;
  root = directory_stays t ps [] is is.root;
  parents = λ path dir some e.
      let before = some_stood (stays ps) path (node_at t path) (subst IsSome (node_at-without t ps path is) some) in
      directory_stays t ps dir is (is.parents path dir before e);
}

-- ---- lists that have the same paths

pub without-same : (ps qs : List (List ℕ)) (t : Tree) → ((p : List ℕ) → is_among ps p ≡ is_among qs p) → without t ps ≡ without t qs
without-same ps qs [] same = refl
without-same ps qs (e ∷ es) same = λ i. cond (not (is_some (bytes_of e.1) && same e.0 i)) (e ∷ without-same ps qs es same i) (without-same ps qs es same i)

-- with no paths the tree is the same
pub without-none : (t : Tree) → without t [] ≡ t
without-none [] = refl
without-none ((p, Directory) ∷ es) = ap (λ t. (p, Directory) ∷ t) (without-none es)
without-none ((p, File bytes) ∷ es) = ap (λ t. (p, File bytes) ∷ t) (without-none es)
