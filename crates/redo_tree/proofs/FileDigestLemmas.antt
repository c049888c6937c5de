-- The digests of a tree's files by the numbers of their entries.
use Rattle.std.proofs.Common.{◌≡◌, ◌⊎◌, ℕ, zero, suc, List, [], ◌∷◌, Option, Some, None, inl, inr, refl, sym, ap, subst, ◌∙◌}
use Rattle.std.proofs.Common.{length-set, slice_get, slice_set}
use Rattle.std.specs.Map.{lookup}
use Rattle.std.specs.Prelude.{bytes_eq, option_and_then, option_map}
use Rattle.sha2.specs.Sha256.{sha256}
use Rattle.redo_digest.specs.Digest.{IsDigest, IsState, State, state_of}
use Rattle.redo_tree.specs.declared.entries.Entry.{Entry}
use Rattle.redo_tree.specs.Tree.{bytes_of, file_at, node_of, tree_of}
use Rattle.redo_tree.specs.inside.Digests.{AreMade, FindsNodes}

-- states of files are digests, or none
pub state-is : ((content : List ℕ) → IsDigest (sha256 content)) → (file : Option (List ℕ)) → IsState (state_of file)
state-is law None = tt
state-is law (Some bytes) = law bytes

some-same : {X : Type 0} (x y : X) → Some x ≡ Some y → x ≡ y
some-same x y h = cc

set-cases : {X : Type 0} (xs : List X) (at i : ℕ) (new found : X) → slice_get (slice_set xs at new) i ≡ Some found → ((i ≡ at) × (new ≡ found)) ⊎ (slice_get xs i ≡ Some found)
set-cases [] at i new found h = cc
set-cases (x ∷ xs) zero zero new found h = inl (refl, some-same new found h)
set-cases (x ∷ xs) zero (suc i) new found h = inr h
set-cases (x ∷ xs) (suc at) zero new found h = inr h
set-cases (x ∷ xs) (suc at) (suc i) new found h = elim (set-cases xs at i new found h) [
  | inl here ↦ inl (ap suc here.0, here.1)
  | inr old ↦ inr old
]

module _ (es : List (List ℕ × Entry)) where
  -- the file at a path is that of the entry whose number is found
  pub found-file : (text : List ℕ) (n : ℕ) (e : List ℕ × Entry) → FindsNodes es → option_map (λ f. f.1) (slice_get es n) ≡ lookup (bytes_eq text) es → slice_get es n ≡ Some e → file_at (tree_of es) text ≡ bytes_of (node_of e.1)
  found-file text n e finds value there =
      ap (option_and_then bytes_of) (sym (finds text))
      ∙ ap (λ o. option_and_then bytes_of (option_map node_of o)) (sym value ∙ ap (option_map (λ f. f.1)) there)

  -- one more digest that was made
  pub one-more : (made : List State) (n : ℕ) (digest : List ℕ) (e : List ℕ × Entry) → AreMade es made → slice_get es n ≡ Some e → state_of (bytes_of (node_of e.1)) ≡ Some digest → AreMade es (slice_set made n (Some digest))
  one-more made n digest e h there is = record {
    finds = h.finds;
    room = length-set made n (Some digest) ∙ h.room;
    each = λ m d f set at. elim (set-cases made n m (Some digest) (Some d) set) [
      | inl here ↦
          let same : e ≡ f = some-same e f (sym there ∙ ap (slice_get es) (sym here.0) ∙ at) in
          subst (λ g. state_of (bytes_of (node_of g.1)) ≡ Some d) same (is ∙ here.1)
      | inr old ↦ h.each m d f old at
    ];
  }
