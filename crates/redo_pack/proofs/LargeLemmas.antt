-- Files that are too large for a bundle, found by their paths.
use Rattle.std.proofs.Common.{◌≡◌, ◌≤◌, ◌<◌, ◌^◌, ◌++◌, List, [], ◌∷◌, ℕ, true, false, map, refl, ap, sym, subst, ◌∙◌, Bor}
use Rattle.std.proofs.Common.{Option, Some, None, length, inl, inr, rules}
use Rattle.std.proofs.lemmas.Bool.{cases_Bool}
use Rattle.std.proofs.lemmas.Map.Text.{is_eq-slice_cmp}
use Rattle.std.proofs.lemmas.Slice.Eq.{bytes_eq-Decides}
use Rattle.std.specs.Prelude.{nat_lt}
use Rattle.std.specs.Cmp.Lexicographic.{slice_cmp}
use Rattle.std.specs.List.{AllByRecursion}
use Rattle.std.specs.Ordering.{is_eq, nat_cmp}
use Rattle.redo_tree.specs.declared.entries.Entry.{Entry}
use Rattle.redo_tree.specs.Tree.{Tree, file_at, node_of}
use Rattle.redo_bundle.specs.Bundle.{HasSmallFiles}
use Rattle.redo_pack.specs.Packs.{IsTooLarge}
use Rattle.redo_pack.specs.inside.Large.{is_large}

-- entries that are lent, as contracts see them
abbrev pub seen : List (Bor (List ℕ) × Bor Entry) → Tree
seen es = map (λ e. (e.0.now, node_of e.1.now)) es

-- one more of which it holds
pub all-last : {A : Type 0} (P : A → Type 0) (xs : List A) (x : A) → AllByRecursion P xs → P x → AllByRecursion P (xs ++ x ∷ [])
all-last P [] x h p = (p, tt)
all-last P (y ∷ ys) x h p = (h.0, all-last P ys x h.1 p)

more : (n m : ℕ) → nat_lt n m ≡ true → n < m
more n m h = search rules

no_more : (n m : ℕ) → nat_lt n m ≡ false → m ≤ n
no_more n m h = search rules

large_by : (tree : Tree) (path : List ℕ) (file : Option (List ℕ)) → file_at tree path ≡ file → is_large file ≡ true → IsTooLarge tree path
large_by tree path None e h = cc
large_by tree path (Some bytes) e h = (bytes, e, more _ _ h)

pub is_too_large : (tree : Tree) (path : List ℕ) → is_large (file_at tree path) ≡ true → IsTooLarge tree path
is_too_large tree path h = large_by tree path (file_at tree path) refl h

-- a file that is found stands at the path of one of the entries
found_small : (whole es : Tree) (path bytes : List ℕ) → AllByRecursion (λ e. is_large (file_at whole e.0) ≡ false) es → file_at es path ≡ Some bytes → is_large (file_at whole path) ≡ false
found_small whole [] path bytes all h = cc
found_small whole (e ∷ es) path bytes all h = elim (cases_Bool (is_eq (slice_cmp nat_cmp path e.0))) [
  | inl here ↦ subst (λ p. is_large (file_at whole p) ≡ false) (sym ((bytes_eq-Decides path e.0).0 (sym (is_eq-slice_cmp path e.0) ∙ here))) all.0
  | inr other ↦ found_small whole es path bytes all.1 (rw other at h)
]

small_by : (bytes : List ℕ) (file : Option (List ℕ)) → file ≡ Some bytes → is_large file ≡ false → length bytes ≤ 2 ^ 30
small_by bytes None e h = cc
small_by bytes (Some others) e h = let same : others ≡ bytes = cc in subst (λ b. length b ≤ 2 ^ 30) same (no_more (2 ^ 30) (length others) h)

pub none_large : (tree es : Tree) → tree ≡ es → AllByRecursion (λ e. is_large (file_at tree e.0) ≡ false) es → HasSmallFiles tree
none_large tree es same all path bytes h =
    small_by bytes (file_at tree path) h (found_small tree es path bytes all (sym (ap (λ t. file_at t path) same) ∙ h))
