-- The ordered map of an index, after a number was put in: what it has for other texts stays.
use Rattle.std.proofs.Common.{◌≡◌, ◌⊎◌, ℕ, Bool, true, false, cond, List, [], ◌∷◌, Option, Some, refl, sym, ◌∙◌, inl, inr}
use Rattle.std.proofs.lemmas.Map.Lookups.{exact_bytes}
use Rattle.std.specs.BTreeMap.{insert_entry, is_at}
use Rattle.std.specs.Cmp.Lexicographic.{slice_cmp}
use Rattle.std.specs.Map.{lookup}
use Rattle.std.specs.Ordering.{nat_cmp, match_ordering, is_eq}
use Rattle.std.specs.Prelude.{Vec}
use Rattle.std.specs.declared.alloc.Global.{Global}
use Rattle.std.specs.declared.cmp.Ordering.{Ordering}
use Rattle.std.specs.declared.cmp.Ordering.TheVariants.{Less, Equal, Greater}

abbrev Key : Type 0
Key = Vec ℕ Global

-- how keys compare
abbrev by_text : Key → Key → Ordering
by_text k j = slice_cmp nat_cmp k.items j.items

-- the test by which a text is looked up
abbrev pub at_text : List ℕ → Key → Bool
at_text text = is_at (λ (key : Key). slice_cmp nat_cmp text key.items)

ties : (o : Ordering) → is_eq o ≡ true → o ≡ Equal
ties Less h = cc
ties Equal h = refl
ties Greater h = cc

same : (text : List ℕ) (key : Key) → at_text text key ≡ true → text ≡ key.items
same text key h = exact_bytes text key.items (ties (slice_cmp nat_cmp text key.items) h)

module _ (text : List ℕ) (k : Key) (n m : ℕ) where
  before : (b : Bool) (r : Option ℕ) → at_text text k ≡ b → r ≡ Some m → (text ≡ k.items) ⊎ (cond b (Some n) r ≡ Some m)
  before true r e h = inl (same text k e)
  before false r e h = inr h

  instead : (b : Bool) (j : Key) (v : ℕ) (r : Option ℕ) → at_text text j ≡ b → k.items ≡ j.items → cond b (Some v) r ≡ Some m → (text ≡ k.items) ⊎ (cond b (Some n) r ≡ Some m)
  instead true j v r e is h = inl (same text j e ∙ sym is)
  instead false j v r e is h = inr h

  behind : (b : Bool) (v : ℕ) (r s : Option ℕ) → (r ≡ Some m → (text ≡ k.items) ⊎ (s ≡ Some m)) → cond b (Some v) r ≡ Some m → (text ≡ k.items) ⊎ (cond b (Some v) s ≡ Some m)
  behind true v r s f h = inr h
  behind false v r s f h = f h

  pub others-stay : (es : List (Key × ℕ)) → lookup (at_text text) es ≡ Some m → (text ≡ k.items) ⊎ (lookup (at_text text) (insert_entry by_text es k n) ≡ Some m)
  others-stay [] h = cc
  others-stay (e ∷ es) h =
      elim (by_text k e.0) as (λ o. by_text k e.0 ≡ o → (text ≡ k.items) ⊎ (lookup (at_text text) (match_ordering {X = List (Key × ℕ)} o ((k, n) ∷ e ∷ es) ((e.0, n) ∷ es) (e ∷ insert_entry by_text es k n)) ≡ Some m)) [
        | Less ↦ λ p. before (at_text text k) (lookup (at_text text) (e ∷ es)) refl h
        | Equal ↦ λ p. instead (at_text text e.0) e.0 e.1 (lookup (at_text text) es) refl (exact_bytes k.items e.0.items p) h
        | Greater ↦ λ p. behind (at_text text e.0) e.1 (lookup (at_text text) es) (lookup (at_text text) (insert_entry by_text es k n)) (others-stay es) h
      ] refl
