-- Lines one behind another.
use Rattle.std.proofs.Common.{◌≡◌, ◌∙◌, ◌+◌, ◌<◌, ◌⊎◌, ℕ, List, [], ◌∷◌, ◌++◌, ap, append_assoc, inl, inr, length, map, refl, slice_index_or, sym, take}
use Rattle.std.proofs.lemmas.List.{map-append, take_more}
use Rattle.std.proofs.lemmas.List.Concat.{flat_map-append}
use Rattle.std.proofs.Common.{append-nil}
use Rattle.std.specs.Prelude.{flat_map}
use Rattle.redo_clean.specs.Planned.{File}
use Rattle.redo_clean.specs.Texts.{fate_lines}
use Rattle.redo_clean.specs.declared.fate.Fate.{Fate}

-- where no file or no fate is left, there is no line
pub none-left : (fs : List File) (xs : List Fate) → (fs ≡ []) ⊎ (xs ≡ []) → fate_lines (map (λ f. f.0) fs) xs ≡ []
none-left [] xs h = refl
none-left (p ∷ ps) [] h = refl
none-left (p ∷ ps) (x ∷ xs) (inl h) = cc
none-left (p ∷ ps) (x ∷ xs) (inr h) = cc

-- a word, a path and what is said of it, as one line
pub as-line : (text word path said : List ℕ) → text ++ word ++ path ++ said ≡ text ++ (word ++ path ++ said)
as-line text word path said =
    append_assoc (text ++ word) path said ∙ append_assoc text word (path ++ said) ∙ ap (λ l. text ++ l) (sym (append_assoc word path said))

module _ {X Y : Type 0} where
  -- the line of one more item
  pub line-more : (line : Y → List ℕ) (g : X → Y) (xs : List X) (i : ℕ) (x : X) → i < length xs → x ≡ slice_index_or xs i x → flat_map line (map g (take (i + 1) xs)) ≡ flat_map line (map g (take i xs)) ++ line (g x)
  line-more line g xs i x below is =
      ap (λ ys. flat_map line (map g ys)) (take_more xs i x below)
      ∙ ap (flat_map line) (map-append g (take i xs) (slice_index_or xs i x ∷ []))
      ∙ flat_map-append line (map g (take i xs)) (g (slice_index_or xs i x) ∷ [])
      ∙ ap (λ l. flat_map line (map g (take i xs)) ++ l) (append-nil (line (g (slice_index_or xs i x))))
      ∙ ap (λ y. flat_map line (map g (take i xs)) ++ line (g y)) (sym is)
