-- Whether an item passes a test, with one item more.
use Rattle.std.proofs.Common.{◌≡◌, ◌∙◌, ◌+◌, ◌<◌, ◌||◌, ℕ, Bool, List, [], ◌∷◌, sym, ap}
use Rattle.std.proofs.Common.{length, map, take, slice_index_or}
use Rattle.std.proofs.lemmas.List.{map-append, take_more}
use Rattle.std.proofs.lemmas.List.Folds.{list_any-append}
use Rattle.std.specs.List.{list_any}
use Rattle.redo_names.proofs.PathLemmas.{or-false}

module _ {X : Type 0} where
  -- one more item that may pass a test
  pub any-more : (p : X → Bool) (xs : List X) (i : ℕ) (x : X) → i < length xs → x ≡ slice_index_or xs i x → list_any p (take (i + 1) xs) ≡ (list_any p (take i xs) || p x)
  any-more p xs i x below is =
      ap (list_any p) (take_more xs i x below) ∙ list_any-append p (take i xs) (slice_index_or xs i x ∷ [])
      ∙ ap (λ b. list_any p (take i xs) || b) (or-false (p (slice_index_or xs i x)))
      ∙ ap (λ y. list_any p (take i xs) || p y) (sym is)

module _ {X Y : Type 0} where
  pub any-more-map : (p : Y → Bool) (g : X → Y) (xs : List X) (i : ℕ) (x : X) → i < length xs → x ≡ slice_index_or xs i x → list_any p (map g (take (i + 1) xs)) ≡ (list_any p (map g (take i xs)) || p (g x))
  any-more-map p g xs i x below is =
      ap (λ ys. list_any p (map g ys)) (take_more xs i x below)
      ∙ ap (list_any p) (map-append g (take i xs) (slice_index_or xs i x ∷ []))
      ∙ list_any-append p (map g (take i xs)) (g (slice_index_or xs i x) ∷ [])
      ∙ ap (λ b. list_any p (map g (take i xs)) || b) (or-false (p (g (slice_index_or xs i x))))
      ∙ ap (λ y. list_any p (map g (take i xs)) || p (g y)) (sym is)
