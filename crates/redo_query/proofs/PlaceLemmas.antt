-- Items by their places.
use Rattle.std.proofs.Common.{◌≡◌, ◌<◌, ◌+◌, ◌∙◌, ◌++◌, ℕ, zero, suc, List, [], ◌∷◌, Some, ap, sym, length, map, take, slice_get, slice_index_or}
use Rattle.std.proofs.lemmas.List.{map-append, take_more}

module _ {X Y : Type 0} where
  pub get-map : (f : X → Y) (xs : List X) (n : ℕ) (x : X) → slice_get xs n ≡ Some x → slice_get (map f xs) n ≡ Some (f x)
  get-map f [] n x h = cc
  get-map f (y ∷ ys) zero x h = let same : y ≡ x = cc in ap (λ z. Some (f z)) same
  get-map f (y ∷ ys) (suc n) x h = get-map f ys n x h

  -- one more item
  pub map-more : (f : X → Y) (xs : List X) (i : ℕ) (x : X) → i < length xs → x ≡ slice_index_or xs i x → map f (take (i + 1) xs) ≡ map f (take i xs) ++ f x ∷ []
  map-more f xs i x below is =
      ap (map f) (take_more xs i x below) ∙ map-append f (take i xs) (slice_index_or xs i x ∷ [])
      ∙ ap (λ y. map f (take i xs) ++ f y ∷ []) (sym is)
