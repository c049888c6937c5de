-- One more record of a book that is gone through.
use Rattle.std.proofs.Common.{◌≡◌, ◌∙◌, ◌+◌, ◌<◌, ℕ, List, [], ◌∷◌, ◌++◌, Option, ap, length, map, sym, take, slice_index_or}
use Rattle.std.proofs.lemmas.List.{map-append, take_more}
use Rattle.std.proofs.lemmas.List.Elements.{filter_map-append}
use Rattle.std.specs.List.{cons_option}
use Rattle.std.specs.Prelude.{filter_map}

module _ {X Y Z : Type 0} where
  pub found-more : (f : Y → Option Z) (g : X → Y) (xs : List X) (i : ℕ) (x : X) → i < length xs → x ≡ slice_index_or xs i x → filter_map f (map g (take (i + 1) xs)) ≡ filter_map f (map g (take i xs)) ++ cons_option (f (g x)) []
  found-more f g xs i x below is =
      ap (λ ys. filter_map f (map g ys)) (take_more xs i x below)
      ∙ ap (filter_map f) (map-append g (take i xs) (slice_index_or xs i x ∷ []))
      ∙ filter_map-append f (map g (take i xs)) (g (slice_index_or xs i x) ∷ [])
      ∙ ap (λ y. filter_map f (map g (take i xs)) ++ cons_option (f (g y)) []) (sym is)
