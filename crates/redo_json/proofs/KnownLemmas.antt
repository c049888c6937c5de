-- Values by paths, the first of a path: one entry after another.
use Rattle.std.proofs.Common.{◌≡◌, ◌∙◌, ◌+◌, ◌<◌, ℕ, Bool, true, false, List, [], ◌∷◌, ◌++◌, Option, Some, None, refl, sym, ap}
use Rattle.std.proofs.Common.{length, map, take, slice_index_or}
use Rattle.std.proofs.lemmas.List.{map-append, take_more}
use Rattle.std.specs.Map.{lookup}
use Rattle.std.specs.Option.{option_or}
use Rattle.std.specs.Prelude.{bytes_eq, cond, option_map}

-- a look-up with one entry more
looked-on : {V : Type 0} (q : List ℕ) (es : List (List ℕ × V)) (e : List ℕ × V) →
    lookup (bytes_eq q) (es ++ e ∷ []) ≡ option_or (lookup (bytes_eq q) es) (cond (bytes_eq q e.0) (Some e.1) None)
looked-on q [] e = refl
looked-on {V} q (x ∷ es) e =
    elim (bytes_eq q x.0) as (λ b. cond b (Some x.1) (lookup (bytes_eq q) (es ++ e ∷ [])) ≡
    option_or (cond b (Some x.1) (lookup (bytes_eq q) es)) (cond (bytes_eq q e.0) (Some e.1) None)) [
      | true ↦ refl
      | false ↦ looked-on q es e
    ]

map-or : {A B : Type 0} (f : A → B) (o r : Option A) → option_map f (option_or o r) ≡ option_or (option_map f o) (option_map f r)
map-or f None r = refl
map-or f (Some a) r = refl

map-cond : {A B : Type 0} (f : A → B) (b : Bool) (a : A) → option_map f (cond b (Some a) None) ≡ cond b (Some (f a)) None
map-cond f true a = refl
map-cond f false a = refl

-- one entry more, where what was found is seen as what is told
pub one-more : {X V W : Type 0} (entry : X → List ℕ × W) (view : V → W) (xs : List X) (i : ℕ) (x : X)
    (old new : List (List ℕ × V)) (path q : List ℕ) (value : V) →
    i < length xs → x ≡ slice_index_or xs i x → (path, view value) ≡ entry x →
    option_map view (lookup (bytes_eq q) old) ≡ lookup (bytes_eq q) (map entry (take i xs)) →
    lookup (bytes_eq q) new ≡ option_or (lookup (bytes_eq q) old) (cond (bytes_eq q path) (Some value) None) →
    option_map view (lookup (bytes_eq q) new) ≡ lookup (bytes_eq q) (map entry (take (i + 1) xs))
one-more {X} {V} {W} entry view xs i x old new path q value within is told are put =
    ap (option_map view) put ∙ map-or view (lookup (bytes_eq q) old) (cond (bytes_eq q path) (Some value) None)
    ∙ ap (λ o. option_or o (option_map view (cond (bytes_eq q path) (Some value) None))) are
    ∙ ap (option_or (lookup (bytes_eq q) (map entry (take i xs)))) (map-cond view (bytes_eq q path) value)
    ∙ sym (looked-on q (map entry (take i xs)) (path, view value))
    ∙ ap (λ e. lookup (bytes_eq q) (map entry (take i xs) ++ e ∷ [])) (told ∙ ap entry is)
    ∙ ap (lookup (bytes_eq q)) (sym (map-append entry (take i xs) (slice_index_or xs i x ∷ [])))
    ∙ ap (λ l. lookup (bytes_eq q) (map entry l)) (sym (take_more xs i x within))
