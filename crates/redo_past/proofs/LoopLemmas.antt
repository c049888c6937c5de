-- What one more item of a list adds.
use Rattle.std.proofs.Common.{◌≡◌, ◌∙◌, ◌+◌, ◌<◌, ℕ, Bool, cond, List, [], ◌∷◌, ◌++◌, Option}
use Rattle.std.proofs.Common.{add-one, ap, drop, filter, length, sym, take, slice_index_or}
use Rattle.std.proofs.Math.Seq.{drop-cons}
use Rattle.std.proofs.lemmas.List.{take_more}
use Rattle.std.proofs.lemmas.List.Elements.{filter-append, filter_map-append}
use Rattle.std.specs.List.{AllByRecursion, cons_option}
use Rattle.std.specs.Prelude.{Err, IfOk, Ok, Result, filter_map}
use Rattle.redo_path.proofs.PartLemmas.{AllByRecursion-append}

module _ {X Y : Type 0} where
  pub made-more : (f : X → Option Y) (xs : List X) (i : ℕ) (x : X) → i < length xs → x ≡ slice_index_or xs i x → filter_map f (take (i + 1) xs) ≡ filter_map f (take i xs) ++ cons_option (f x) []
  made-more f xs i x below is =
      ap (filter_map f) (take_more xs i x below) ∙ filter_map-append f (take i xs) (slice_index_or xs i x ∷ [])
      ∙ ap (λ y. filter_map f (take i xs) ++ cons_option (f y) []) (sym is)

  pub left-more : (f : X → Option Y) (xs : List X) (i : ℕ) (x : X) → i < length xs → x ≡ slice_index_or xs i x → filter_map f (drop i xs) ≡ cons_option (f x) (filter_map f (drop (i + 1) xs))
  left-more f xs i x below is =
      ap (filter_map f) ((rw add-one (drop-cons xs i x below)) ∙ ap (λ y. y ∷ drop (i + 1) xs) (sym is))

pub kept-more : {X : Type 0} (p : X → Bool) (xs : List X) (i : ℕ) (x : X) → i < length xs → x ≡ slice_index_or xs i x → filter p (take (i + 1) xs) ≡ filter p (take i xs) ++ cond (p x) (x ∷ []) []
kept-more p xs i x below is =
    ap (filter p) (take_more xs i x below) ∙ filter-append p (take i xs) (slice_index_or xs i x ∷ [])
    ∙ ap (λ y. filter p (take i xs) ++ cond (p y) (y ∷ []) []) (sym is)

pub all-more : {X : Type 0} (P : X → Type 0) (xs : List X) (x : X) → AllByRecursion P xs → P x → AllByRecursion P (xs ++ x ∷ [])
all-more P xs x h k = AllByRecursion-append P xs (x ∷ []) h (k, tt)

-- what follows of an answer, if there is one
pub if-so : {X E : Type 0} (P Q : X → Type 0) (r : Result X E) → ((x : X) → P x → Q x) → IfOk r P → IfOk r Q
if-so P Q (Ok x) f p = f x p
if-so P Q (Err e) f p = tt

pub if-both : {X E : Type 0} (P Q R : X → Type 0) (r : Result X E) → ((x : X) → P x → Q x → R x) → IfOk r P → IfOk r Q → IfOk r R
if-both P Q R (Ok x) f p q = f x p q
if-both P Q R (Err e) f p q = tt
