-- The set of the targets of a list.
use Rattle.std.proofs.Common.{◌≡◌, ◌∙◌, ◌+◌, ◌<◌, ◌||◌, ℕ, List, [], ◌∷◌, ◌++◌, sym, ap, length, map, take, slice_index_or}
use Rattle.std.proofs.lemmas.List.{map-append, take_more}
use Rattle.std.specs.Str.{bytes_eq}
use Rattle.redo_list.specs.declared.listed.Listed.{Listed}
use Rattle.redo_names.specs.Paths.{is_among, with_path}
use Rattle.redo_names.proofs.PathLemmas.{is_among-last, is_among-with}
use Rattle.redo_dot.specs.Lists.{is_listed}

abbrev targets-of : List Listed → List (List ℕ)
targets-of ts = map (λ it. it.target) ts

-- one listed target more
pub listed-more : (ts : List Listed) (qs : List (List ℕ)) (i : ℕ) (x : Listed) (p : List ℕ) → i < length ts →
    x ≡ slice_index_or ts i x → is_among qs p ≡ is_listed (take i ts) p →
    is_among (with_path qs x.target) p ≡ is_listed (take (i + 1) ts) p
listed-more ts qs i x p within is same =
    is_among-with qs x.target p ∙ ap (λ b. b || bytes_eq x.target p) same
    ∙ sym (is_among-last (targets-of (take i ts)) x.target p)
    ∙ ap (λ y. is_among (targets-of (take i ts) ++ y.target ∷ []) p) is
    ∙ ap (λ qs. is_among qs p) (sym (map-append (λ it. it.target) (take i ts) (slice_index_or ts i x ∷ [])))
    ∙ ap (λ l. is_among (targets-of l) p) (sym (take_more ts i x within))
