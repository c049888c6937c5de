-- Paths that were asked for.
use Rattle.std.proofs.Common.{◌≡◌, ◌∙◌, ◌+◌, ◌<◌, ◌||◌, ℕ, Bool, List, [], ◌∷◌, ◌++◌, Option, refl, sym, ap}
use Rattle.std.proofs.Common.{length, take, slice_index_or}
use Rattle.std.proofs.lemmas.List.{take_more}
use Rattle.std.proofs.lemmas.List.Elements.{filter_map-append}
use Rattle.std.proofs.lemmas.List.Folds.{list_any-append}
use Rattle.std.specs.List.{list_any}
use Rattle.std.specs.Str.{bytes_eq}
use Rattle.redo_names.specs.Paths.{is_among}
use Rattle.redo_names.proofs.PathLemmas.{is_among-append, or-false}
use Rattle.redo_record.specs.Entries.{change_of, creates, entries_of}
use Rattle.redo_record.specs.Progress.{changed, changes}
use Rattle.redo_record.specs.declared.deps.Dep.{Dep}
use Rattle.redo_record.specs.declared.deps.DepKind.{DepKind}
use Rattle.redo_record.specs.declared.deps.DepKind.TheVariants.{Change, Create, Always}
use Rattle.redo_notes.specs.inside.Changes.{is_change_of}

-- one row more that may pass a test
module _ {X : Type 0} where
  pub any-more : (p : X → Bool) (xs : List X) (i : ℕ) (x : X) → i < length xs → x ≡ slice_index_or xs i x → list_any p (take (i + 1) xs) ≡ (list_any p (take i xs) || p x)
  any-more p xs i x below is =
      ap (list_any p) (take_more xs i x below) ∙ list_any-append p (take i xs) (slice_index_or xs i x ∷ [])
      ∙ ap (λ b. list_any p (take i xs) || b) (or-false (p (slice_index_or xs i x)))
      ∙ ap (λ y. list_any p (take i xs) || p y) (sym is)

changes-append : (a b : List Dep) → changes (a ++ b) ≡ changes a ++ changes b
changes-append a b = filter_map-append (λ d. changed d.kind d.path) a b

entry-asks : (kind : DepKind) (x p : List ℕ) → is_among (changes (record { kind = kind; path = x } ∷ [])) p ≡ is_change_of p (record { kind = kind; path = x })
entry-asks Change x p = or-false (bytes_eq x p)
entry-asks Create x p = refl
entry-asks Always x p = refl

-- one entry more
pub change-more : (xs : List Dep) (i : ℕ) (x : Dep) (p : List ℕ) → i < length xs → x ≡ slice_index_or xs i x → is_among (changes (take (i + 1) xs)) p ≡ (is_among (changes (take i xs)) p || is_change_of p x)
change-more xs i x p below is =
    ap (λ ys. is_among (changes ys) p) (take_more xs i x below)
    ∙ ap (λ ys. is_among ys p) (changes-append (take i xs) (slice_index_or xs i x ∷ []))
    ∙ is_among-append (changes (take i xs)) (changes (slice_index_or xs i x ∷ [])) p
    ∙ ap (λ y. is_among (changes (take i xs)) p || is_among (changes (y ∷ [])) p) (sym is)
    ∙ ap (λ b. is_among (changes (take i xs)) p || b) (entry-asks x.kind x.path p)

none-created : (missing : List (List ℕ)) → changes (creates missing) ≡ []
none-created [] = refl
none-created (m ∷ ms) = none-created ms

-- a record asks for its .do file and for what its script declared
pub record-asks : (missing : List (List ℕ)) (file : Option (List ℕ)) (own : List Dep) (p : List ℕ) → is_among (changes (entries_of missing file own)) p ≡ (is_among (changes (change_of file)) p || is_among (changes own) p)
record-asks missing file own p =
    ap (λ ys. is_among ys p) (changes-append (creates missing ++ change_of file) own)
    ∙ is_among-append (changes (creates missing ++ change_of file)) (changes own) p
    ∙ ap (λ ys. is_among ys p || is_among (changes own) p) (changes-append (creates missing) (change_of file) ∙ ap (λ ys. ys ++ changes (change_of file)) (none-created missing))
