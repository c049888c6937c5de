-- What is written line by line, as far as it went, and the sizes of lines.
use Rattle.std.proofs.Common.{◌≡◌, ◌<◌, ◌+◌, ◌∙◌, ℕ, zero, suc, drop, slice_index_or, arith, List, [], ◌∷◌, ◌++◌}
use Rattle.std.proofs.Common.{◌≤◌, get_or, take, length, map, Option, refl, sym, ap, subst, append_assoc}
use Rattle.std.proofs.lemmas.Grind.{flat_map-append}
use Rattle.std.proofs.lemmas.List.{length-append}
use Rattle.std.proofs.lemmas.List.Folds.{flat_map-map, length-flat_map-take}
use Rattle.std.proofs.lemmas.Result.{err_from_is_err_and}
use Rattle.std.specs.Prelude.{Result, Err, codes, flat_map}
use Rattle.std.specs.Result.{IsErrAnd}
use Rattle.std.specs.Io.KnownBytes.{Appends}
use Rattle.redo_bundle.specs.Bundle.{Writes}
use Rattle.redo_bundle.proofs.PieceLemmas.{Writes-then, Writes-cut}
use Rattle.redo_book.specs.declared.book.BookEntry.{BookEntry}
use Rattle.redo_book.specs.Book.{entry_line, text_of}

-- the text of what is left is that of the next, and of those behind it
dropped : {A : Type 0} (f : A → List ℕ) (xs : List A) (i : ℕ) (x default : A) → i < length xs → x ≡ slice_index_or xs i default →
    flat_map f (drop i xs) ≡ f x ++ flat_map f (drop (i + 1) xs)
dropped f [] i x default below is = absurd (omega (arith, below))
dropped f (y ∷ xs) zero x default below is = ap (λ z. f z ++ flat_map f xs) (sym is)
dropped f (y ∷ xs) (suc i) x default below is = let e : suc i + 1 ≡ suc (i + 1) = omega arith in rw e (dropped f xs i x default (omega (arith, below)) is)

-- with the next written, those behind it are left
pub split-next : {A : Type 0} (f : A → List ℕ) (xs : List A) (i : ℕ) (x default : A) (done text : List ℕ) → i < length xs → x ≡ slice_index_or xs i default →
    text ≡ done ++ flat_map f (drop i xs) → text ≡ (done ++ f x) ++ flat_map f (drop (i + 1) xs)
split-next f xs i x default done text below is split =
    split ∙ ap (λ l. done ++ l) (dropped f xs i x default below is) ∙ sym (append_assoc done (f x) (flat_map f (drop (i + 1) xs)))

-- the writer failed in a piece
pub writes-failed : {E F : Type 0} (Q : F → Type 0) (f : E) (r : Result (Unit {0}) F) → IsErrAnd r Q → (old mid new : Option (List ℕ)) (done piece rest text : List ℕ) →
    text ≡ (done ++ piece) ++ rest → Appends old mid done → Writes {E = E} mid new (Err f) piece → Writes {E = F} old new r text
writes-failed Q f r is old mid new done piece rest text split before failed =
    let p = err_from_is_err_and r is in
    subst (λ s. Writes old new s text) (sym p.1) (Writes-cut f p.0 old new (done ++ piece) rest text split (Writes-then (Err f) old mid new done piece before failed))

-- what came of the last piece came of the text
pub writes-last : {E : Type 0} (r : Result (Unit {0}) E) (old mid new : Option (List ℕ)) (done last text : List ℕ) →
    text ≡ done ++ last → Appends old mid done → Writes mid new r last → Writes old new r text
writes-last r old mid new done last text split before went = subst (Writes old new r) (sym split) (Writes-then r old mid new done last before went)

-- an entry's line with its newline
abbrev pub entry_text : BookEntry → List ℕ
entry_text e = entry_line e ++ 10 ∷ []

-- the entries' lines, one by one
pub entries-text : (es : List BookEntry) → text_of (map entry_line es) ≡ flat_map entry_text es
entries-text es = flat_map-map (λ line. line ++ 10 ∷ []) entry_line es

-- the lines before an entry, and its own, are no more than all
pub sized-within : (line : List ℕ) (es : List BookEntry) (i : ℕ) (e : BookEntry) → i < length es → e ≡ get_or es i e → length (text_of (line ∷ map entry_line (take i es))) + length (entry_text e) ≤ length (text_of (line ∷ map entry_line es))
sized-within line es i e below is =
    let some = length-flat_map-take entry_text es i e below in
    let here : length (text_of (line ∷ map entry_line (take i es))) ≡ length (line ++ 10 ∷ []) + length (flat_map entry_text (take i es)) = length-append (line ++ 10 ∷ []) (text_of (map entry_line (take i es))) ∙ ap (λ t. length (line ++ 10 ∷ []) + length t) (entries-text (take i es)) in
    let all : length (text_of (line ∷ map entry_line es)) ≡ length (line ++ 10 ∷ []) + length (flat_map entry_text es) = length-append (line ++ 10 ∷ []) (text_of (map entry_line es)) ∙ ap (λ t. length (line ++ 10 ∷ []) + length t) (entries-text es) in
    let same : length (entry_text e) ≡ length (entry_text (get_or es i e)) = ap (λ x. length (entry_text x)) is in
    omega (arith, some, here, all, same)
