-- Entries of a tree that are made one by one.
use Rattle.std.proofs.Common.{◌≡◌, ◌++◌, ◌∙◌, ℕ, Bool, true, false, inl, inr, List, [], ◌∷◌, Some, not, ap, append-nil, filter, length, refl, slice_get, subst, sym, take}
use Rattle.std.proofs.lemmas.Bool.{cases_Bool}
use Rattle.std.specs.declared.io.ErrorKind.{ErrorKind}
use Rattle.redo_tree.specs.Tree.{Node, Tree}
use Rattle.redo_pack.specs.Unpacks.{Halts, IsUnmade, below, is_book, is_top, others}
use Rattle.redo_pack.specs.declared.unpacking.UnpackFault.{UnpackFault}
use Rattle.redo_pack.specs.declared.unpacking.UnpackFault.TheVariants.{Device, Memory}

take-front : (xs ys : Tree) → take (length xs) (xs ++ ys) ≡ xs
take-front [] ys = refl
take-front (x ∷ xs) ys = ap (λ l. x ∷ l) (take-front xs ys)

get-front : (xs : Tree) (e : List ℕ × Node) (ys : Tree) → slice_get (xs ++ e ∷ ys) (length xs) ≡ Some e
get-front [] e ys = refl
get-front (x ∷ xs) e ys = get-front xs e ys

filter-append : (P : List ℕ × Node → Bool) (xs ys : Tree) → filter P (xs ++ ys) ≡ filter P xs ++ filter P ys
filter-append P [] ys = refl
filter-append P (x ∷ xs) ys = elim (cases_Bool (P x)) [
  | inl here ↦ rw here (ap (λ l. x ∷ l) (filter-append P xs ys))
  | inr other ↦ rw other (filter-append P xs ys)
]

others-append : (xs ys : Tree) → others (xs ++ ys) ≡ others xs ++ others ys
others-append xs ys =
    ap (filter (λ e. not (is_book e))) (filter-append (λ e. not (is_top e.0)) xs ys) ∙
    filter-append (λ e. not (is_book e)) (below xs) (below ys)

-- the top directory stands already
pub others-top : (done : Tree) (e : List ℕ × Node) → is_top e.0 ≡ true → others (done ++ e ∷ []) ≡ others done
others-top done e top = others-append done (e ∷ []) ∙ ap (λ l. others done ++ l) (rw top refl) ∙ append-nil (others done)

-- the book is left for later
pub others-book : (done : Tree) (e : List ℕ × Node) → is_top e.0 ≡ false → is_book e ≡ true → others (done ++ e ∷ []) ≡ others done
others-book done e low book =
    others-append done (e ∷ []) ∙ ap (λ l. others done ++ l) (rw low (rw book refl)) ∙ append-nil (others done)

one_other : (rest : Tree) (e : List ℕ × Node) → is_top e.0 ≡ false → is_book e ≡ false → others (e ∷ rest) ≡ e ∷ others rest
one_other rest e low other = rw low (rw other refl)

split-others : (done rest : Tree) (e : List ℕ × Node) → is_top e.0 ≡ false → is_book e ≡ false → others (done ++ e ∷ rest) ≡ others done ++ e ∷ others rest
split-others done rest e low other = others-append done (e ∷ rest) ∙ ap (λ l. others done ++ l) (one_other rest e low other)

-- one more is made
pub others-more : (done : Tree) (e : List ℕ × Node) → is_top e.0 ≡ false → is_book e ≡ false → others (done ++ e ∷ []) ≡ others done ++ e ∷ []
others-more done e low other = split-others done [] e low other

-- the next one is refused
pub halts_at : (refused : List ℕ → ErrorKind → Type 0) (done rest : Tree) (e : List ℕ × Node) (kind : ErrorKind) (before after : Tree) (fault : UnpackFault) →
    is_top e.0 ≡ false → is_book e ≡ false → after ≡ before ++ others done → IsUnmade fault e.0 kind → refused e.0 kind →
    Halts refused (others (done ++ e ∷ rest)) before after fault
halts_at refused done rest e kind before after (Device place said) low other made is why =
    let whole = split-others done rest e low other in (
      length (others done),
      e.1,
      made ∙ ap (λ l. before ++ l) (sym (take-front (others done) (e ∷ others rest)) ∙ ap (take (length (others done))) (sym whole)),
      ap (λ l. slice_get l (length (others done))) whole ∙ get-front (others done) e (others rest) ∙ ap (λ p. Some (p, e.1)) (sym is.0),
      subst (λ k. refused place k) (sym is.1) (subst (λ p. refused p kind) (sym is.0) why),
    )
halts_at refused done rest e kind before after Memory low other made is why =
    let whole = split-others done rest e low other in (
      length (others done),
      made ∙ ap (λ l. before ++ l) (sym (take-front (others done) (e ∷ others rest)) ∙ ap (take (length (others done))) (sym whole)),
    )
