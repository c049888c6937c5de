-- Entries of a tree that are made in turn: those without the book, and then the book.
use Rattle.std.proofs.Common.{arith, ◌≡◌, ◌++◌, ◌∙◌, ◌+◌, ℕ, zero, suc, inr, List, [], ◌∷◌, Option, Some, ap, append-nil, append_assoc, length, refl, slice_get, subst, sym, take}
use Rattle.std.proofs.Math.Seq.{take-append-add}
use Rattle.std.specs.Prelude.{IfErr, Result, Ok, Err}
use Rattle.std.specs.declared.io.ErrorKind.{ErrorKind}
use Rattle.redo_tree.specs.Tree.{File, Node, Tree, file_at}
use Rattle.redo_which.specs.Candidates.{book_path}
use Rattle.redo_pack.specs.Unpacks.{Halts, HasTexts, IsUnmade, Stops, book_entry, others}
use Rattle.redo_pack.specs.declared.unpacking.UnpackFault.{UnpackFault}
use Rattle.redo_pack.specs.declared.unpacking.UnpackFault.TheVariants.{Device, Memory}

get-left : (xs ys : Tree) (k : ℕ) (e : List ℕ × Node) → slice_get xs k ≡ Some e → slice_get (xs ++ ys) k ≡ Some e
get-left [] ys k e h = cc
get-left (x ∷ xs) ys zero e h = h
get-left (x ∷ xs) ys (suc k) e h = get-left xs ys k e h

take-left : (xs ys : Tree) (k : ℕ) (e : List ℕ × Node) → slice_get xs k ≡ Some e → take k (xs ++ ys) ≡ take k xs
take-left [] ys k e h = cc
take-left (x ∷ xs) ys zero e h = refl
take-left (x ∷ xs) ys (suc k) e h = ap (λ l. x ∷ l) (take-left xs ys k e h)

get-right : (xs ys : Tree) (k n : ℕ) → n ≡ length xs + k → slice_get (xs ++ ys) n ≡ slice_get ys k
get-right [] ys k n s = let same : n ≡ k = omega (arith, s) in ap (slice_get ys) same
get-right (x ∷ xs) ys k zero s = absurd (omega (arith, s))
get-right (x ∷ xs) ys k (suc n) s = get-right xs ys k n (omega (arith, s))

-- the first of a list are the first of a longer one
cut-left : (xs ys : Tree) (k : ℕ) → (n : ℕ) × (take n (xs ++ ys) ≡ take k xs)
cut-left [] ys zero = (0, refl)
cut-left [] ys (suc k) = (0, refl)
cut-left (x ∷ xs) ys zero = (0, refl)
cut-left (x ∷ xs) ys (suc k) = let cut = cut-left xs ys k in (suc cut.0, ap (λ l. x ∷ l) cut.1)

-- it halts at one of the first entries
pub halts-first : (refused : List ℕ → ErrorKind → Type 0) (xs ys before after : Tree) (fault : UnpackFault) → Halts refused xs before after fault → Halts refused (xs ++ ys) before after fault
halts-first refused xs ys before after (Device path kind) (k, node, made, next, why) =
    (k, node, made ∙ ap (λ l. before ++ l) (sym (take-left xs ys k (path, node) next)), get-left xs ys k (path, node) next, why)
halts-first refused xs ys before after Memory (k, made) =
    let cut = cut-left xs ys k in (cut.0, made ∙ ap (λ l. before ++ l) (sym cut.1))

behind : (xs ys before middle after : Tree) (k : ℕ) → middle ≡ before ++ xs → after ≡ middle ++ take k ys → after ≡ before ++ take (length xs + k) (xs ++ ys)
behind xs ys before middle after k first made =
    made ∙ ap (λ l. l ++ take k ys) first ∙ append_assoc before xs (take k ys) ∙ ap (λ l. before ++ l) (sym (take-append-add xs ys k))

-- it halts at one behind them
pub halts-second : (refused : List ℕ → ErrorKind → Type 0) (xs ys before middle after : Tree) (fault : UnpackFault) → middle ≡ before ++ xs → Halts refused ys middle after fault → Halts refused (xs ++ ys) before after fault
halts-second refused xs ys before middle after (Device path kind) first (k, node, made, next, why) =
    (length xs + k, node, behind xs ys before middle after k first made, get-right xs ys k (length xs + k) refl ∙ next, why)
halts-second refused xs ys before middle after Memory first (k, made) =
    (length xs + k, behind xs ys before middle after k first made)

-- nothing was made, for want of memory
pub halts-at-once : (refused : List ℕ → ErrorKind → Type 0) (entries before after : Tree) → after ≡ before → Halts refused entries before after Memory
halts-at-once refused entries before after same = (0, same ∙ sym (append-nil before))

-- the book is refused
pub book-halts : (refused : List ℕ → ErrorKind → Type 0) (book : Option (List ℕ)) (bytes path : List ℕ) (kind : ErrorKind) (before after : Tree) (fault : UnpackFault) →
    book ≡ Some bytes → path ≡ book_path → after ≡ before → IsUnmade fault path kind → refused path kind → Halts refused (book_entry book) before after fault
book-halts refused book bytes path kind before after (Device place said) is at same unmade why =
    subst (λ b. Halts refused (book_entry b) before after (Device place said)) (sym is) (
      0,
      File bytes,
      same ∙ sym (append-nil before),
      ap (λ p. Some (p, File bytes)) (sym at ∙ sym unmade.0),
      subst (λ k. refused place k) (sym unmade.1) (subst (λ p. refused p kind) (sym unmade.0) why),
    )
book-halts refused book bytes path kind before after Memory is at same unmade why = halts-at-once refused (book_entry book) before after same

-- an entry of a tree is refused that isn't the book
pub stops-first : (refused : List ℕ → ErrorKind → Type 0) (tree before after : Tree) (fault : UnpackFault) → HasTexts tree → Halts refused (others tree) before after fault → Stops refused tree before after fault
stops-first refused tree before after fault texts halts =
    inr (texts, halts-first refused (others tree) (book_entry (file_at tree book_path)) before after fault halts)

-- all others were made, and then the book was or wasn't
pub stops-last : (refused : List ℕ → ErrorKind → Type 0) (tree before middle after : Tree) (result : Result (Unit {0}) UnpackFault) → HasTexts tree → middle ≡ before ++ others tree →
    IfErr result (Halts refused (book_entry (file_at tree book_path)) middle after) → IfErr result (Stops refused tree before after)
stops-last refused tree before middle after (Ok x) texts made h = tt
stops-last refused tree before middle after (Err fault) texts made halts =
    inr (texts, halts-second refused (others tree) (book_entry (file_at tree book_path)) before middle after fault made halts)
