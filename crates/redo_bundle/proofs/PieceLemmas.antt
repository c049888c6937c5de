-- What is written piece by piece.
use Rattle.std.proofs.Common.{◌≡◌, ◌<◌, ◌+◌, ℕ, List, [], ◌∷◌, ◌++◌, length, take, drop, sym, ap, ◌∙◌, Option}
use Rattle.std.proofs.Common.{append_assoc, append-nil, take-append-drop, slice_index_or, suc, zero, refl, arith}
use Rattle.std.specs.Prelude.{Result, Ok, Err, codes, decimal, flat_map}
use Rattle.std.specs.Io.KnownBytes.{Appends, Keeps}
use Rattle.std.proofs.KnownBytes.{Appends-trans, Appends-kept}
use Rattle.redo_tree.specs.Tree.{Node, Directory, File}
use Rattle.redo_bundle.specs.inside.Steps.{header_bytes}
use Rattle.redo_bundle.specs.Bundle.{Writes, spelling}

pub split-more : (all done rest next : List ℕ) (n : ℕ) → all ≡ done ++ rest → next ≡ drop n rest → all ≡ (done ++ take n rest) ++ next
split-more all done rest next n e h =
    e ∙ ap (λ l. done ++ l) (sym (take-append-drop n rest)) ∙ sym (append_assoc done (take n rest) (drop n rest)) ∙ ap (λ l. (done ++ take n rest) ++ l) (sym h)

-- a writer that failed holds a beginning
pub Writes-failed : {E : Type 0} (f : E) (a b c : Option (List ℕ)) (all done rest : List ℕ) → all ≡ done ++ rest → Appends a b done → Keeps b c → Writes {E = E} a c (Err f) all
Writes-failed f a b c all done rest e p q = (done, rest, e, Appends-kept a b c done p q)

-- a piece after what was written
pub Writes-then : {E : Type 0} (r : Result (Unit {0}) E) (a b c : Option (List ℕ)) (xs ys : List ℕ) → Appends a b xs → Writes b c r ys → Writes a c r (xs ++ ys)
Writes-then (Ok x) a b c xs ys p h = Appends-trans a b c xs ys p h
Writes-then (Err f) a b c xs ys p h =
    let (out, more, e, q) = h in
    (xs ++ out, more, ap (λ l. xs ++ l) e ∙ sym (append_assoc xs out more), Appends-trans a b c xs out p q)

-- a failed piece before what was not written
pub Writes-cut : {E F : Type 0} (f : E) (g : F) (a c : Option (List ℕ)) (xs ys all : List ℕ) → all ≡ xs ++ ys → Writes {E = E} a c (Err f) xs → Writes {E = F} a c (Err g) all
Writes-cut f g a c xs ys all k h =
    let (out, more, e, q) = h in
    (out, more ++ ys, k ∙ ap (λ l. l ++ ys) e ∙ append_assoc out more ys, q)

-- the bytes of an entry behind its header line
abbrev pub behind_bytes : List ℕ × Node → List ℕ
behind_bytes e = elim e.1 [ Directory ↦ [] | File bytes ↦ bytes ++ 10 ∷ [] ]

pub spelling-cut : (path : List ℕ) (node : Node) (line : List ℕ) → line ≡ header_bytes (path, node) → spelling (path, node) ≡ line ++ behind_bytes (path, node)
spelling-cut path Directory line h = sym (append-nil _ ∙ h)
spelling-cut path (File bytes) line h =
    let front = codes "file " ++ decimal (length bytes) ++ 32 ∷ path in
    append_assoc front (10 ∷ bytes) (10 ∷ []) ∙ sym (append_assoc front (10 ∷ []) (bytes ++ 10 ∷ [])) ∙ ap (λ l. l ++ (bytes ++ 10 ∷ [])) (sym h)

pub spelling-file : (path : List ℕ) (node : Node) (line bytes came : List ℕ) → line ≡ header_bytes (path, node) → node ≡ File bytes → came ≡ bytes → spelling (path, node) ≡ (line ++ came) ++ 10 ∷ []
spelling-file path node line bytes came h e k =
    spelling-cut path node line h ∙ ap (λ n. line ++ behind_bytes (path, n)) e ∙ ap (λ l. line ++ (l ++ 10 ∷ [])) (sym k) ∙ sym (append_assoc line came (10 ∷ []))

pub bundle-cut : (body done left text rest end : List ℕ) → body ≡ done ++ left → left ≡ text ++ rest → body ++ end ≡ (done ++ text) ++ (rest ++ end)
bundle-cut body done left text rest end e h =
    ap (λ l. l ++ end) (e ∙ ap (λ l. done ++ l) h ∙ sym (append_assoc done text rest)) ∙ append_assoc (done ++ text) rest end

pub bundle-end : (body done left end : List ℕ) → body ≡ done ++ left → left ≡ [] → body ++ end ≡ done ++ end
bundle-end body done left end e h = ap (λ l. l ++ end) (e ∙ ap (λ l. done ++ l) h ∙ append-nil done)

-- the text of the pieces from one on is that piece's, and that of the pieces behind it
piece-first : {X : Type 0} (f : X → List ℕ) (xs : List X) (k : ℕ) (d : X) → k < length xs → flat_map f (drop k xs) ≡ f (slice_index_or xs k d) ++ flat_map f (drop (k + 1) xs)
piece-first f [] k d h = absurd (omega (arith, h))
piece-first f (x ∷ xs) zero d h = refl
piece-first f (x ∷ xs) (suc k) d h = let e : suc k + 1 ≡ suc (k + 1) = omega arith in rw e (piece-first f xs k d (omega (arith, h)))

-- a piece more was written
pub piece-more : {X : Type 0} (f : X → List ℕ) (all done : List ℕ) (xs : List X) (k : ℕ) (d : X) → k < length xs → all ≡ done ++ flat_map f (drop k xs) → all ≡ (done ++ f (slice_index_or xs k d)) ++ flat_map f (drop (k + 1) xs)
piece-more f all done xs k d h e = e ∙ ap (λ l. done ++ l) (piece-first f xs k d h) ∙ sym (append_assoc done (f (slice_index_or xs k d)) (flat_map f (drop (k + 1) xs)))
