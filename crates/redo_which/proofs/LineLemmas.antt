-- The lines of missing candidates.
use Rattle.std.proofs.Common.{◌≡◌, ◌+◌, ◌++◌, ◌∷◌, ◌∙◌, [], List, ℕ, ap, arith, length, map, refl}
use Rattle.std.proofs.lemmas.List.{length-append}
use Rattle.std.specs.Prelude.{Err, IfOk, Ok, Result, flat_map}
use Rattle.redo_which.specs.Candidates.{Place}
use Rattle.redo_which.specs.Lines.{lines_of}

lines-map : (front : List ℕ) (ps : List Place) → flat_map (λ path. front ++ path ++ 10 ∷ []) (map (λ p. p.do_file) ps) ≡ lines_of front ps
lines-map front [] = refl
lines-map front (p ∷ ps) = ap (λ l. (front ++ p.do_file ++ 10 ∷ []) ++ l) (lines-map front ps)

-- the lines of some paths are that of the first, and those of the rest
pub lines-split : (front : List ℕ) (p : Place) (rest : List Place) (paths : List (List ℕ)) → paths ≡ p.do_file ∷ map (λ p. p.do_file) rest → flat_map (λ path. front ++ path ++ 10 ∷ []) paths ≡ (front ++ p.do_file ++ 10 ∷ []) ++ lines_of front rest
lines-split front p rest paths h = ap (flat_map (λ path. front ++ path ++ 10 ∷ [])) h ∙ ap (λ l. (front ++ p.do_file ++ 10 ∷ []) ++ l) (lines-map front rest)

-- the first line and the rest together are as long as their bytes
pub lines-size : (front first behind all : List ℕ) (line sum : ℕ) → all ≡ (front ++ first ++ 10 ∷ []) ++ behind → line ≡ length front + (length first + 1) → sum ≡ line + length behind → sum ≡ length all
lines-size front first behind all line sum h l s =
    let whole : length all ≡ length (front ++ first ++ 10 ∷ []) + length behind = ap length h ∙ length-append (front ++ first ++ 10 ∷ []) behind in
    let ended : length (front ++ first ++ 10 ∷ []) ≡ length (front ++ first) + 1 = length-append (front ++ first) (10 ∷ []) in
    let both : length (front ++ first) ≡ length front + length first = length-append front first in
    omega (arith, whole, ended, both, l, s)

-- and so where there is a sum
pub sum-so : {E : Type 0} (r : Result ℕ E) (m n : ℕ) → ((k : ℕ) → k ≡ m → k ≡ n) → IfOk r (λ k. k ≡ m) → IfOk r (λ k. k ≡ n)
sum-so (Ok k) m n f h = f k h
sum-so (Err e) m n f h = tt
