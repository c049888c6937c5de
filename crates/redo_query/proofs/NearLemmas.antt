-- The nearest of some names, and of one more.
use Rattle.std.proofs.Common.{◌≡◌, ◌≤◌, ◌<◌, ◌++◌, ◌∷◌, [], ℕ, List, ap, sym, subst, ◌∙◌, refl, arith, append_assoc}
use Rattle.std.specs.List.{AllByRecursion}
use Rattle.redo_query.specs.Nearest.{IsNearest, edits}

-- one more of which it holds
pub all-last : {A : Type 0} (P : A → Type 0) (xs : List A) (x : A) → AllByRecursion P xs → P x → AllByRecursion P (xs ++ x ∷ [])
all-last P [] x h p = (p, tt)
all-last P (y ∷ ys) x h p = (h.0, all-last P ys x h.1 p)

all-join : {A : Type 0} (P : A → Type 0) (xs ys : List A) → AllByRecursion P xs → AllByRecursion P ys → AllByRecursion P (xs ++ ys)
all-join P [] ys h k = k
all-join P (x ∷ xs) ys h k = (h.0, all-join P xs ys h.1 k)

closer : (word : List ℕ) (n m : ℕ) (names : List (List ℕ)) → n ≤ m → AllByRecursion (λ name. m < edits word name) names → AllByRecursion (λ name. n < edits word name) names
closer word n m [] le h = tt
closer word n m (x ∷ xs) le h = (omega (arith, le, h.0), closer word n m xs le h.1)

closer_yet : (word : List ℕ) (n m : ℕ) (names : List (List ℕ)) → n < m → AllByRecursion (λ name. m ≤ edits word name) names → AllByRecursion (λ name. n < edits word name) names
closer_yet word n m [] le h = tt
closer_yet word n m (x ∷ xs) le h = (omega (arith, le, h.0), closer_yet word n m xs le h.1)

-- the first name
pub first-nearest : (word : List ℕ) (names : List (List ℕ)) (x : List ℕ) → names ≡ [] → IsNearest word (names ++ x ∷ []) x
first-nearest word names x none = record { before = []; after = []; there = ap (λ ns. ns ++ x ∷ []) none; first = tt; least = tt }

-- a name that is nearer than all before it
pub nearer-nearest : (word : List ℕ) (names : List (List ℕ)) (found x : List ℕ) → IsNearest word names found → edits word x < edits word found → IsNearest word (names ++ x ∷ []) x
nearer-nearest word names found x n less =
    let before = closer word (edits word x) (edits word found) n.before (omega (arith, less)) n.first in
    let after = closer_yet word (edits word x) (edits word found) n.after less n.least in
    let all = all-join (λ name. edits word x < edits word name) n.before (found ∷ n.after) before (less, after) in
    record { before = names; after = []; there = refl; first = subst (AllByRecursion (λ name. edits word x < edits word name)) (sym n.there) all; least = tt }

-- a name that isn't nearer
pub farther-nearest : (word : List ℕ) (names : List (List ℕ)) (found x : List ℕ) → IsNearest word names found → edits word found ≤ edits word x → IsNearest word (names ++ x ∷ []) found
farther-nearest word names found x n le = record {
  before = n.before;
  after = n.after ++ x ∷ [];
  there = ap (λ ns. ns ++ x ∷ []) n.there ∙ append_assoc n.before (found ∷ n.after) (x ∷ []);
  first = n.first;
  least = all-last (λ name. edits word found ≤ edits word name) n.after x n.least le;
}
