-- What is open, as the code counts it and as contracts see it.
use Rattle.std.proofs.Common.{◌≡◌, ℕ, suc, ◌+◌, ◌≤◌, Bool, true, false, ◌||◌, List, [], ◌∷◌, length, refl, ◌∙◌, arith}
use Rattle.std.specs.Str.{bytes_eq}
use Rattle.redo_script.specs.declared.open.Open.{Open as OpenTree}
use Rattle.redo_script.specs.Forms.{is_bound}
use Rattle.redo_script.specs.Parsing.{Open, ifs_in, names_in}
use Rattle.redo_script.specs.inside.Parser.{open_of, stack_onto, ifs_among, loops_among, bound_among}
use Rattle.redo_script.specs.declared.open.Open.TheVariants as trees

ifs_onto : (os : List Open) (xs : List OpenTree) → ifs_in (stack_onto os xs) ≡ ifs_among xs + ifs_in os
ifs_onto os [] = omega arith
ifs_onto os (trees.If o ∷ xs) = let e : ifs_in (stack_onto (open_of (trees.If o) ∷ os) xs) ≡ ifs_among xs + suc (ifs_in os) = ifs_onto (open_of (trees.If o) ∷ os) xs in omega (arith, e)
ifs_onto os (trees.Loop o ∷ xs) = ifs_onto (open_of (trees.Loop o) ∷ os) xs

pub ifs_are : (xs : List OpenTree) → ifs_in (stack_onto [] xs) ≡ ifs_among xs
ifs_are xs = let e = ifs_onto [] xs in omega (arith, e)

pub ifs_few : (xs : List OpenTree) → ifs_among xs ≤ length xs
ifs_few [] = omega arith
ifs_few (trees.If o ∷ xs) = let e = ifs_few xs in omega (arith, e)
ifs_few (trees.Loop o ∷ xs) = let e = ifs_few xs in omega (arith, e)

loops_onto : (os : List Open) (xs : List OpenTree) → length (names_in (stack_onto os xs)) ≡ loops_among xs + length (names_in os)
loops_onto os [] = omega arith
loops_onto os (trees.If o ∷ xs) = loops_onto (open_of (trees.If o) ∷ os) xs
loops_onto os (trees.Loop o ∷ xs) = let e : length (names_in (stack_onto (open_of (trees.Loop o) ∷ os) xs)) ≡ loops_among xs + suc (length (names_in os)) = loops_onto (open_of (trees.Loop o) ∷ os) xs in omega (arith, e)

pub loops_are : (xs : List OpenTree) → length (names_in (stack_onto [] xs)) ≡ loops_among xs
loops_are xs = let e = loops_onto [] xs in omega (arith, e)

pub loops_few : (xs : List OpenTree) → loops_among xs ≤ length xs
loops_few [] = omega arith
loops_few (trees.If o ∷ xs) = let e = loops_few xs in omega (arith, e)
loops_few (trees.Loop o ∷ xs) = let e = loops_few xs in omega (arith, e)

or_either : (a b c : Bool) → (b || (a || c)) ≡ ((a || b) || c)
or_either true true c = refl
or_either true false c = refl
or_either false true c = refl
or_either false false c = refl

or_none : (b : Bool) → (b || false) ≡ b
or_none true = refl
or_none false = refl

bound_onto : (name : List ℕ) (os : List Open) (xs : List OpenTree) → is_bound (names_in (stack_onto os xs)) name ≡ (bound_among name xs || is_bound (names_in os) name)
bound_onto name os [] = refl
bound_onto name os (trees.If o ∷ xs) = bound_onto name (open_of (trees.If o) ∷ os) xs
bound_onto name os (trees.Loop o ∷ xs) = bound_onto name (open_of (trees.Loop o) ∷ os) xs ∙ or_either (bytes_eq o.name name) (bound_among name xs) (is_bound (names_in os) name)

pub bound_are : (name : List ℕ) (xs : List OpenTree) → is_bound (names_in (stack_onto [] xs)) name ≡ bound_among name xs
bound_are name xs = bound_onto name [] xs ∙ or_none (bound_among name xs)
