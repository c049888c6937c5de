-- One part of a word, followed into a name.
use Rattle.std.proofs.Common.{◌≡◌, ◌≢◌, ℕ, ◌<◌, ◌≤◌, true, false, List, [], ◌∷◌, ◌++◌, length, refl, sym, ap, subst}
use Rattle.std.proofs.Common.{◌∙◌, arith, le-ltb}
use Rattle.std.specs.Prelude.{Result, Ok, Err, IfOk, IfErr, codes}
use Rattle.std.specs.List.{AllByRecursion}
use Rattle.std.specs.Str.{bytes_eq}
use Rattle.redo_path.specs.declared.PathFault.{PathFault}
use Rattle.redo_path.specs.declared.PathFault.TheVariants.{Memory}
use Rattle.redo_path.specs.Names.{IsName, IsPart, names, child_of}
use Rattle.redo_path.specs.Resolve.{step}
use Rattle.redo_path.specs.inside.Walking.{Leads}
use Rattle.redo_path.proofs.PartLemmas.{names-child, AllByRecursion-append}

-- a part that is none of the special ones
pub record IsPlain (part : List ℕ) : Type 0 where
  pub nonempty : 0 < length part
  pub not_here : bytes_eq part (codes ".") ≡ false
  pub not_parent : bytes_eq part (codes "..") ≡ false
  pub short : length part ≤ 255

differs : (xs ys : List ℕ) → bytes_eq xs ys ≡ false → bytes_eq ys ys ≡ true → xs ≢ ys
differs xs ys h k e = let same : bytes_eq xs ys ≡ bytes_eq ys ys = ap (λ t. bytes_eq t ys) e in cc

not_empty : (part : List ℕ) → 0 < length part → bytes_eq part [] ≡ false
not_empty [] h = absurd (omega arith)
not_empty (b ∷ bs) h = refl

nonempty_name : (part : List ℕ) → 0 < length part → part ≢ []
nonempty_name [] h e = absurd (omega arith)
nonempty_name (b ∷ bs) h e = cc

pub IsName-plain : (part : List ℕ) → IsPlain part → IsPart part → IsName part
IsName-plain part h k = record {
  nonempty = nonempty_name part h.nonempty;
  not_here = differs part (codes ".") h.not_here refl;
  not_parent = differs part (codes "..") h.not_parent refl;
  part = k;
  short = h.short;
}

pub step-plain : (ns : List (List ℕ)) (part : List ℕ) → IsPlain part → step ns part ≡ Ok (ns ++ part ∷ [])
step-plain ns part h = rw (not_empty part h.nonempty, h.not_here, h.not_parent, le-ltb 255 (length part) h.short)

-- what follow does where the part is a name
pub Leads-enter : (r : Result (Unit {0}) PathFault) (old new part : List ℕ) → IsPlain part → IsPart part → IfOk r (λ _. new ≡ child_of old part) → IfErr r (λ fault. fault ≡ Memory) → Leads r (names new) (step (names old) part)
Leads-enter (Ok u) old new part h k entered memory =
    step-plain (names old) part h ∙ ap Ok (sym (ap names entered ∙ names-child old part (nonempty_name part h.nonempty) k.no_slash))
Leads-enter (Err fault) old new part h k entered memory =
    subst (λ f. Leads {A = Unit {0}} (Err f) (names new) (step (names old) part)) (sym memory) tt

pub names-enter : (r : Result (Unit {0}) PathFault) (old new part : List ℕ) → IsPlain part → IsPart part → AllByRecursion IsName (names old) → IfOk r (λ _. new ≡ child_of old part) → IfOk r (λ _. AllByRecursion IsName (names new))
names-enter (Ok u) old new part h k named entered =
    subst (AllByRecursion IsName) (sym (ap names entered ∙ names-child old part (nonempty_name part h.nonempty) k.no_slash))
    (AllByRecursion-append IsName (names old) (part ∷ []) named (IsName-plain part h k, tt))
names-enter (Err fault) old new part h k named entered = tt
