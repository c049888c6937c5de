-- Lists of paths, by places.
use Rattle.std.proofs.Common.{◌≡◌, ◌⊎◌, ◌||◌, ℕ, Bool, zero, suc, true, false, cond, List, [], ◌∷◌, ◌++◌, Option, Some, None, refl, sym, ap, subst, ◌∙◌, inl, inr, not, slice_get, true≢false}
use Rattle.std.specs.Cmp.Lexicographic.{bytes_decides, same_text}
use Rattle.std.specs.Prelude.{MatchOption, bytes_eq, is_some}
use Rattle.redo_names.specs.Paths.{AreDistinct, IsAmong, is_among, with_new, with_path}

pub among-place : (ps : List (List ℕ)) (p : List ℕ) → IsAmong ps p → (n : ℕ) × (slice_get ps n ≡ Some p)
among-place [] p none = elim none [ ]
among-place (q ∷ qs) p (inl same) = (0, ap Some same)
among-place (q ∷ qs) p (inr rest) = let r = among-place qs p rest in (suc r.0, r.1)

pub place-among : (ps : List (List ℕ)) (n : ℕ) (p : List ℕ) → slice_get ps n ≡ Some p → IsAmong ps p
place-among [] n p h = cc
place-among (q ∷ qs) zero p h = inl (cc)
place-among (q ∷ qs) (suc n) p h = inr (place-among qs n p h)

-- ---- the definitions' test

or_true : (b : Bool) → (b || true) ≡ true
or_true true = refl
or_true false = refl

pub among-told : (ps : List (List ℕ)) (p : List ℕ) → is_among ps p ≡ true → IsAmong ps p
among-told [] p h = cc
among-told (q ∷ qs) p h = elim (bytes_eq q p) as (λ b. bytes_eq q p ≡ b → (b || is_among qs p) ≡ true → (q ≡ p) ⊎ IsAmong qs p) [
  | true ↦ λ e t. inl ((bytes_decides q p).0 e)
  | false ↦ λ e t. inr (among-told qs p t)
] refl h

pub told-among : (ps : List (List ℕ)) (p : List ℕ) → IsAmong ps p → is_among ps p ≡ true
told-among [] p none = elim none [ ]
told-among (q ∷ qs) p (inl same) = ap (λ b. b || is_among qs p) ((bytes_decides q p).1 same)
told-among (q ∷ qs) p (inr rest) = ap (λ b. bytes_eq q p || b) (told-among qs p rest) ∙ or_true (bytes_eq q p)

pub told-absent : (ps : List (List ℕ)) (p : List ℕ) → (IsAmong ps p → ⊥) → is_among ps p ≡ false
told-absent ps p none = elim (is_among ps p) as (λ b. is_among ps p ≡ b → is_among ps p ≡ false) [
  | true ↦ λ e. absurd (none (among-told ps p e))
  | false ↦ λ e. e
] refl

-- ---- one path more

among-last : (ps : List (List ℕ)) (last p : List ℕ) → IsAmong (ps ++ last ∷ []) p → IsAmong ps p ⊎ (last ≡ p)
among-last [] last p (inl same) = inr same
among-last [] last p (inr none) = absurd none
among-last (q ∷ qs) last p (inl same) = inl (inl same)
among-last (q ∷ qs) last p (inr rest) = elim (among-last qs last p rest) [
  | inl r ↦ inl (inr r)
  | inr e ↦ inr e
]

pub distinct-last : (ps : List (List ℕ)) (last : List ℕ) → AreDistinct ps → (IsAmong ps last → ⊥) → AreDistinct (ps ++ last ∷ [])
distinct-last [] last d new = (λ none. none, tt)
distinct-last (q ∷ qs) last d new = (
  λ m. elim (among-last qs last q m) [
    | inl r ↦ d.0 r
    | inr e ↦ new (inl (sym e))
  ],
  distinct-last qs last d.1 (λ m. new (inr m)),
)

-- ---- a path put in

pub put-there : (ps : List (List ℕ)) (p : List ℕ) → IsAmong ps p → with_path ps p ≡ ps
put-there ps p m = ap (λ b. cond b ps (ps ++ p ∷ [])) (told-among ps p m)

pub put-new : (ps : List (List ℕ)) (p : List ℕ) → (IsAmong ps p → ⊥) → with_path ps p ≡ ps ++ p ∷ []
put-new ps p none = ap (λ b. cond b ps (ps ++ p ∷ [])) (told-absent ps p none)

-- ---- what is among the paths once others were put in

pub or-assoc : (a b c : Bool) → ((a || b) || c) ≡ (a || (b || c))
or-assoc true b c = refl
or-assoc false b c = refl

pub or-false : (a : Bool) → (a || false) ≡ a
or-false true = refl
or-false false = refl

kept-or : (a b : Bool) → (b ≡ true → a ≡ true) → a ≡ (a || b)
kept-or true b h = refl
kept-or false true h = h refl
kept-or false false h = refl

pub is_among-append : (ps qs : List (List ℕ)) (p : List ℕ) → is_among (ps ++ qs) p ≡ (is_among ps p || is_among qs p)
is_among-append [] qs p = refl
is_among-append (x ∷ ps) qs p =
    ap (λ b. bytes_eq x p || b) (is_among-append ps qs p) ∙ sym (or-assoc (bytes_eq x p) (is_among ps p) (is_among qs p))

pub is_among-last : (ps : List (List ℕ)) (q p : List ℕ) → is_among (ps ++ q ∷ []) p ≡ (is_among ps p || bytes_eq q p)
is_among-last ps q p =
    is_among-append ps (q ∷ []) p ∙ ap (λ b. is_among ps p || b) (or-false (bytes_eq q p))

pub is_among-with : (ps : List (List ℕ)) (q p : List ℕ) → is_among (with_path ps q) p ≡ (is_among ps p || bytes_eq q p)
is_among-with ps q p = elim (is_among ps q) as (λ b. is_among ps q ≡ b → is_among (cond b ps (ps ++ q ∷ [])) p ≡ (is_among ps p || bytes_eq q p)) [
  | true ↦ λ there. kept-or (is_among ps p) (bytes_eq q p) (λ same. ap (is_among ps) (sym (same_text q p (sym same))) ∙ there)
  | false ↦ λ absent. is_among-last ps q p
] refl

pub with_path-cases : (ps : List (List ℕ)) (q p : List ℕ) → IsAmong (with_path ps q) p → IsAmong ps p ⊎ (q ≡ p)
with_path-cases ps q p m =
    elim (is_among ps p) as (λ b. is_among ps p ≡ b → (b || bytes_eq q p) ≡ true → IsAmong ps p ⊎ (q ≡ p)) [
      | true ↦ λ there h. inl (among-told ps p there)
      | false ↦ λ absent same. inr ((bytes_decides q p).0 same)
    ] refl (sym (is_among-with ps q p) ∙ told-among (with_path ps q) p m)

pub is_among-new : (ps qs : List (List ℕ)) (p : List ℕ) → is_among (with_new ps qs) p ≡ (is_among ps p || is_among qs p)
is_among-new ps [] p = sym (or-false (is_among ps p))
is_among-new ps (q ∷ qs) p =
    is_among-new (with_path ps q) qs p ∙ ap (λ b. b || is_among qs p) (is_among-with ps q p)
    ∙ or-assoc (is_among ps p) (bytes_eq q p) (is_among qs p)

-- a path has a number where it is one of them
pub numbered : (ps : List (List ℕ)) (p : List ℕ) (o : Option ℕ) →
    MatchOption o (IsAmong ps p → ⊥) (λ n. slice_get ps n ≡ Some p) → is_some o ≡ is_among ps p
numbered ps p None none = sym (told-absent ps p none)
numbered ps p (Some n) found = sym (told-among ps p (place-among ps n p found))

-- what has no place is not among them
pub absent-among : (ps qs : List (List ℕ)) (p t : List ℕ) → ps ≡ qs → t ≡ p → ((n : ℕ) → slice_get ps n ≡ Some t → ⊥) → IsAmong qs p → ⊥
absent-among ps qs p t same text none m =
    let at = among-place qs p m in
    none at.0 (subst (λ xs. slice_get xs at.0 ≡ Some t) (sym same) (at.1 ∙ ap Some (sym text)))

pub there-among : (ps qs : List (List ℕ)) (p t : List ℕ) (n : ℕ) → ps ≡ qs → t ≡ p → slice_get ps n ≡ Some t → IsAmong qs p
there-among ps qs p t n same text h = place-among qs n p (subst (λ xs. slice_get xs n ≡ Some p) same (h ∙ ap Some text))

-- whether a path was new tells whether it was there
pub was-new : (ps : List (List ℕ)) (p : List ℕ) (new : Bool) → new ≡ not (is_among ps p) → new ≡ true → IsAmong ps p → ⊥
was-new ps p new told is m = true≢false (sym is ∙ told ∙ ap not (told-among ps p m))

denied : (b : Bool) → not b ≡ false → b ≡ true
denied true h = refl
denied false h = sym h

pub was-there : (ps : List (List ℕ)) (p : List ℕ) (new : Bool) → new ≡ not (is_among ps p) → new ≡ false → IsAmong ps p
was-there ps p new told is = among-told ps p (denied (is_among ps p) (sym told ∙ is))
