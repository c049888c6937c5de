-- Values of words, part by part.
use Rattle.std.proofs.Common.{◌≡◌, ℕ, suc, ◌+◌, ◌<◌, ◌≤◌, Bool, true, false, cond, ◌&&◌, List, [], ◌∷◌, ◌++◌, length}
use Rattle.std.proofs.Common.{drop, get_or, Option, Some, None, refl, sym, ap, ◌∙◌, arith, add-one, append_assoc}
use Rattle.std.proofs.Common.{length-drop, map}
use Rattle.std.proofs.Math.Seq.{drop-cons}
use Rattle.std.proofs.lemmas.List.{nil_from_length, append-nil}
use Rattle.redo_script.specs.declared.ast.Parameter.{Parameter}
use Rattle.redo_script.specs.declared.ast.Part.{Part}
use Rattle.redo_script.specs.declared.ast.Part.TheVariants as parts
use Rattle.redo_script.specs.Syntax.{byte, Word}
use Rattle.redo_script.specs.View.{symbols_of, symbols_of_part}
use Rattle.redo_script.specs.Bytes.{is_plain}
use Rattle.redo_step.specs.Value.{value_of, with_front, with_bare, is_fit, are_plain}
use Rattle.redo_step.specs.inside.Parts.{added, fit}

pub with_front-with_front : (a b : List ℕ) (v : Option (List ℕ)) → with_front a (with_front b v) ≡ with_front (a ++ b) v
with_front-with_front a b None = refl
with_front-with_front a b (Some v) = ap Some (sym (append_assoc a b v))

abbrev pub with_added : Option (List ℕ) → Option (List ℕ) → Option (List ℕ)
with_added None v = None
with_added (Some front) v = with_front front v

bare_added : (front : List ℕ) (v : Option (List ℕ)) → with_bare front v ≡ with_added (fit front) v
bare_added front v = elim (is_fit front) as (λ (b : Bool). cond b (with_front front v) None ≡ with_added (cond b (Some front) None) v) [ true ↦ refl | false ↦ refl ]

with_nothing : (o : Option (List ℕ)) → with_added o (Some []) ≡ o
with_nothing None = refl
with_nothing (Some front) = ap Some (append-nil front)

one_part : (ps : List Part) (part : Part) → length ps ≡ 1 → part ≡ get_or ps 0 part → ps ≡ part ∷ []
one_part [] part one is = absurd (omega arith)
one_part (p ∷ []) part one is = ap (λ q. q ∷ []) (sym is)
one_part (p ∷ q ∷ ps) part one is = absurd (omega arith)

module _ (parameters : Parameter → List ℕ) (names : List ℕ → List ℕ) where
  value_of-bytes : (bytes : List ℕ) (w : Word) → value_of parameters names (map byte bytes ++ w) ≡ with_front bytes (value_of parameters names w)
  value_of-bytes [] w = (elim (value_of parameters names w) as (λ (v : Option (List ℕ)). v ≡ with_front [] v) [ None ↦ refl | Some v ↦ refl ])
  value_of-bytes (b ∷ bs) w = ap (with_front (b ∷ [])) (value_of-bytes bs w) ∙ with_front-with_front (b ∷ []) bs (value_of parameters names w)

  value_of-part : (part : Part) (w : Word) → value_of parameters names (symbols_of_part part ++ w) ≡ with_added (added parameters names part) (value_of parameters names w)
  value_of-part (parts.Lit bytes) w = value_of-bytes bytes w
  value_of-part (parts.Quoted p) w = refl
  value_of-part (parts.Bare p) w = bare_added (parameters p) (value_of parameters names w)
  value_of-part (parts.NamedQuoted n) w = refl
  value_of-part (parts.NamedBare n) w = bare_added (names n) (value_of parameters names w)

  -- a word of bytes alone
  pub value_of_literal : (bytes : List ℕ) → value_of parameters names (map byte bytes) ≡ Some bytes
  value_of_literal bytes = ap (value_of parameters names) (sym (append-nil (map byte bytes))) ∙ (value_of-bytes bytes [] ∙ ap Some (append-nil bytes))

  -- a word of one part

  value_alone : (part : Part) → value_of parameters names (symbols_of (part ∷ [])) ≡ added parameters names part
  value_alone part = value_of-part part [] ∙ with_nothing (added parameters names part)

  pub value_of_one : (ps : List Part) (part : Part) → length ps ≡ 1 → part ≡ get_or ps 0 part → value_of parameters names (symbols_of ps) ≡ added parameters names part
  value_of_one ps part one is = rw (one_part ps part one is) (value_alone part)

  module _ (ps : List Part) (i : ℕ) (part : Part) (so_far : List ℕ) (total : Option (List ℕ)) (lt : i < length ps) (is : part ≡ get_or ps i part) (before : with_front so_far (value_of parameters names (symbols_of (drop i ps))) ≡ total) where
    here : with_front so_far (with_added (added parameters names part) (value_of parameters names (symbols_of (drop (i + 1) ps)))) ≡ total
    here =
        let split : drop i ps ≡ part ∷ drop (i + 1) ps = rw add-one (drop-cons ps i part lt ∙ ap (λ p. p ∷ drop (suc i) ps) (sym is)) in
        let e : with_front so_far (value_of parameters names (symbols_of (drop i ps))) ≡ with_front so_far (with_added (added parameters names part) (value_of parameters names (symbols_of (drop (i + 1) ps)))) = rw split (ap (with_front so_far) (value_of-part part (symbols_of (drop (i + 1) ps)))) in
        sym e ∙ before

    -- a part that adds bytes
    pub adds : (bytes new : List ℕ) → added parameters names part ≡ Some bytes → new ≡ so_far ++ bytes → with_front new (value_of parameters names (symbols_of (drop (i + 1) ps))) ≡ total
    adds bytes new a n =
        let h : with_front so_far (with_added (added parameters names part) (value_of parameters names (symbols_of (drop (i + 1) ps)))) ≡ with_front (so_far ++ bytes) (value_of parameters names (symbols_of (drop (i + 1) ps))) = rw a (with_front-with_front so_far bytes (value_of parameters names (symbols_of (drop (i + 1) ps)))) in
        rw n (sym h ∙ here)

    -- a part that isn't fit
    pub refuses : added parameters names part ≡ None → None ≡ total
    refuses a = let h : with_front so_far (with_added (added parameters names part) (value_of parameters names (symbols_of (drop (i + 1) ps)))) ≡ None = rw a refl in sym h ∙ here

  pub all_added : (ps : List Part) (i : ℕ) (so_far : List ℕ) (total : Option (List ℕ)) → length ps ≤ i → with_front so_far (value_of parameters names (symbols_of (drop i ps))) ≡ total → Some so_far ≡ total
  all_added ps i so_far total le h =
      let none : drop i ps ≡ [] = nil_from_length (drop i ps) (simp length-drop (omega arith)) in
      let e : with_front so_far (value_of parameters names (symbols_of (drop i ps))) ≡ Some so_far = rw none (ap Some (append-nil so_far)) in
      sym e ∙ h

pub plain_at : (bytes : List ℕ) (i : ℕ) → i < length bytes → are_plain (drop i bytes) ≡ (is_plain (get_or bytes i 0) && are_plain (drop (i + 1) bytes))
plain_at bytes i lt = rw (add-one, drop-cons bytes i 0 lt) refl

pub plain_end : (bytes : List ℕ) (i : ℕ) → length bytes ≤ i → are_plain (drop i bytes) ≡ true
plain_end bytes i le = let none : drop i bytes ≡ [] = nil_from_length (drop i bytes) (simp length-drop (omega arith)) in rw none refl
