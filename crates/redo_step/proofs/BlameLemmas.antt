-- The operand at fault, found from the first on.
use Rattle.std.proofs.Common.{◌≡◌, ℕ, zero, suc, ◌+◌, ◌<◌, ◌≤◌, length, get_or, List, [], ◌∷◌, ◌++◌, Option, Some, None}
use Rattle.std.proofs.Common.{drop, refl, sym, ap, ◌∙◌, add-one, arith, map, append_assoc, Bool, true, false, cond}
use Rattle.std.proofs.Common.{below_more, length-drop, subst}
use Rattle.std.specs.Prelude.{slice_get, unwrap_or}
use Rattle.std.proofs.Math.Seq.{drop-cons}
use Rattle.std.proofs.lemmas.List.{nil_from_length}
use Rattle.redo_script.specs.declared.ast.Parameter.{Parameter}
use Rattle.redo_script.specs.declared.ast.Part.{Part}
use Rattle.redo_script.specs.declared.ast.Part.TheVariants as parts
use Rattle.redo_script.specs.Syntax.{byte, Word}
use Rattle.redo_script.specs.declared.ast.Word.{Word as WordTree}
use Rattle.redo_script.specs.View.{symbols_of, symbols_of_part, word_of, words_of}
use Rattle.redo_step.specs.Value.{is_fit}
use Rattle.redo_step.specs.declared.operands.Operand.{Operand as OperandTree}
use Rattle.redo_step.specs.declared.operands.Role.{Role}
use Rattle.redo_step.specs.Operands.{Operand, all_as, first_unfit, unfit_or}
use Rattle.redo_step.specs.Ends.{NoneWithin, IsFirst}
use Rattle.redo_step.specs.inside.Operands.{operand_of, seen}
use Rattle.redo_step.specs.inside.Parts.{unfit, unfit_part}

seen_at : (os : List OperandTree) (i : ℕ) (o : OperandTree) → i < length os → o ≡ get_or os i o → slice_get (seen os) i ≡ Some (operand_of o)
seen_at [] i o lt is = absurd (omega arith)
seen_at (p ∷ os) zero o lt is = ap (λ q. Some (operand_of q)) (sym is)
seen_at (p ∷ os) (suc i) o lt is = seen_at os i o (omega arith) is

pub length-seen : (os : List OperandTree) → length (seen os) ≡ length os
length-seen [] = refl
length-seen (o ∷ os) = ap suc (length-seen os)

module _ (P : Operand → Type 0) (os : List OperandTree) (i : ℕ) where
  pub none_at_first : NoneWithin P (seen os) 0
  none_at_first = λ k less x here so. absurd (omega arith)

  -- an operand that isn't so
  pub none_here : (o : OperandTree) → i < length os → o ≡ get_or os i o → NoneWithin P (seen os) i → ¬ P (operand_of o) → NoneWithin P (seen os) (i + 1)
  none_here o lt is none n =
      below_more (λ k. (x : Operand) → slice_get (seen os) k ≡ Some x → ¬ P x) i none (λ x here so.
      let same : Some (operand_of o) ≡ Some x = sym (seen_at os i o lt is) ∙ here in
      let e : x ≡ operand_of o = cc in
      n (subst P e so))

  -- none of them is so
  pub none_of_all : length os ≤ i → NoneWithin P (seen os) i → NoneWithin P (seen os) (length (seen os))
  none_of_all le none = λ k less x here so. let l = length-seen os in let below : k < i = omega arith in none k below x here so

  -- the first that is so
  pub first_here : (o : OperandTree) → i < length os → o ≡ get_or os i o → NoneWithin P (seen os) i → P (operand_of o) → IsFirst P (seen os) i (operand_of o)
  first_here o lt is none so = record { here = seen_at os i o lt is; is_so = so; none_before = none }

-- Adding operands

seen-append : (xs ys : List OperandTree) → seen (xs ++ ys) ≡ seen xs ++ seen ys
seen-append [] ys = refl
seen-append (x ∷ xs) ys = ap (λ zs. operand_of x ∷ zs) (seen-append xs ys)

pub add_goes : (role : Role) (words : List WordTree) (i : ℕ) (word : WordTree) (os : List OperandTree) (o : OperandTree) (total : List Operand) → i < length words → word ≡ get_or words i word → operand_of o ≡ record { role = role; word = word_of word } → seen os ++ all_as role (words_of (drop i words)) ≡ total → seen (os ++ o ∷ []) ++ all_as role (words_of (drop (i + 1) words)) ≡ total
add_goes role words i word os o total lt is e before =
    let split : drop i words ≡ word ∷ drop (i + 1) words = rw add-one (drop-cons words i word lt ∙ ap (λ w. w ∷ drop (suc i) words) (sym is)) in
    let more = all_as role (words_of (drop (i + 1) words)) in
    let one : seen (os ++ o ∷ []) ++ more ≡ seen os ++ (operand_of o ∷ more) = ap (λ xs. xs ++ more) (seen-append os (o ∷ [])) ∙ append_assoc (seen os) (operand_of o ∷ []) more in
    let two : seen os ++ (operand_of o ∷ more) ≡ seen os ++ all_as role (words_of (drop i words)) = ap (λ x. seen os ++ (x ∷ more)) e ∙ ap (λ ws. seen os ++ all_as role (words_of ws)) (sym split) in
    one ∙ two ∙ before

pub add_one : (xs : List OperandTree) (o : OperandTree) → seen (xs ++ o ∷ []) ≡ seen xs ++ operand_of o ∷ []
add_one xs o = seen-append xs (o ∷ [])

-- What isn't fit

module _ (parameters : Parameter → List ℕ) (names : List ℕ → List ℕ) where
  unfit-bytes : (bytes : List ℕ) (w : Word) → first_unfit parameters names (map byte bytes ++ w) ≡ first_unfit parameters names w
  unfit-bytes [] w = refl
  unfit-bytes (b ∷ bs) w = unfit-bytes bs w

  pub unfit_literal : (bytes : List ℕ) → first_unfit parameters names (map byte bytes) ≡ []
  unfit_literal [] = refl
  unfit_literal (b ∷ bs) = unfit_literal bs

  unfit-bare : (bytes rest : List ℕ) → unfit_or bytes rest ≡ unwrap_or (unfit bytes) rest
  unfit-bare bytes rest = elim (is_fit bytes) as (λ (b : Bool). cond b rest bytes ≡ unwrap_or (cond b None (Some bytes)) rest) [ true ↦ refl | false ↦ refl ]

  unfit-part : (part : Part) (w : Word) → first_unfit parameters names (symbols_of_part part ++ w) ≡ unwrap_or (unfit_part parameters names part) (first_unfit parameters names w)
  unfit-part (parts.Lit bytes) w = unfit-bytes bytes w
  unfit-part (parts.Quoted p) w = refl
  unfit-part (parts.Bare p) w = unfit-bare (parameters p) (first_unfit parameters names w)
  unfit-part (parts.NamedQuoted n) w = refl
  unfit-part (parts.NamedBare n) w = unfit-bare (names n) (first_unfit parameters names w)

  module _ (ps : List Part) (i : ℕ) (part : Part) (total : List ℕ) (lt : i < length ps) (is : part ≡ get_or ps i part) (before : first_unfit parameters names (symbols_of (drop i ps)) ≡ total) where
    unfit_from : unwrap_or (unfit_part parameters names part) (first_unfit parameters names (symbols_of (drop (i + 1) ps))) ≡ total
    unfit_from =
        let split : drop i ps ≡ part ∷ drop (i + 1) ps = rw add-one (drop-cons ps i part lt ∙ ap (λ p. p ∷ drop (suc i) ps) (sym is)) in
        sym (unfit-part part (symbols_of (drop (i + 1) ps))) ∙ ap (λ qs. first_unfit parameters names (symbols_of qs)) (sym split) ∙ before

    pub unfit_next : unfit_part parameters names part ≡ None → first_unfit parameters names (symbols_of (drop (i + 1) ps)) ≡ total
    unfit_next fits = ap (λ (o : Option (List ℕ)). unwrap_or o (first_unfit parameters names (symbols_of (drop (i + 1) ps)))) (sym fits) ∙ unfit_from

    pub unfit_here : (value : List ℕ) → unfit_part parameters names part ≡ Some value → value ≡ total
    unfit_here value is_unfit = ap (λ (o : Option (List ℕ)). unwrap_or o (first_unfit parameters names (symbols_of (drop (i + 1) ps)))) (sym is_unfit) ∙ unfit_from

  pub unfit_end : (ps : List Part) (i : ℕ) (total : List ℕ) → length ps ≤ i → first_unfit parameters names (symbols_of (drop i ps)) ≡ total → [] ≡ total
  unfit_end ps i total le before =
      let none : drop i ps ≡ [] = nil_from_length (drop i ps) (simp length-drop (omega arith)) in
      ap (λ qs. first_unfit parameters names (symbols_of qs)) (sym none) ∙ before
