use Rattle.std.proofs.Common.{◌≡◌, true, ℕ, List, [], ◌∷◌, refl, sym, subst, ◌∙◌}
use Rattle.std.proofs.lemmas.Bool.{and_parts}
use Rattle.std.specs.Cmp.Lexicographic.{lists_equiv, nat_list_eq_equiv, pointwise, same_text}
use Rattle.std.specs.Prelude.{nat_eq}
use Rattle.redo_core.proofs.same.are_same_paths.Goals as goal

same_texts : (xs ys : List (List ℕ)) → pointwise (pointwise nat_eq) xs ys ≡ true → xs ≡ ys
same_texts [] [] h = refl
same_texts (x ∷ xs) (y ∷ ys) h =
    let k = and_parts (pointwise nat_eq x y) (pointwise (pointwise nat_eq) xs ys) h in
    λ i. same_text x y (sym k.0) i ∷ same_texts xs ys k.1 i
same_texts _ _ h = cc

pub returns : goal.returns
returns c = (
  λ h. same_texts c.args.paths.now c.args.others.now (sym c.eq.ensures ∙ h),
  λ e. c.eq.ensures ∙ subst (λ ps. pointwise (pointwise nat_eq) c.args.paths.now ps ≡ true) e ((lists_equiv nat_list_eq_equiv).refl c.args.paths.now),
)
