use Rattle.std.proofs.Common.{◌≡◌, ◌+◌, ◌∙◌, ◌++◌, ◌∷◌, [], ap, sym, subst, take}
use Rattle.std.proofs.lemmas.List.{take_all, take_more}
use Rattle.redo_names.specs.inside.Index.{IsIndexOf}
use Rattle.redo_names.proofs.index.Index.of.Goals as goal

pub paths-preserved : goal.paths-preserved
paths-preserved c =
    let paths = c.args.paths.now in
    let number = c.paths.number in
    let next : take (number + 1) paths ≡ take number paths ++ c.text.result.now ∷ [] =
    take_more paths number c.index-paths-number.result c.paths-test.true ∙ ap (λ t. take number paths ++ t ∷ []) (sym (c.text.ensures.text ∙ c.index-paths-number.is)) in
    record { index = subst (IsIndexOf c.enter.new.self) (sym next) c.in_ok-enter.ensures.entered; places = c.in_ok-enter.ensures.places ∙ c.paths.invariant.places }

pub returns-clause-index : goal.returns-clause-index
returns-clause-index c = subst (IsIndexOf c.paths.index) (take_all c.paths.number c.args.paths.now c.paths-test.false) c.paths.invariant.index
