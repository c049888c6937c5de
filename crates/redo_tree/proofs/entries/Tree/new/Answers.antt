use Rattle.std.proofs.Common.{◌≡◌, ◌∙◌, ◌++◌, ◌∷◌, [], ap, subst, sym}
use Rattle.std.specs.Map.{lookup}
use Rattle.std.specs.Prelude.{bytes_eq}
use Rattle.redo_tree.specs.declared.entries.Entry.TheVariants.{Directory}
use Rattle.redo_tree.specs.Tree.{IsKept}
use Rattle.redo_tree.proofs.KeptLemmas.{IsKept-top}
use Rattle.redo_tree.proofs.entries.Tree.new.Goals as goal

pub invariant_of-result : goal.invariant_of-result
invariant_of-result c =
    let empty = c.new-entries.ensures in
    let only : c.insert.new.self ≡ ([], Directory) ∷ [] =
    c.in_ok-insert.ensures.new (ap (lookup (bytes_eq c.root.result)) empty) ∙ (λ i. empty i ++ (c.root.ensures i, Directory) ∷ []) in
    subst (λ es. IsKept es c.new.result) (sym only) (subst (IsKept (([], Directory) ∷ [])) (sym c.new.ensures) IsKept-top)
