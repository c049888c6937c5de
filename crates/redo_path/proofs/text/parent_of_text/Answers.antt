use Rattle.std.proofs.Common.{◌<◌, subst, arith, length, take, ap, ◌∙◌, sym, [], ◌∷◌, ◌++◌}
use Rattle.std.proofs.lemmas.Grind.{common_steps}
use Rattle.redo_path.specs.Names.{IsName, IsPath, names}
use Rattle.redo_path.proofs.PartLemmas.{AllByRecursion-up, parent_of-start, names-parent, name_of-start}
use Rattle.redo_path.proofs.text.parent_of_text.Goals as goal

pub returns-clause-text : goal.returns-clause-text
returns-clause-text c =
    let text = c.args.text.now in
    let some : 0 < length text = grind (arith, common_steps) in
    parent_of-start text _ _ c.name_start.ensures some (ap (λ n. take n text) c.saturating_sub-end.ensures)

pub returns-clause-path : goal.returns-clause-path
returns-clause-path c =
    let text = c.args.text.now in
    subst (λ n. IsPath (take n text)) (sym c.saturating_sub-end.ensures) (record {
      each = AllByRecursion-up IsName text _ c.name_start.ensures c.requires.each;
      short = let h = c.requires.short in grind (arith, common_steps);
    })

pub returns-clause-names : goal.returns-clause-names
returns-clause-names c =
    let text = c.args.text.now in
    let some : 0 < length text = grind (arith, common_steps) in
    names-parent text _ c.name_start.ensures c.requires.each some
    ∙ (λ i. names (take (sym c.saturating_sub-end.ensures i) text) ++ sym (name_of-start text _ c.name_start.ensures) i ∷ [])
