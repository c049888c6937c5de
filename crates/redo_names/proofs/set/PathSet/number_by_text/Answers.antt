use Rattle.std.proofs.Common.{◌∙◌, inl, inr, refl, subst}
use Rattle.redo_names.specs.inside.Index.{IsAbsent, IsSpot}
use Rattle.redo_names.proofs.PathLemmas.{absent-among}
use Rattle.redo_names.proofs.set.PathSet.number_by_text.Goals as goal

pub returns-in-Few : goal.returns-in-Few
returns-in-Few c =
    let paths = c.deref.result.now in
    let text = c.args.text.now in
    let none : IsAbsent paths text = elim c.in-Few.is [
      | inl few ↦ (subst (IsSpot c.self.inside.index paths text) few c.look.ensures).0
      | inr (inl free) ↦ (subst (IsSpot c.self.inside.index paths text) free.2 c.look.ensures).0
      | inr (inr over) ↦ (subst (IsSpot c.self.inside.index paths text) over c.look.ensures).0
    ] in
    absent-among paths c.args.self.now text text (c.deref.ensures.value ∙ c.self.view_is) refl none
