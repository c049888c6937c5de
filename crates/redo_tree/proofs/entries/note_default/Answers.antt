use Rattle.std.proofs.Common.{◌∙◌, nat_eq, sym, subst}
use Rattle.std.proofs.lemmas.Map.Keys.{any_passes_from_place}
use Rattle.std.specs.Cmp.Lexicographic.{nat_list_eq_equiv, pointwise}
use Rattle.std.specs.Prelude.{IfSome}
use Rattle.redo_tree.specs.Tree.{IsNoted}
use Rattle.redo_tree.proofs.entries.note_default.Goals as goal

pub returns-in_ok-insert-clause-noted : goal.returns-in_ok-insert-clause-noted
returns-in_ok-insert-clause-noted c =
    let dir = c.in-Some.dir in
    let dirs = c.insert.new.self in
    subst (λ o. IfSome o (IsNoted dirs)) (sym c.in-Some.is ∙ c.in_ok-dir.ensures)
    (any_passes_from_place (pointwise nat_eq dir) dirs c.in_ok-insert.field-0.0 dir c.in_ok-insert.ensures.number (nat_list_eq_equiv.refl dir))
