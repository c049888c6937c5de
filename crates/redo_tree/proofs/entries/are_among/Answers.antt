use Rattle.std.proofs.Common.{◌<◌, arith, nat_eq, refl, subst, sym}
use Rattle.std.proofs.lemmas.Map.Entries.{place_from_lookup}
use Rattle.std.proofs.lemmas.Option.{slice_get_within}
use Rattle.std.specs.Cmp.Lexicographic.{pointwise, same_text}
use Rattle.redo_tree.specs.Tree.{HasEntry}
use Rattle.redo_tree.proofs.entries.are_among.Goals as goal

pub returns : goal.returns
returns c = (
  λ yes path entry h.
      let es = c.args.entries.now in
      let place = place_from_lookup (pointwise nat_eq path) es entry h in
      let inside = slice_get_within es place.0 (place.1, entry) place.2 in
      let before : place.0 < c.entries.number = omega arith in
      subst (λ p. HasEntry c.args.others.now p entry) (sym (same_text path place.1 (sym place.3))) (c.entries.invariant place.0 (place.1, entry) before place.2),
  λ all. refl,
)
