use Rattle.std.proofs.Common.{◌≡◌, ◌∙◌, ◌<◌, ◌-◌, Some, inl, inr, length, slice_get, slice_index, refl, subst, sym, take, drop, ap}
use Rattle.std.proofs.lemmas.List.{take_rest}
use Rattle.redo_rings.specs.inside.Walks.{IsClosed, IsIn}
use Rattle.redo_rings.proofs.CircleLemmas.{in-drop}
use Rattle.redo_rings.proofs.WalkLemmas.{in-index}
use Rattle.redo_rings.proofs.walks.place_of.Goals as goal

pub close-requires-clause-within : goal.close-requires-clause-within
close-requires-clause-within c = λ n is.
    let from = c.in-Some-place_in.from in
    let whole = c.deref-in-Some-place_in.result.now in
    let part = subst (λ l. IsIn l n) (take_rest whole from) is in
    c.requires.numbers n (subst (λ l. IsIn l n) c.deref-in-Some-place_in.ensures.value (in-drop whole from n part))

pub returns-in_ok-close-in-Some-place_in : goal.returns-in_ok-close-in-Some-place_in
returns-in_ok-close-in-Some-place_in c =
    let from = c.in-Some-place_in.from in
    let first = c.in_ok-close-in-Some-place_in.field-0 in
    let whole = c.deref-in-Some-place_in.result.now in
    let ns = c.args.way.now.numbers.items in
    let part : take (length whole - from) (drop from whole) ≡ drop from ns =
    take_rest whole from ∙ ap (drop from) c.deref-in-Some-place_in.ensures.value in
    inr (inr (
      c.in-Some.end,
      from,
      first,
      c.in-Some.is,
      subst (λ l. slice_get l from ≡ Some c.in-Some.end) c.deref.ensures.value c.in-Some-place_in.ensures,
      refl,
      subst (λ l. IsClosed l c.args.circles.now c.close.new.circles first) part c.in_ok-close-in-Some-place_in.ensures,
    ))

pub returns-in-None : goal.returns-in-None
returns-in-None c =
    inr (inl (
      c.in-Some.end,
      c.in-Some.is,
      (λ is.
          let at = in-index c.args.way.now.numbers.items c.in-Some.end is in
          let xs = c.deref.result.now in
          let same = c.deref.ensures.value in
          let under : at.0 < length xs = subst (λ l. at.0 < length l) (sym same) at.1 in
          c.in-None.ensures at.0 under (ap (λ l. slice_index l at.0) same ∙ at.2)),
      refl,
      refl,
    ))
