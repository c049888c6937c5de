use Rattle.std.proofs.Common.{◌≡◌, ◌∙◌, ◌-◌, ◌++◌, ap, drop, take, length}
use Rattle.std.proofs.lemmas.List.{take_rest}
use Rattle.redo_rings.proofs.PlaceLemmas.{least-in}
use Rattle.redo_rings.proofs.walks.turned.Goals as goal

pub returns : goal.returns
returns c =
    let ns = c.args.numbers.now in
    let i = c.least_place-least.result in
    let front : c.extend_from_slice.new.self.items ≡ drop i ns =
    c.in_ok-extend_from_slice.ensures.items ∙ ap (λ l. l ++ take (length ns - i) (drop i ns)) c.in_ok-members.ensures.items ∙ take_rest ns i in
    let whole = c.in_ok-extend_from_slice-2.ensures.items ∙ ap (λ l. l ++ take i ns) front in
    (i, c.least_place-least.ensures.within, whole, least-in ns i c.least_place-least.ensures.least)
