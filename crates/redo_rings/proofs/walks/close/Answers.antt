use Rattle.std.proofs.Common.{◌≡◌, ◌<◌, rules, length, slice_index_or, refl, subst, sym}
use Rattle.std.proofs.lemmas.List.{get_or_read}
use Rattle.redo_rings.proofs.CircleLemmas.{turned-first, turned-long}
use Rattle.redo_rings.proofs.walks.close.Goals as goal

pub bounds-circles-first : goal.bounds-circles-first
bounds-circles-first c =
    let ns = c.args.numbers.now in
    let ms = c.in_ok-circle.circle.members.items in
    let is : c.index-first.result.now ≡ slice_index_or ms 0 0 = get_or_read ms 0 c.index-first.result.now (turned-long ns ms c.in_ok-circle.ensures) c.index-first.ensures 0 in
    let under = c.requires.within (slice_index_or ms 0 0) (turned-first ns ms c.in_ok-circle.ensures) in
    subst (λ n. n < length c.args.circles.now) (sym is) under

pub offset_bounds-circles-first : goal.offset_bounds-circles-first
offset_bounds-circles-first c =
    let ns = c.args.numbers.now in
    let ms = c.in_ok-circle.circle.members.items in
    let is : c.index-first.result.now ≡ slice_index_or ms 0 0 = get_or_read ms 0 c.index-first.result.now (turned-long ns ms c.in_ok-circle.ensures) c.index-first.ensures 0 in
    let under = c.requires.within (slice_index_or ms 0 0) (turned-first ns ms c.in_ok-circle.ensures) in
    let within : c.index-first.result.now < length c.args.circles.now = subst (λ n. n < length c.args.circles.now) (sym is) under in
    search rules

pub returns : goal.returns
returns c =
    let ns = c.args.numbers.now in
    let circle = c.in_ok-circle.circle in
    let ms = circle.members.items in
    (circle, c.in_ok-circle.ensures, get_or_read ms 0 c.index-first.result.now (turned-long ns ms c.in_ok-circle.ensures) c.index-first.ensures 0, refl)
