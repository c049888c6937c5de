use Rattle.std.proofs.Common.{◌<◌, length, arith, take}
use Rattle.std.proofs.lemmas.List.{get_or_read, length-take-le}
use Rattle.std.proofs.lemmas.List.Sums.{count_by-le-length}
use Rattle.redo_rings.specs.inside.Found.{is_at}
use Rattle.redo_rings.proofs.finding.counts.Goals as goal

pub overflow_add-index_mut : goal.overflow_add-index_mut
overflow_add-index_mut c =
    let first = c.in-Some.first in
    let i = c.loop-place.place-index in
    let counts = c.loop-place.counts.items in
    let below = c.requires i first c.in-Some.is in
    let under : first < length counts = omega (arith, below, c.loop-place.invariant.0) in
    let is = get_or_read counts first c.index_mut.result.now under c.index_mut.ensures.value 0 in
    let count = c.loop-place.invariant.1 first in
    let few = count_by-le-length (is_at first) (take i c.args.places.now) in
    let many = length-take-le i c.args.places.now (omega arith) in
    omega (arith, is, count, few, many)
