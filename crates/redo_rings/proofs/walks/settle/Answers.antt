use Rattle.std.proofs.Common.{◌<◌, rules, arith, length, slice_index_or}
use Rattle.redo_rings.proofs.PlaceLemmas.{noted-more, others-more}
use Rattle.redo_rings.proofs.WalkLemmas.{index-in}
use Rattle.redo_rings.proofs.walks.settle.Goals as goal

pub bounds-places-number : goal.bounds-places-number
bounds-places-number c =
    let i = c.loop-number.number-index in
    let within = c.requires (slice_index_or c.args.numbers.now i 0) (index-in c.args.numbers.now i c.loop-number-test.true) in
    omega (arith, within, c.loop-number.auto.places)

pub offset_bounds-places-number : goal.offset_bounds-places-number
offset_bounds-places-number c =
    let i = c.loop-number.number-index in
    let within : slice_index_or c.args.numbers.now i 0 < length c.args.places.now =
    c.requires (slice_index_or c.args.numbers.now i 0) (index-in c.args.numbers.now i c.loop-number-test.true) in
    search rules

pub loop-number-preserved : goal.loop-number-preserved
loop-number-preserved c =
    let i = c.loop-number.number-index in
    let ns = c.args.numbers.now in
    let within : slice_index_or ns i 0 < length c.args.places.now = c.requires (slice_index_or ns i 0) (index-in ns i c.loop-number-test.true) in
    let places = c.loop-number.places in (
      noted-more places ns c.args.place i c.loop-number-test.true (omega (arith, within, c.loop-number.auto.places)) c.loop-number.invariant.0,
      others-more places ns c.args.place c.args.places.now i c.loop-number-test.true c.loop-number.invariant.1,
    )
