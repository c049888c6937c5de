use Rattle.std.proofs.Common.{◌≡◌, ◌∙◌, ◌+◌, ◌*◌, arith, length, slice_set}
use Rattle.std.proofs.lemmas.List.{length-set}
use Rattle.hex.specs.Hex.{lower_digits}
use Rattle.hex.proofs.Pairs.{encode_done, encode_step}
use Rattle.redo_digest.proofs.digest.digits_of.Goals as goal

pub bytes-preserved : goal.bytes-preserved
bytes-preserved c =
    let bytes = c.args.bytes.now in
    let digits = c.bytes.digits in
    let i = c.bytes.at in
    let high = c.digit_of.result in
    let low = c.digit_of-in-bytes.result in
    let size : length digits ≡ 64 = c.bytes.invariant.0 in (
      length-set (slice_set digits (2 * i) high) (2 * i + 1) low ∙ length-set digits (2 * i) high ∙ size,
      encode_step lower_digits bytes digits i high low (omega arith) (omega arith) c.digit_of.ensures c.digit_of-in-bytes.ensures c.bytes.invariant.1,
    )

pub returns : goal.returns
returns c = encode_done lower_digits c.args.bytes.now c.bytes.digits c.bytes.at (omega arith) (omega arith) c.bytes.invariant.1
