use Rattle.std.proofs.Common.{◌≡◌, ◌∙◌, ◌+◌, ◌*◌, arith, length, slice_index}
use Rattle.std.proofs.lemmas.List.{length-set}
use Rattle.std.specs.Prelude.{Ok}
use Rattle.hex.specs.Hex.{pair_value}
use Rattle.hex.proofs.Pairs.{decode_done, decode_sized-pairs, decode_step}
use Rattle.redo_digest.proofs.DigitLemmas.{pair_read}
use Rattle.redo_digest.proofs.digest.bytes_of.Goals as goal

pub bytes-preserved : goal.bytes-preserved
bytes-preserved c =
    let word = c.args.word.now in
    let i = c.bytes.at in
    let high = c.value_of.result in
    let low = c.value_of-in-bytes.result in
    let size : length c.bytes.bytes ≡ 32 = c.bytes.invariant.0 in
    let pair : pair_value (slice_index word (2 * i)) (slice_index word (2 * i + 1)) (2 * i) ≡ Ok (high * 16 + low) =
    pair_read (slice_index word (2 * i)) (slice_index word (2 * i + 1)) (2 * i) high low c.value_of.ensures.value c.value_of-in-bytes.ensures.value in
    (length-set c.bytes.bytes i (high * 16 + low) ∙ size, decode_step word c.bytes.bytes i (high * 16 + low) (omega arith) (omega arith) pair c.bytes.invariant.1)

pub returns : goal.returns
returns c =
    let size : length c.bytes.bytes ≡ 32 = c.bytes.invariant.0 in
    decode_sized-pairs c.args.word.now 32 (omega arith) (omega arith) ∙
    decode_done c.args.word.now c.bytes.bytes c.bytes.at (omega arith) (omega arith) c.bytes.invariant.1
