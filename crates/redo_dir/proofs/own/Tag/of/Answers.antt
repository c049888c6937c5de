use Rattle.std.proofs.Common.{◌≡◌, ◌∙◌, ◌++◌, ap, codes, sym, take}
use Rattle.hex.specs.Hex.{encode_lower}
use Rattle.sha2.specs.Sha256.{sha256}
use Rattle.redo_dir.specs.Own.{temporary_front}
use Rattle.redo_dir.proofs.OwnLemmas.{digits_of_front}
use Rattle.redo_dir.proofs.own.Tag.of.Goals as goal

pub invariant_of-result : goal.invariant_of-result
invariant_of-result c =
    let front = take 4096 c.args.text.now in
    let of : c.front_of.result.now ≡ front = c.front_of.ensures ∙ ap (take 4096) c.bytes.ensures in
    let bytes : c.bytes-2.result.now ≡ sha256 front = c.bytes-2.ensures.bytes ∙ c.of-digest.ensures.sha256 ∙ ap sha256 of in
    let digits : c.deref.result.now ≡ take 16 (encode_lower (sha256 front)) =
    c.deref.ensures ∙ c.in_ok-digits.ensures ∙ ap (λ bs. encode_lower (take 8 bs)) bytes ∙ digits_of_front (sha256 front) in
    c.in_ok-front.ensures ∙ ap (λ ds. codes ".redo-" ++ ds ++ codes "-") digits ∙ ap temporary_front (sym c.in_ok-text.ensures.cases)
