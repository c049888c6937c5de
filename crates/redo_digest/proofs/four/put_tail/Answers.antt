use Rattle.std.proofs.Common.{◌≡◌, ℕ, ◌+◌, ◌-◌, ◌*◌, ◌/◌, ◌%◌, ◌^◌, ◌∷◌, ◌++◌, ◌∙◌, ◌≤◌, ap, arith, drop, take, length, length-drop, refl, replicate, sym}
use Rattle.std.proofs.lemmas.List.{drop-append-le, length-replicate, take_all}
use Rattle.std.specs.Int.{to_be_bytes, w64}
use Rattle.sha2.specs.Sha256.{padded_message, padding}
use Rattle.redo_digest.proofs.PaddingLemmas.{pieces_at}
use Rattle.redo_digest.proofs.four.put_tail.Goals as goal

pub returns : goal.returns
returns c =
    let m = c.args.content.now in
    let n = length m in
    let used = n % 64 in
    let zeros = c.padding-zeros.result.now in
    let size = to_be_bytes w64 (n * 8 % 2 ^ 64) in
    let part = drop (n - used) m in
    let cut : n / 64 * 64 ≡ n - used = omega arith in
    let left : length part ≡ used = omega (arith, length-drop (n - used) m) in
    let behind : used + length zeros ≡ length part + length zeros = omega arith in
    let room : length part ≤ n - (n - used) = omega arith in
    let last : take (n - (n - used)) part ≡ part = take_all (n - (n - used)) part room in
    let long : length zeros ≡ length (0x80 ∷ replicate ((119 - used) % 64) 0) = ap length c.padding-zeros.ensures in
    let many = length-replicate {A = ℕ} ((119 - used) % 64) 0 in
    let eight : length size ≡ 8 = refl in
    let whole : 64 * ((used + 72) / 64) ≡ length part + (length zeros + length size) = omega (arith, left, long, many, eight) in
    let front : drop (n - used) (padded_message m) ≡ part ++ padding n = drop-append-le (n - used) m (padding n) (omega arith) in
    rw cut (
    pieces_at c.args.tail.now part zeros size _ _ _ used (used + length zeros) _ _ _ (64 * ((used + 72) / 64)) (sym left) behind
    (c.copy_from_slice.ensures.after ∙ last) c.copy_from_slice-2.ensures.after (c.copy_from_slice-3.ensures.after ∙ c.to_be_bytes.ensures) whole
    ∙ ap (λ z. part ++ (z ++ size)) c.padding-zeros.ensures ∙ sym front)
