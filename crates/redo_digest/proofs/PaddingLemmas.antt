-- A content with its padding, block by block.
use Rattle.std.proofs.Common.{◌≡◌, ℕ, ◌<◌, ◌≤◌, ◌+◌, ◌-◌, ◌*◌, ◌/◌, ◌%◌, ◌^◌, Bool, true, false, if◌then◌else◌, List, ◌++◌, length, take, drop, replicate, arith, refl, sym, ap, ap₂, ◌∙◌, length-append, length-drop}
use Rattle.std.proofs.lemmas.Bool.{eq-eqb, eqb-true}
use Rattle.std.proofs.lemmas.List.{append_assoc, drop-append-le, drop-drop, drop-take, length-replicate, take-append-le, take-take}
use Rattle.std.proofs.lemmas.Slice.{take-put_mid}
use Rattle.std.specs.Int.{to_be_bytes, w64}
use Rattle.std.specs.Prelude.{◌==◌}
use Rattle.sha2.specs.Sha256.{compress, hash_after, padded_message, padding, sha256, digest_bytes, initial_hash_256}
use Rattle.sha2.proofs.Absorbing256.{hash_after_next}
use Rattle.redo_digest.specs.Digest.{blocks_for}
use Rattle.redo_digest.specs.inside.Blocks.{IsTail, block_of}
use borrow.Rule.Slice.PartMut.{post_of, put_mid}

-- how long it is
pub length-padded : (m : List ℕ) → length (padded_message m) ≡ 64 * blocks_for (length m)
length-padded m =
    let n = length m in
    let zeros = replicate ((119 - n % 64) % 64) 0 in
    let size = to_be_bytes w64 (n * 8 % 2 ^ 64) in
    let eight : length size ≡ 8 = refl in
    let whole = length-append m (padding n) in
    let behind = length-append zeros size in
    let many = length-replicate {A = ℕ} ((119 - n % 64) % 64) 0 in
    omega (arith, eight, whole, behind, many)

-- three pieces, each put behind the one before
three_pieces : (xs m p s ys zs ws : List ℕ) (i j k e : ℕ) → ys ≡ m → zs ≡ p → ws ≡ s
    → e ≡ length m + (length p + length s)
    → take e (put_mid (length m + length p) k (put_mid (length m) j (put_mid 0 i xs ys) zs) ws) ≡ m ++ (p ++ s)
three_pieces xs m p s ys zs ws i j k e ey ez ew size =
    let one = put_mid 0 i xs ys in
    let two = put_mid (length m) j one zs in
    let ly : length ys ≡ length m = ap length ey in
    let lz : length zs ≡ length p = ap length ez in
    let lw : length ws ≡ length s = ap length ew in
    let l1 : length one ≡ length ys + length (post_of 0 i xs) = length-append ys (post_of 0 i xs) in
    let first : take (length m) one ≡ ys = take-put_mid 0 i xs ys (length m) (omega arith) (omega arith) in
    let l2 : length two ≡ length (take (length m) one) + length (zs ++ post_of (length m) j one) = length-append (take (length m) one) (zs ++ post_of (length m) j one) in
    let l3 : length (zs ++ post_of (length m) j one) ≡ length zs + length (post_of (length m) j one) = length-append zs (post_of (length m) j one) in
    let l4 : length (take (length m) one) ≡ length ys = ap length first in
    let second : take (length m + length p) two ≡ take (length m) one ++ zs = take-put_mid (length m) j one zs (length m + length p) (omega arith) (omega arith) in
    let third : take e (put_mid (length m + length p) k two ws) ≡ take (length m + length p) two ++ ws =
    take-put_mid (length m + length p) k two ws e (omega arith) (omega arith) in
    third ∙ rw (second, first, ey, ez, ew) (append_assoc m p s)

-- the same at places that are known otherwise
pub pieces_at : (xs m p s ys zs ws : List ℕ) (u v i j k e : ℕ) → u ≡ length m → v ≡ length m + length p → ys ≡ m → zs ≡ p → ws ≡ s
    → e ≡ length m + (length p + length s)
    → take e (put_mid v k (put_mid u j (put_mid 0 i xs ys) zs) ws) ≡ m ++ (p ++ s)
pieces_at xs m p s ys zs ws u v i j k e eu ev ey ez ew size = rw (eu, ev) (three_pieces xs m p s ys zs ws i j k e ey ez ew size)

-- a block of the front
pub block_of_front : (p q : List ℕ) (k n w : ℕ) → take n p ≡ q → 64 * k + 64 ≤ n → w ≡ 64
    → take w (drop (64 * k) p) ≡ take 64 (drop (k * 64) q)
block_of_front p q k n w front fits wide =
    let at : k * 64 ≡ 64 * k = omega arith in
    let rest : 64 * k + (n - 64 * k) ≡ n = omega arith in
    let cut : drop (64 * k) q ≡ take (n - 64 * k) (drop (64 * k) p) =
    rw (← front) (rw rest at (drop-take (64 * k) (n - 64 * k) p)) in
    rw (at, cut, wide) (sym (take-take 64 (n - 64 * k) (drop (64 * k) p) (omega arith)))

-- the digest, from the hash value after all blocks
pub digest_after : (m h : List ℕ) (n : ℕ) → n ≡ blocks_for (length m) → h ≡ hash_after initial_hash_256 (padded_message m) n
    → digest_bytes h 8 ≡ sha256 m
unfolding sha256
digest_after m h n all held =
    let blocks : length (padded_message m) / 64 ≡ n = omega (arith, length-padded m) in
    rw (held, blocks) refl

-- a whole block of a content
pub whole_block : (m : List ℕ) (k w : ℕ) → 64 * k + 64 ≤ length m → w ≡ 64 → take w (drop (64 * k) m) ≡ block_of m k
whole_block m k w fits wide =
    let at : k * 64 ≡ 64 * k = omega arith in
    let cut : drop (64 * k) (padded_message m) ≡ drop (64 * k) m ++ padding (length m) = drop-append-le (64 * k) m (padding (length m)) (omega arith) in
    let room : 64 ≤ length (drop (64 * k) m) = omega (arith, length-drop (64 * k) m) in
    rw (at, cut, wide) (sym (take-append-le 64 (drop (64 * k) m) (padding (length m)) room))

-- a block of the tail
pub tail_block : (m tail : List ℕ) (k p n w : ℕ) → IsTail m tail → k ≡ length m / 64 + p → k < blocks_for (length m) → n ≡ 64 * p → w ≡ 64
    → take w (drop n tail) ≡ block_of m k
tail_block m tail k p n w is number inside at wide =
    let whole = length m / 64 in
    let behind : k * 64 ≡ whole * 64 + p * 64 = omega arith in
    rw (at, behind) (
    block_of_front tail (drop (whole * 64) (padded_message m)) p (64 * ((length m % 64 + 72) / 64)) w is (omega arith) wide
    ∙ ap (take 64) (drop-drop (p * 64) (whole * 64) (padded_message m)))

-- Where a lane stands after n blocks: its hash value; and once the content has ended, its digest was kept.
pub record LaneAt (m h made : List ℕ) (n : ℕ) : Type 0 where
  pub taken : n ≤ blocks_for (length m) → h ≡ hash_after initial_hash_256 (padded_message m) n
  pub ended : blocks_for (length m) ≤ n → made ≡ sha256 m

-- before the first block
pub lane_first : (m h made : List ℕ) → h ≡ initial_hash_256 → LaneAt m h made 0
unfolding hash_after
lane_first m h made is = record { taken = λ _. is; ended = λ none. absurd (omega arith) }

false-true : false ≡ true → ⊥
false-true h = cc

-- what was kept when one more block was taken in
ended_next : (m h made new : List ℕ) (n : ℕ) (ends : Bool) → (blocks_for (length m) == n + 1) ≡ ends
    → (n + 1 ≤ blocks_for (length m) → h ≡ hash_after initial_hash_256 (padded_message m) (n + 1))
    → (blocks_for (length m) ≤ n → made ≡ sha256 m) → new ≡ (if ends then digest_bytes h 8 else made)
    → blocks_for (length m) ≤ n + 1 → new ≡ sha256 m
ended_next m h made new n true test taken before is past =
    let last : blocks_for (length m) ≡ n + 1 = eqb-true (blocks_for (length m)) (n + 1) test in
    is ∙ digest_after m h (n + 1) (sym last) (taken (omega arith))
ended_next m h made new n false test taken before is past =
    let other : blocks_for (length m) ≡ n + 1 → ⊥ = λ same. false-true (sym test ∙ eq-eqb (blocks_for (length m)) (n + 1) same) in
    is ∙ before (omega arith)

-- one block more
pub lane_next : (m h next made new block : List ℕ) (n : ℕ) → LaneAt m h made n → (n < blocks_for (length m) → block ≡ block_of m n)
    → next ≡ compress h block → new ≡ (if blocks_for (length m) == n + 1 then digest_bytes next 8 else made) → LaneAt m next new (n + 1)
lane_next m h next made new block n lane at is kept =
    let taken = λ (fits : n + 1 ≤ blocks_for (length m)).
    is ∙ ap₂ compress (lane.taken (omega arith)) (at (omega arith)) ∙ sym (hash_after_next initial_hash_256 (padded_message m) n) in
    record { taken = taken; ended = ended_next m next made new n (blocks_for (length m) == n + 1) refl taken lane.ended kept }
