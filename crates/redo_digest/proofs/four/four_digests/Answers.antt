use Rattle.std.proofs.Common.{◌≡◌, ℕ, [], ◌∷◌, ◌+◌, ◌<◌, ◌∙◌, ap, arith, length, slice_index_or}
use Rattle.std.specs.Prelude.{◌==◌, if◌then◌else◌, slice_index}
use Rattle.sha2.specs.Sha256.{digest_bytes}
use Rattle.redo_digest.specs.Digest.{blocks_for, one_of}
use Rattle.redo_digest.specs.inside.Blocks.{block_of}
use Rattle.redo_digest.specs.inside.Lanes.{eight}
use Rattle.redo_digest.proofs.LaneLemmas.{below_four}
use Rattle.redo_digest.proofs.PaddingLemmas.{lane_first, lane_next}
use Rattle.redo_digest.proofs.four.four_digests.Goals as goal

pub each-init : goal.each-init
each-init c j lt = lane_first _ _ _ (c.initial.ensures j lt)

pub each-preserved : goal.each-preserved
each-preserved c j lt =
    let k = c.each.block in
    let a = c.args.a.now in
    let b = c.args.b.now in
    let third = c.args.c.now in
    let d = c.args.d.now in
    let m = one_of a b third d j in
    let counts = c.blocks_of.result ∷ c.blocks_of-2.result ∷ c.blocks_of-3.result ∷ c.blocks_of-4.result ∷ [] in
    let counted : slice_index counts j ≡ blocks_for (length m) =
    below_four (λ j. slice_index counts j ≡ blocks_for (length (one_of a b third d j)))
    c.blocks_of.ensures c.blocks_of-2.ensures c.blocks_of-3.ensures c.blocks_of-4.ensures j lt in
    let blocks = one_of c.block_at.result.now c.block_at-in-each.result.now c.block_at-in-each-2.result.now c.block_at-in-each-3.result.now in
    let made = slice_index_or c.each.made j [] in
    let next = eight j c.compress.new.state in
    lane_next m (eight j c.each.state) next made (slice_index_or c.keep_ended.new.made j []) (blocks j) k (c.each.invariant j lt)
    (below_four (λ j. k < blocks_for (length (one_of a b third d j)) → blocks j ≡ block_of (one_of a b third d j) k)
    c.block_at.ensures.block c.block_at-in-each.ensures.block c.block_at-in-each-2.ensures.block c.block_at-in-each-3.ensures.block j lt)
    (c.compress.ensures j lt)
    (c.keep_ended.ensures j lt ∙ ap (λ count. if count == k + 1 then digest_bytes next 8 else made) counted)

pub returns : goal.returns
returns c j lt =
    let a = c.args.a.now in
    let b = c.args.b.now in
    let third = c.args.c.now in
    let d = c.args.d.now in
    let counts = c.blocks_of.result ∷ c.blocks_of-2.result ∷ c.blocks_of-3.result ∷ c.blocks_of-4.result ∷ [] in
    let counted : slice_index counts j ≡ blocks_for (length (one_of a b third d j)) =
    below_four (λ j. slice_index counts j ≡ blocks_for (length (one_of a b third d j)))
    c.blocks_of.ensures c.blocks_of-2.ensures c.blocks_of-3.ensures c.blocks_of-4.ensures j lt in
    let most = c.most_of-block-end.ensures j lt in
    (c.each.invariant j lt).ended (omega (arith, counted, most))
