use Rattle.std.proofs.Common.{◌+◌, ◌-◌, ◌*◌, ◌/◌, ◌%◌, arith, length}
use Rattle.redo_digest.proofs.PaddingLemmas.{tail_block, whole_block}
use Rattle.redo_digest.proofs.four.block_at.Goals as goal

pub returns-then-number-whole-clause-block : goal.returns-then-number-whole-clause-block
returns-then-number-whole-clause-block c = λ inside. whole_block c.args.content.now c.args.number (64 * c.args.number + 64 - 64 * c.args.number) (omega arith) (omega arith)

pub returns-clause-block : goal.returns-clause-block
returns-clause-block c = λ inside.
    let m = c.args.content.now in
    let place = 64 * ((c.args.number - length m / 64) % 2) in
    tail_block m c.args.tail.now c.args.number ((c.args.number - length m / 64) % 2) place (place + 64 - place) c.requires (omega arith) inside (omega arith) (omega arith)
