use Rattle.std.proofs.Common.{arith, sym}
use Rattle.std.proofs.lemmas.Grind.{common_steps}
use Rattle.redo_bundle.proofs.LineLemmas.{size_too_large}
use Rattle.redo_bundle.proofs.reading.read_size.Goals as goal

pub returns-then-sum-gt-LARGEST_FILE : goal.returns-then-sum-gt-LARGEST_FILE
returns-then-sum-gt-LARGEST_FILE c = sym (size_too_large c.args.digits.now c.loop-digit.digit-index c.loop-digit.sum (grind (arith, common_steps)) c.loop-digit.invariant.number (let e = c.saturating_sub.ensures in grind (arith, common_steps)))
