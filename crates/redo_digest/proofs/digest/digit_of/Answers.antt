use Rattle.std.proofs.Common.{arith}
use Rattle.redo_digest.proofs.DigitLemmas.{digit_code}
use Rattle.redo_digest.proofs.digest.digit_of.Goals as goal

pub returns-then-value-lt10 : goal.returns-then-value-lt10
returns-then-value-lt10 c = rw (digit_code c.args.value (omega arith)) (grind (arith))

pub returns-else-value-lt10 : goal.returns-else-value-lt10
returns-else-value-lt10 c = rw (digit_code c.args.value (omega arith)) (grind (arith))
