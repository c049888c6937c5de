use Rattle.std.proofs.Common.{rules, sym}
use Rattle.redo_digest.proofs.DigitLemmas.{digits_are_read, other_is_none, other_size_is_none}
use Rattle.redo_digest.proofs.digest.Digest.from_hex.Goals as goal

pub returns-then-word-ne-DIGITS-clause-value : goal.returns-then-word-ne-DIGITS-clause-value
returns-then-word-ne-DIGITS-clause-value c = sym (other_size_is_none c.args.word.now c.if-word-ne-DIGITS.true)

pub returns-then-has_other-clause-value : goal.returns-then-has_other-clause-value
returns-then-has_other-clause-value c = search (rules, other_is_none)

pub returns-clause-value : goal.returns-clause-value
returns-clause-value c = search (rules, digits_are_read)
