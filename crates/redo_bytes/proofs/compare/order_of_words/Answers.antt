use Rattle.std.proofs.Common.{◌∙◌}
use Rattle.std.specs.Ordering.{nat_cmp}
use Rattle.redo_bytes.proofs.CompareLemmas.{order-words}
use Rattle.redo_bytes.proofs.compare.order_of_words.Goals as goal

pub returns : goal.returns
returns c = c.cmp.ensures ∙ (λ i. nat_cmp (c.from_be_bytes.ensures i) (c.from_be_bytes-2.ensures i)) ∙ order-words c.args.left.now c.args.right.now c.told-left c.told-right c.fits-left c.fits-right
