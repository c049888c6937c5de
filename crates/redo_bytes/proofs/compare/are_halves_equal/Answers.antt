use Rattle.std.proofs.Common.{◌∙◌, nat_eq}
use Rattle.redo_bytes.proofs.CompareLemmas.{equal-halves}
use Rattle.redo_bytes.proofs.compare.are_halves_equal.Goals as goal

pub returns : goal.returns
returns c = (λ i. nat_eq (c.from_be_bytes.ensures i) (c.from_be_bytes-2.ensures i)) ∙ equal-halves c.args.left.now c.args.right.now c.told-left c.told-right c.fits-left c.fits-right
