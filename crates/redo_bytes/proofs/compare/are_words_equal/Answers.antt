use Rattle.std.proofs.Common.{◌∙◌, nat_eq}
use Rattle.redo_bytes.proofs.CompareLemmas.{equal-words}
use Rattle.redo_bytes.proofs.compare.are_words_equal.Goals as goal

pub returns : goal.returns
returns c = (λ i. nat_eq (c.from_be_bytes.ensures i) (c.from_be_bytes-2.ensures i)) ∙ equal-words c.args.left.now c.args.right.now c.told-left c.told-right c.fits-left c.fits-right
