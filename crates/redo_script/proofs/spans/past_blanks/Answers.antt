use Rattle.std.proofs.Common.{sym, ◌∙◌, arith}
use Rattle.std.proofs.lemmas.Grind.{common_steps}
use Rattle.redo_script.proofs.RunLemmas.{blanks_on}
use Rattle.redo_script.proofs.spans.past_blanks.Goals as goal

pub loop-left-preserved : goal.loop-left-preserved
loop-left-preserved c = record {
  reads = blanks_on c.loop-left.left.now c.args.text.now c.in-len1-up.len_at_least (sym c.is_blank_byte.ensures ∙ c.if-is_blank_byte.true) c.loop-left.invariant.reads;
  within = grind (arith, common_steps);
}
