use Rattle.std.proofs.Common.{◌∙◌, ◌≤◌, arith, length, refl, rules}
use Rattle.redo_script.specs.declared.lexer.Mode.TheVariants as modes
use Rattle.std.proofs.lemmas.Grind.{common_steps}
use Rattle.redo_script.proofs.RunLemmas.{comment_on_to, comment_over}
use Rattle.redo_script.proofs.spans.past_comment.Goals as goal

pub loop-left-preserved : goal.loop-left-preserved
loop-left-preserved c = record {
  reads = comment_on_to c.loop-left.left.now c.args.text.now c.in-len1-up.len_at_least c.if-byte-ne10.true c.loop-left.invariant.reads;
  within = grind (arith, common_steps);
}

pub returns-then-left-lt1-clause-gap : goal.returns-then-left-lt1-clause-gap
returns-then-left-lt1-clause-gap c =
    let none : length c.loop-left.left.now ≤ 0 = search rules in
    λ r m. comment_over c.loop-left.left.now (λ some. absurd (omega (arith, some, none))) r m ∙ c.loop-left.invariant.reads (record r { mode = modes.Comment }) refl

pub returns-else-byte-ne10-clause-gap : goal.returns-else-byte-ne10-clause-gap
returns-else-byte-ne10-clause-gap c = λ r m. comment_over c.loop-left.left.now (λ some. c.if-byte-ne10.false) r m ∙ c.loop-left.invariant.reads (record r { mode = modes.Comment }) refl
