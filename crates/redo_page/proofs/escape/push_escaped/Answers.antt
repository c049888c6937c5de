use Rattle.std.proofs.Common.{length, rules}
use Rattle.redo_page.specs.Html.{shown}
use Rattle.redo_page.specs.inside.Forms.{stands_for}
use Rattle.redo_page.proofs.EscapeLemmas.{none-left, one-chunk}
use Rattle.redo_page.proofs.escape.push_escaped.Goals as goal

pub loop-chunk-init : goal.loop-chunk-init
unfolding shown
loop-chunk-init c = (length c.args.bytes.now, search rules, search rules)

pub loop-chunk-preserved : goal.loop-chunk-preserved
loop-chunk-preserved c =
    let steps = c.in-Some.ensures.steps in
    let before = c.loop-chunk.invariant in
    one-chunk (stands_for c.args.form) before.0 c.loop-chunk.out.items _ _ _ _ _ c.push_broken.new.out.items steps.0 steps.3.0 steps.3.1 steps.1 before.1 before.2 (search rules)

pub returns : goal.returns
returns c =
    let before = c.loop-chunk.invariant in
    none-left (stands_for c.args.form) before.0 _ _ _ c.in-None.ensures.steps.0 before.2
