use Rattle.std.proofs.Common.{◌∙◌, rules}
use Rattle.redo_page.proofs.NoteLemmas.{all-of-most}
use Rattle.redo_page.proofs.notes.all_lines.Goals as goal

pub returns : goal.returns
returns c =
    c.in_ok-text.ensures
    ∙ all-of-most c.args.notes.now c.len.result c.len-2.result c.len-3.result c.max.result c.max-most.result (search rules)
    (search rules) (search rules) c.max.ensures c.max-most.ensures
