use Rattle.std.proofs.Common.{◌∙◌, codes}
use Rattle.redo_clean.proofs.TextLemmas.{as-line}
use Rattle.redo_clean.proofs.text.push_planned.Goals as goal

pub returns : goal.returns
returns c = c.in_ok-push_line.ensures ∙ as-line c.args.text.now.items (codes "would remove ") c.args.path.now (codes "\n")
