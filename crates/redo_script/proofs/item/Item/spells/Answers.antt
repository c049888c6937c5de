use Rattle.std.proofs.Common.{sym, ◌∙◌}
use Rattle.redo_script.proofs.SpelledLemmas.{spelled_bytes}
use Rattle.redo_script.proofs.item.Item.spells.Goals as goal

pub returns-in-Lent : goal.returns-in-Lent
returns-in-Lent c = rw c.in-Lent.is (c.eq.ensures ∙ sym (spelled_bytes c.in-Lent.bytes.now c.args.name.now))
