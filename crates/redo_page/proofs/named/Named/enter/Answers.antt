use Rattle.std.proofs.Common.{rules}
use Rattle.redo_page.proofs.NamedLemmas.{one-more}
use Rattle.redo_page.proofs.named.Named.enter.Goals as goal

pub returns-in_ok-insert-clause-numbered : goal.returns-in_ok-insert-clause-numbered
returns-in_ok-insert-clause-numbered c = λ are.
    one-more c.args.self.now.count c.args.self.now.others c.insert.new.self c.in_ok-clone.field-0 c.in_ok-number.number
    (search rules) (search rules) are
