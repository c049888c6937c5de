use Rattle.redo_page.proofs.NamedLemmas.{keeps-on}
use Rattle.redo_page.proofs.named.Named.enter_row.Goals as goal

pub returns-clause-kept : goal.returns-clause-kept
returns-clause-kept c =
    keeps-on c.args.self.now c.enter_changes.new.self c.enter_missing.new.self c.in_ok-enter_changes.ensures.kept
    c.in_ok-enter_missing.ensures.kept
