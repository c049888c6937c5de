use Rattle.std.proofs.Common.{◌∙◌}
use Rattle.redo_page.proofs.LinkLemmas.{same-users}
use Rattle.redo_page.proofs.links.Links.of.Goals as goal

pub returns-clause-users : goal.returns-clause-users
returns-clause-users c = λ m within.
    c.in_ok-users.ensures m within
    ∙ same-users c.in_ok-numbers.numbers c.args.rows.now m c.in_ok-numbers.ensures
