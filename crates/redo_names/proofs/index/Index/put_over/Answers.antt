use Rattle.std.proofs.Common.{◌≡◌}
use Rattle.redo_names.proofs.OverLemmas.{others-stay}
use Rattle.redo_names.proofs.index.Index.put_over.Goals as goal

pub returns-clause-others : goal.returns-clause-others
returns-clause-others c = λ other n h.
    let stay = others-stay other c.in_ok-text.text c.args.number n c.args.self.now.overflow.entries h in
    let text : c.in_ok-text.text.items ≡ c.args.text.now = c.in_ok-text.ensures.items in
    rw (c.in_ok-insert.ensures.entries, ← text) stay
