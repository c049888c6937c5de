use Rattle.std.proofs.Common.{◌≡◌, refl, ap, ◌∙◌}
use Rattle.redo_core.specs.Views.{FactView}
use Rattle.redo_core.specs.inside.Works.{more_known}
use Rattle.redo_core.proofs.GainSteps.{adds-few, adds-more, more-told}
use Rattle.redo_core.proofs.facts.Facts.add.Goals as goal

pub returns-then-len-lt-FEW : goal.returns-then-len-lt-FEW
returns-then-len-lt-FEW c = adds-few c.args.fact c.args.self.now _ refl refl c.in_ok-push.ensures.items

pub returns-in_ok-insert-in-Some : goal.returns-in_ok-insert-in-Some
returns-in_ok-insert-in-Some c =
    let key : c.in_ok-target.target ≡ c.args.fact.value.target =
    c.in_ok-target.ensures.cases ∙ c.target.ensures ∙ ap (λ (f : FactView). f.target) c.read.ensures in
    adds-more c.args.fact c.args.self.now _ refl refl
    (more-told c.args.fact c.in_ok-target.target key (more_known c.args.self.now.more) c.deref_mut.result.now c.insert.new.self
    (rw c.in-Some.is (rw c.deref_mut.ensures.value refl)) c.in_ok-insert-in-Some.ensures.updates)
