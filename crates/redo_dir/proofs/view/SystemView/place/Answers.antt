use Rattle.std.proofs.Common.{◌∙◌, ap, ap₂}
use Rattle.std.specs.Path.{path_join}
use Rattle.redo_dir.proofs.ReadingLemmas.{joined-to-nothing}
use Rattle.redo_dir.proofs.view.SystemView.place.Goals as goal

pub returns-clause-place : goal.returns-clause-place
returns-clause-place g c =
    let top = c.args.self.now.top.now in
    let base = c.in_ok-push.ensures.ok ∙ ap (λ b. path_join b top) c.in_ok-place.ensures.path ∙ joined-to-nothing top in
    let text = c.in-Ok.ensures.cases.0 ∙ c.text.ensures.text in
    c.in_ok-push-2.ensures.ok ∙ ap₂ path_join base text
