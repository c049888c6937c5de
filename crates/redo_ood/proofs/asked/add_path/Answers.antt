use Rattle.std.proofs.Common.{◌≡◌, ◌∷◌, [], rules, subst, sym}
use Rattle.redo_names.specs.Paths.{with_path}
use Rattle.redo_ood.specs.Listing.{changed}
use Rattle.redo_ood.specs.inside.Resting.{IsGrown}
use Rattle.redo_ood.proofs.RestingLemmas.{grown-one}
use Rattle.redo_ood.proofs.asked.add_path.Goals as goal

pub returns-in_ok-insert-in-Change : goal.returns-in_ok-insert-in-Change
returns-in_ok-insert-in-Change c =
    let x = c.in-Change.path in
    let put : c.insert.new.self ≡ with_path c.args.found.now x = search rules in
    let of : changed c.args.entry.now ≡ x ∷ [] = search rules in
    subst (IsGrown c.args.found.now (changed c.args.entry.now)) (sym put)
    (subst (λ ps. IsGrown c.args.found.now ps (with_path c.args.found.now x)) (sym of) (grown-one c.args.found.now x))
