use Rattle.std.proofs.Common.{sym, subst}
use Rattle.std.specs.Prelude.{OnOk}
use Rattle.redo_rules.specs.Results.{IsGiven}
use Rattle.redo_run.specs.inside.Workers.{OwnerView, HasKeptUp, NeedsMany}
use Rattle.redo_run.proofs.owner.Owner.advance_claimed.Goals as goal

pub hand_in-requires-clause-of_build : goal.hand_in-requires-clause-of_build
hand_in-requires-clause-of_build g c =
    let Of : OwnerView → Type 0 = λ d. IsGiven g.B.BuildBrand.tree g.B.BuildBrand.request g.B.BuildBrand.limits d.board.given in
    subst Of (sym c.self.view_is) c.requires.of_build

pub returns-clause-kept_up : goal.returns-clause-kept_up
returns-clause-kept_up g c =
    let P : OwnerView → Type 0 = λ d. OnOk c.hand_in.result (HasKeptUp d c.hand_in.new.self) in
    subst P c.self.view_is c.hand_in.ensures.kept_up

pub returns-clause-too_many : goal.returns-clause-too_many
returns-clause-too_many g c = λ is. subst NeedsMany c.self.view_is (c.hand_in.ensures.too_many is)
