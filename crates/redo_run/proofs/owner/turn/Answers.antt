use Rattle.std.proofs.Common.{rules, ◌≡◌, Err, subst}
use Rattle.redo_core.specs.declared.board.Stop.TheVariants.{TooMany}
use Rattle.redo_run.specs.inside.Workers.{OwnerView, HasKeptUp, NeedsMany}
use Rattle.redo_run.proofs.owner.turn.Goals as goal

-- a job that no worker has come to is advanced
pub returns-in-Some-clause-kept_up : goal.returns-in-Some-clause-kept_up
returns-in-Some-clause-kept_up g c =
    let P : OwnerView → Type 0 = λ d. HasKeptUp d c.advance_claimed.new.self in
    subst P c.owner-2.view_is c.in_ok-advance_claimed.ensures.kept_up

pub returns-in_err-advance_claimed-clause-too_many : goal.returns-in_err-advance_claimed-clause-too_many
returns-in_err-advance_claimed-clause-too_many g c = λ is.
    let err : c.advance_claimed.result ≡ Err TooMany = search rules in
    subst NeedsMany c.owner-2.view_is (c.advance_claimed.ensures.too_many err)
