use Rattle.std.proofs.Common.{◌≡◌, ◌+◌, ℕ, List, refl, subst, sym}
use Rattle.redo_core.specs.Taken.{HasTaken}
use Rattle.redo_core.specs.Views.{IsQuietBoard}
use Rattle.redo_rules.specs.Results.{IsGiven}
use Rattle.redo_sync.specs.Relay.{Taker}
use Rattle.redo_run.specs.inside.Workers.{AreAllTakers, AreTakersOf, OwnerView}
use Rattle.redo_run.proofs.PoolLemmas.{all_takers}
use Rattle.redo_run.proofs.workers.ended_build.Goals as goal

-- the board is of the build and quiet, the takers are all of the source's, and what was given is what the board has taken
pub invariant_of-result : goal.invariant_of-result
invariant_of-result g c =
    let source = c.owner.inside.source in let own = c.owner.inside.taker in let view = c.owner.view_is in
    let Of : OwnerView → Type 0 = λ d. IsGiven g.B.BuildBrand.tree g.B.BuildBrand.request g.B.BuildBrand.limits d.board.given in
    let Quiet : OwnerView → Type 0 = λ d. IsQuietBoard d.board in
    let Took : OwnerView → Type 0 = λ d. HasTaken d.board d.source.given in
    let Own : OwnerView → Type 0 = λ d. d.own ≡ d.source.relay in
    let All : OwnerView → Type 0 = λ d. (count : ℕ) × (count + 1 ≡ d.source.takers) × AreTakersOf d.source.relay count c.args.takers.items in
    let Complete : List Taker → Type 0 = λ l. AreAllTakers source l in
    let all : All (record { board = c.owner.inside.board; source = source; own = own.relay }) = subst All (sym view) c.requires.complete in
    record {
      of_build = subst Of (sym view) c.requires.of_build;
      quiet = subst Quiet (sym view) c.requires.quiet;
      complete =
          subst Complete (sym c.in_ok-push.ensures.items)
          (all_takers source.relay all.0 c.args.takers.items own source all.2 (subst Own (sym view) c.requires.own) refl all.1);
      taken = subst Took (sym view) c.requires.taken;
    }
