use Rattle.std.proofs.Common.{◌∙◌, Some, ap, arith, sym}
use Rattle.redo_ood.specs.Listing.{run_over}
use Rattle.redo_ood.proofs.RestingLemmas.{first-found, is-found, more-found}
use Rattle.redo_ood.proofs.asked.resting.Goals as goal

pub loop-number-init : goal.loop-number-init
loop-number-init c = λ limits. first-found (run_over c.args.past.now c.args.request.now limits) c.in_ok-found.found c.in_ok-found.ensures.among

pub loop-number-preserved : goal.loop-number-preserved
loop-number-preserved c = λ limits.
    more-found (run_over c.args.past.now c.args.request.now limits) c.loop-number.found c.follow.new.found c.loop-number.number
    c.in_ok-path.path (c.loop-number.invariant limits) (c.at.ensures ∙ ap Some (sym c.in_ok-path.ensures.cases)) c.in_ok-follow.ensures

pub returns-then-number-len : goal.returns-then-number-len
returns-then-number-len c = λ limits p.
    is-found (run_over c.args.past.now c.args.request.now limits) c.loop-number.found c.loop-number.number
    (c.loop-number.invariant limits) (omega arith) p
