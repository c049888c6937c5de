use Rattle.std.proofs.Common.{subst, sym}
use Rattle.redo_ood.specs.Listing.{AreAskedAbout, run_over}
use Rattle.redo_ood.proofs.list.out_of_date.Goals as goal

pub returns : goal.returns
returns c = λ limits.
    record {
      asked = c.deref-4.result.now;
      about =
          subst (AreAskedAbout (run_over c.args.past.now c.args.request.now limits)) (sym c.deref-4.ensures.value)
          (c.in_ok-asked.ensures limits);
      targets = c.in_ok-listed.ensures c.args.request.now limits c.in_ok-requested.ensures.among;
    }
