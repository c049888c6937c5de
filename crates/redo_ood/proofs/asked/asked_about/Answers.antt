use Rattle.std.proofs.Common.{◌∙◌, subst, sym}
use Rattle.std.specs.Cmp.Lexicographic.{slice_cmp}
use Rattle.std.specs.List.Sorted.{IsStrictlySortedBy}
use Rattle.std.specs.Ordering.{nat_cmp}
use Rattle.redo_ood.specs.Listing.{run_over}
use Rattle.redo_ood.proofs.AskedLemmas.{all-asked, none-asked, some-asked}
use Rattle.redo_ood.proofs.asked.asked_about.Goals as goal

pub returns-in_ok-targets : goal.returns-in_ok-targets
returns-in_ok-targets c = λ limits.
    record {
      each = λ p.
          all-asked (run_over c.args.past.now c.args.request.now limits)
          (none-asked c.args.request.now (sym c.is_empty.ensures ∙ c.if-is_empty.true)) c.in_ok-targets.field-0.items
          c.in_ok-targets.ensures.0 p;
      ordered =
          subst (IsStrictlySortedBy (slice_cmp nat_cmp)) (sym c.in_ok-targets.ensures.0) c.in_ok-targets.ensures.1.sorted;
    }

pub returns-in_ok-resting : goal.returns-in_ok-resting
returns-in_ok-resting c = λ limits.
    record {
      each = λ p.
          some-asked (run_over c.args.past.now c.args.request.now limits) (sym c.is_empty.ensures ∙ c.if-is_empty.false)
          c.in_ok-resting.field-0 c.in_order.result.items (c.in_ok-resting.ensures limits) c.in_order.ensures.among p;
      ordered = c.in_order.ensures.ordered;
    }
