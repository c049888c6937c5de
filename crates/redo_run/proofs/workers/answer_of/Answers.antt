use Rattle.std.proofs.Common.{rules, ◌≡◌, [], ℕ, List, sym, subst}
use Rattle.redo_build.specs.Takes.{AreBegun}
use Rattle.redo_build.specs.Theorems.{ShowsBuild}
use Rattle.redo_core.specs.Views.{IsQuietBoard, limit_on, request_on, rules_on}
use Rattle.redo_report.specs.declared.report.Report.{Report}
use Rattle.redo_rules.specs.Results.{IsResult}
use Rattle.redo_sync.specs.Relay.{Pair, SharesOut}
use Rattle.redo_run.proofs.LedgerLemmas.{begun_shared, once_shared, without_memory}
use Rattle.redo_run.proofs.workers.answer_of.Goals as goal

pub returns-in_err-ledger : goal.returns-in_err-ledger
returns-in_err-ledger g c = without_memory _ _ _ _ (search rules)

-- what the takers took is what the board had taken
pub returns : goal.returns
returns g c =
    let b = c.ended.inside.board in let given = c.ended.inside.source.given in let result = c.in_ok-report.report in
    let ended = c.ended.invariant in
    let ledger = c.in_ok-ledger.ledger in
    let none : (ledger.left ≡ []) × SharesOut ledger.given ledger.taken [] = search rules in
    let Q : List Pair → Type 0 = λ l. SharesOut l ledger.taken [] in
    let out : SharesOut given ledger.taken [] = subst Q c.in_ok-ledger.ensures.given none.1 in
    let quiet : IsQuietBoard b = search rules in
    let shows : ShowsBuild (rules_on b) (request_on b) (limit_on b) b.state = search rules in
    let R : Report → Type 0 = λ r. IsResult b.given r in
    let is : R result = subst R (sym c.in_ok-report.ensures) c.in_ok-finish.ensures in
    let of_given = c.what_was_taken.ensures.begun b given is.report ended.taken quiet shows is.built in
    let begun = begun_shared given ledger.taken out is.report.begun.items c.counts_tell.ensures.taken of_given in
    let B : List (List ℕ) → Type 0 = AreBegun ledger.taken in
    record {
      report = (b.given, ended.of_build, is);
      none_left = none.0;
      once = once_shared given ledger.taken out (c.what_was_taken.ensures.counted b given ended.taken);
      begun = subst B (sym is.with_book.begun) begun;
      too_many = λ e. absurd cc;
    }
