use Rattle.std.proofs.Common.{◌≡◌, List, ℕ, [], sym, ap, subst, ◌∙◌}
use Rattle.std.specs.List.{list_any}
use Rattle.redo_record.specs.Paths.{with_new}
use Rattle.redo_report.specs.declared.report.Row.{Row}
use Rattle.redo_rules.specs.Build.{GivenView, rules_for}
use Rattle.redo_rules.specs.Results.{IsResult}
use Rattle.redo_run.specs.Exits.{fails}
use Rattle.redo_run.proofs.ExitLemmas.{exit-failed, exit-good}
use Rattle.redo_run.proofs.exit.exit_after.Goals as goal
use Rattle.redo_run.proofs.exit.exit_after.Goals.{After-has_failed}

-- what was looked for is whether a row of the build's own report tells of no success
found : (c : After-has_failed) (given : GivenView) → given.request ≡ c.args.request.now → (is : IsResult given c.args.report.now) →
    list_any (fails (with_new [] given.request)) is.report.rows.items ≡ c.has_failed.result
found c given same is =
    let A : List (List ℕ) → Type 0 = λ keys. c.has_failed.result ≡ list_any (fails keys) c.rows.result.now in
    let B : List Row → Type 0 = λ rows. c.has_failed.result ≡ list_any (fails (with_new [] c.args.request.now)) rows in
    ap (λ rows. list_any (fails (with_new [] given.request)) rows) (sym is.with_book.rows)
    ∙ ap (λ ps. list_any (fails (with_new [] ps)) c.args.report.now.rows.items) same
    ∙ sym (subst B c.rows.ensures (subst A c.in_ok-wanted.ensures.paths c.has_failed.ensures))

pub returns-then-has_failed : goal.returns-then-has_failed
returns-then-has_failed c = λ given same is.
    let d = (goal.at-returns-then-has_failed c).After-has_failed in
    exit-failed (rules_for given) given.limits.targets given.request is.report is.built (found d given same is ∙ c.if-has_failed.true)

pub returns : goal.returns
returns c = λ given same is.
    let d = (goal.at-returns c).After-has_failed in
    exit-good (rules_for given) given.limits.targets given.request is.report is.built (found d given same is ∙ c.if-has_failed.false)
