use Rattle.std.proofs.Common.{◌≡◌, ℕ, List, Err, sym, ap, subst, ◌∙◌}
use Rattle.std.proofs.lemmas.Result.{err_from_is_err_and}
use Rattle.redo_rules.specs.Results.{IsOfTree, IsResultOn, NeedsTooMany}
use Rattle.redo_run.specs.Runs.{request_of}
use Rattle.redo_run.specs.Skipping.{IsSoundOn, IsUnsafeOn}
use Rattle.redo_core.specs.declared.opening.OpenFault.TheVariants as faults
use Rattle.redo_tree.specs.Tree.{Tree}
use Rattle.redo_run.proofs.ToldLemmas.{built, unbuilt_by}
use Rattle.redo_run.proofs.foreseen.build.Goals as goal

-- the report and the book are parts of the build's
pub returns-clause-built : goal.returns-clause-built
returns-clause-built g c =
    let tree = c.args.tree in let limits = c.args.options.now.limits in
    let run = c.in_ok-report.report in let parts = c.in_ok-report-2.field-0 in
    let shared : c.in_ok-past.past.tree ≡ tree = c.in_ok-past.ensures.past.of_tree in
    let M : Tree → Type 0 = λ t. IsResultOn t c.deref-2.result.now limits run in
    let N : Tree → Type 0 = λ t. IsSoundOn t c.deref-2.result.now limits run in
    let Q : List (List ℕ) → Type 0 = λ ps. IsResultOn tree ps limits run in
    let R : List (List ℕ) → Type 0 = λ ps. IsSoundOn tree ps limits run in
    let is : Q c.in_ok-request.request.items = subst Q c.deref-2.ensures.value (subst M shared c.in_ok-report.ensures.report) in
    let sound : R c.in_ok-request.request.items = subst R c.deref-2.ensures.value (subst N shared c.in_ok-report.ensures.sound) in
    let exit = c.in_ok-exit.ensures is.0 (is.1.requested ∙ sym c.deref-3.ensures.value) is.2 in
    built c.args.options.now tree c.in_ok-request.request.items (c.in_ok-request.ensures ∙ ap request_of c.deref.ensures.value)
    parts.report parts.book run c.in_ok-exit.exit c.in_ok-report-2.ensures is sound exit

-- the past is the one that was opened
pub returns-clause-past : goal.returns-clause-past
returns-clause-past g c = subst (IsOfTree c.args.tree) (sym c.in_ok-kept.ensures) c.in_ok-past.ensures.past

-- no report is answered: too many targets are needed, or memory ran out
pub returns-in_err-report-clause-refused : goal.returns-in_err-report-clause-refused
returns-in_err-report-clause-refused g c =
    let p = err_from_is_err_and c.from_residual-in_err-report.result c.from_residual-in_err-report.ensures.1 in
    let tree = c.args.tree in let limits = c.args.options.now.limits in
    let fault = c.in_err-report.field-0.0 in let answer = c.in_err-report.was in
    let shared : c.in_ok-past.past.tree ≡ tree = c.in_ok-past.ensures.past.of_tree in
    let book : (n : ℕ) → fault ≡ faults.Book n → ⊥ = λ n is. c.report_over.ensures.book n (answer ∙ ap Err is) in
    let M : Tree → Type 0 = λ t. fault ≡ faults.TooMany → NeedsTooMany t c.deref-2.result.now limits in
    let N : Tree → Type 0 = λ t. fault ≡ faults.TooMany → IsUnsafeOn t c.deref-2.result.now limits in
    let Q : List (List ℕ) → Type 0 = λ ps. fault ≡ faults.TooMany → NeedsTooMany tree ps limits in
    let R : List (List ℕ) → Type 0 = λ ps. fault ≡ faults.TooMany → IsUnsafeOn tree ps limits in
    let many = subst M shared (λ is. c.report_over.ensures.too_many (answer ∙ ap Err is)) in
    let never = subst N shared (λ is. c.report_over.ensures.only_unsafe (answer ∙ ap Err is)) in
    rw (p.1, p.2) (unbuilt_by c.args.options.now tree c.in_ok-request.request.items
    (c.in_ok-request.ensures ∙ ap request_of c.deref.ensures.value) fault book
    (subst Q c.deref-2.ensures.value many) (subst R c.deref-2.ensures.value never))
