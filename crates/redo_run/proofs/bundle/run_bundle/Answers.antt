use Rattle.std.proofs.Common.{◌≡◌, ℕ, Err, List, sym, ap, subst, ◌∙◌}
use Rattle.std.proofs.lemmas.Result.{err_from_is_err_and}
use Rattle.redo_rules.specs.Results.{IsOfTree, IsRefused, IsResultOn, NeedsTooMany}
use Rattle.redo_run.specs.Runs.{request_of}
use Rattle.redo_run.specs.Skipping.{IsSoundOn, IsUnsafeOn}
use Rattle.redo_run.specs.declared.bundle.BundleRun.{BundleRun}
use Rattle.redo_core.specs.declared.opening.OpenFault.TheVariants as build
use Rattle.redo_tree.specs.Tree.{Tree}
use Rattle.redo_run.proofs.ToldLemmas.{device_by_write, explains_build, explains_write, no_memory_by_write, no_read_by_write}
use Rattle.redo_run.proofs.ToldLemmas.{nothing_told, reports, untouched_by_write}
use Rattle.redo_run.proofs.bundle.run_bundle.Goals as goal

-- a past that isn't read has a refused book
pub returns-in_err-past-clause-fault : goal.returns-in_err-past-clause-fault
returns-in_err-past-clause-fault g c =
    let p = err_from_is_err_and c.from_residual-in_err-past.result c.from_residual-in_err-past.ensures.1 in
    let tree = c.in_ok-tree.tree in
    let fault = c.in_err-past.field-0.0 in let answer = c.in_err-past.was in
    let book : (n : ℕ) → fault ≡ build.Book n → IsRefused tree n = λ n is. c.past_of.ensures.book n (answer ∙ ap Err is) in
    let never : fault ≡ build.TooMany → ⊥ = λ is. c.past_of.ensures.no_build (answer ∙ ap Err is) in
    rw (p.1, p.2) (explains_build c.args.options.now tree c.in_ok-request.request.items
    (c.in_ok-request.ensures ∙ ap request_of c.deref.ensures.value) _ _ _ fault c.in_ok-tree.ensures.reads book
    (λ is. absurd (never is)) (λ is. absurd (never is)))

pub returns-in_err-report-clause-fault : goal.returns-in_err-report-clause-fault
returns-in_err-report-clause-fault g c =
    let p = err_from_is_err_and c.from_residual-in_err-report.result c.from_residual-in_err-report.ensures.1 in
    let tree = c.in_ok-tree.tree in let limits = c.args.options.now.limits in
    let fault = c.in_err-report.field-0.0 in let answer = c.in_err-report.was in
    let shared : c.in_ok-past.past.tree ≡ tree = c.in_ok-past.ensures.past.of_tree in
    let book : (n : ℕ) → fault ≡ build.Book n → IsRefused tree n = λ n is. absurd (c.report_over.ensures.book n (answer ∙ ap Err is)) in
    let M : Tree → Type 0 = λ t. fault ≡ build.TooMany → NeedsTooMany t c.deref-2.result.now limits in
    let N : Tree → Type 0 = λ t. fault ≡ build.TooMany → IsUnsafeOn t c.deref-2.result.now limits in
    let Q : List (List ℕ) → Type 0 = λ ps. fault ≡ build.TooMany → NeedsTooMany tree ps limits in
    let R : List (List ℕ) → Type 0 = λ ps. fault ≡ build.TooMany → IsUnsafeOn tree ps limits in
    let many = subst M shared (λ is. c.report_over.ensures.too_many (answer ∙ ap Err is)) in
    let never = subst N shared (λ is. c.report_over.ensures.only_unsafe (answer ∙ ap Err is)) in
    rw (p.1, p.2) (explains_build c.args.options.now tree c.in_ok-request.request.items
    (c.in_ok-request.ensures ∙ ap request_of c.deref.ensures.value) _ _ _ fault c.in_ok-tree.ensures.reads book
    (subst Q c.deref-2.ensures.value many) (subst R c.deref-2.ensures.value never))

pub returns-in_err-write-clause-fault : goal.returns-in_err-write-clause-fault
returns-in_err-write-clause-fault g c =
    let p = err_from_is_err_and c.from_residual-in_err-write.result c.from_residual-in_err-write.ensures.1 in
    let tree = c.in_ok-tree.tree in let limits = c.args.options.now.limits in let report = c.in_ok-report.report in
    let M : Tree → Type 0 = λ t. IsResultOn t c.deref-2.result.now limits report in
    let Q : List (List ℕ) → Type 0 = λ ps. IsResultOn tree ps limits report in
    rw (p.1, p.2) (explains_write c.args.options.now tree c.in_ok-request.request.items
    (c.in_ok-request.ensures ∙ ap request_of c.deref.ensures.value) c.in_err-write.field-0.0 _ _ _ report c.in_ok-tree.ensures.reads
    (subst Q c.deref-2.ensures.value (subst M c.in_ok-past.ensures.past.of_tree c.in_ok-report.ensures.report)) c.in_err-write.ensures.writes)

pub returns-clause-report : goal.returns-clause-report
returns-clause-report g c =
    let tree = c.in_ok-tree.tree in let limits = c.args.options.now.limits in let report = c.in_ok-report.report in
    let shared : c.in_ok-past.past.tree ≡ tree = c.in_ok-past.ensures.past.of_tree in
    let M : Tree → Type 0 = λ t. IsResultOn t c.deref-2.result.now limits report in
    let N : Tree → Type 0 = λ t. IsSoundOn t c.deref-2.result.now limits report in
    let Q : List (List ℕ) → Type 0 = λ ps. IsResultOn tree ps limits report in
    let R : List (List ℕ) → Type 0 = λ ps. IsSoundOn tree ps limits report in
    let is : Q c.in_ok-request.request.items = subst Q c.deref-2.ensures.value (subst M shared c.in_ok-report.ensures.report) in
    let sound : R c.in_ok-request.request.items = subst R c.deref-2.ensures.value (subst N shared c.in_ok-report.ensures.sound) in
    let exit = c.in_ok-exit.ensures is.0 (is.1.requested ∙ sym c.deref-3.ensures.value) is.2 in
    let run : BundleRun = record { exit = c.in_ok-exit.exit; past = c.in_ok-kept.kept; report = report } in
    reports c.args.options.now tree c.in_ok-request.request.items
    (c.in_ok-request.ensures ∙ ap request_of c.deref.ensures.value) _ _ _ run
    (subst (IsOfTree tree) (sym c.in_ok-kept.ensures) c.in_ok-past.ensures.past)
    c.in_ok-tree.ensures.reads is sound c.in_ok-write.ensures.writes exit

-- the exit isn't found for want of memory
pub returns-in_err-exit-clause-fault : goal.returns-in_err-exit-clause-fault
returns-in_err-exit-clause-fault g c =
    let p = err_from_is_err_and c.from_residual-in_err-exit.result c.from_residual-in_err-exit.ensures.1 in
    rw (p.1, p.2) (nothing_told (g.R.ByteIn.left c.args.reader.now))

pub returns-in_err-write-clause-untouched : goal.returns-in_err-write-clause-untouched
returns-in_err-write-clause-untouched g c =
    let p = err_from_is_err_and c.from_residual-in_err-write.result c.from_residual-in_err-write.ensures.1 in
    rw (p.1, p.2) (untouched_by_write c.in_err-write.field-0.0 _ _ (λ is. c.in_err-write.ensures.untouched (ap Err is)))

pub returns-in_err-write-clause-read : goal.returns-in_err-write-clause-read
returns-in_err-write-clause-read g c =
    let p = err_from_is_err_and c.from_residual-in_err-write.result c.from_residual-in_err-write.ensures.1 in
    rw (p.1, p.2) (no_read_by_write c.in_err-write.field-0.0 _ (λ failed. let read = c.in_ok-tree.ensures.read.1 failed in cc))

pub returns-in_err-write-clause-device : goal.returns-in_err-write-clause-device
returns-in_err-write-clause-device g c =
    let p = err_from_is_err_and c.from_residual-in_err-write.result c.from_residual-in_err-write.ensures.1 in
    let device = c.in_err-write.ensures.device in
    rw (p.1, p.2) (device_by_write c.in_err-write.field-0.0 _ (λ is. device.0 (ap Err is)) (λ failed. let is = device.1 failed in cc))

pub returns-in_err-write-clause-memory : goal.returns-in_err-write-clause-memory
returns-in_err-write-clause-memory g c =
    let p = err_from_is_err_and c.from_residual-in_err-write.result c.from_residual-in_err-write.ensures.1 in
    rw (p.1, p.2) (no_memory_by_write c.in_err-write.field-0.0)

-- nor is the past shared
pub returns-in_err-kept-clause-fault : goal.returns-in_err-kept-clause-fault
returns-in_err-kept-clause-fault g c =
    let p = err_from_is_err_and c.from_residual-in_err-kept.result c.from_residual-in_err-kept.ensures.1 in
    rw (p.1, p.2) (nothing_told (g.R.ByteIn.left c.args.reader.now))
