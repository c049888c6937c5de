use Rattle.std.proofs.Common.{subst}
use Rattle.redo_names.specs.Paths.{IsAmong}
use Rattle.redo_page.proofs.NamedLemmas.{always-step, candidate-step, keeps-on, missing-step, or-on, rule-step}
use Rattle.redo_page.proofs.named.Named.enter_missing.Goals as goal
use Rattle.redo_page.proofs.named.Named.enter_missing.Goals.{in-Change, in-Create+then-ruled+in_ok-enter-in-Create, in-Create+else-ruled, in-Always}

pub loop-entry-preserved : goal.loop-entry-preserved
loop-entry-preserved c =
    let before = c.loop-entry.invariant in
    let es = c.args.entries.now in
    let i = c.loop-entry.entry-index in
    let x = c.entry-item.result in
    let within = c.loop-entry-test.true in
    elim c.match-entry.branch [
      | in-Change w ↦
          rw (w.self-is, w.ruled-is) (
            before.0,
            (λ path is. or-on (subst (λ l. IsAmong l path) (rule-step es i x c.loop-entry.ruled within c.entry-item.is w.in-Change.is)) (before.1 path is)),
            before.2,
          )
      | in-Create+then-ruled+in_ok-enter-in-Create w ↦
          let steps = w.in_ok-enter-in-Create.ensures in
          rw (w.self-is, w.ruled-is) (
            keeps-on _ _ _ before.0 steps.kept,
            (λ path is. missing-step _ _ es i x c.loop-entry.ruled path within c.entry-item.is w.in-Create.is w.if-ruled.true steps.kept steps.entered (before.1 path is)),
            λ are. steps.numbered (before.2 are),
          )
      | in-Create+else-ruled w ↦
          rw (w.self-is, w.ruled-is) (
            before.0,
            (λ path is. or-on (subst (λ l. IsAmong l path) (candidate-step es i x c.loop-entry.ruled within c.entry-item.is w.in-Create.is w.if-ruled.false)) (before.1 path is)),
            before.2,
          )
      | in-Always w ↦
          rw (w.self-is, w.ruled-is) (
            before.0,
            (λ path is. or-on (subst (λ l. IsAmong l path) (always-step es i x c.loop-entry.ruled within c.entry-item.is w.in-Always.is)) (before.1 path is)),
            before.2,
          )
    ]
