use Rattle.std.proofs.Common.{subst}
use Rattle.redo_names.specs.Paths.{IsAmong}
use Rattle.redo_page.proofs.NamedLemmas.{change-step, keeps-on, or-on, other-step}
use Rattle.redo_page.proofs.named.Named.enter_changes.Goals as goal
use Rattle.redo_page.proofs.named.Named.enter_changes.Goals.{in-Change+in_ok-enter-in-Change, in-Create}

pub loop-entry-preserved : goal.loop-entry-preserved
loop-entry-preserved c =
    let before = c.loop-entry.invariant in
    let es = c.args.entries.now in
    let i = c.loop-entry.entry-index in
    let x = c.entry-item.result in
    elim c.match-entry.branch [
      | in-Change+in_ok-enter-in-Change w ↦
          let steps = w.in_ok-enter-in-Change.ensures in
          rw w.self-is (
            keeps-on _ _ _ before.0 steps.kept,
            (λ path is. change-step _ _ es i x path c.loop-entry-test.true c.entry-item.is steps.kept steps.entered (before.1 path is)),
            λ are. steps.numbered (before.2 are),
          )
      | in-Create w ↦
          rw w.self-is (
            before.0,
            (λ path is. or-on (subst (λ l. IsAmong l path) (other-step es i x c.loop-entry-test.true c.entry-item.is w.in-Create.is)) (before.1 path is)),
            before.2,
          )
    ]
