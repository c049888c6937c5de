use Rattle.std.proofs.Common.{◌∙◌, ap, arith}
use Rattle.std.proofs.lemmas.Option.{slice_get_within}
use Rattle.redo_page.specs.inside.Links.{known_by}
use Rattle.redo_page.proofs.NamedLemmas.{row-step}
use Rattle.redo_page.proofs.named.Named.of.Goals as goal

pub loop-row-preserved : goal.loop-row-preserved
loop-row-preserved c =
    let before = c.loop-row.invariant in
    let steps = c.in_ok-enter_row.ensures in (
      ap (λ l. l.now) steps.kept.links ∙ before.0,
      steps.kept.count ∙ before.1,
      steps.numbered before.2,
      row-step (known_by c.args.links.now) c.loop-row.named c.enter_row.new.self c.args.rows.now c.loop-row.row-index c.row-item.result
          c.loop-row-test.true c.row-item.is (ap known_by before.0) (ap (λ l. known_by l.now) steps.kept.links ∙ ap known_by before.0)
          steps.kept before.3 steps.named,
    )

pub returns-clause-named : goal.returns-clause-named
returns-clause-named c = λ n row at.
    let within = slice_get_within c.args.rows.now n row at in
    c.loop-row.invariant.3 n row (omega (arith, within, c.loop-row-test.false)) at
