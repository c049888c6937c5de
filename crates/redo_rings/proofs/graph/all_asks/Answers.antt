use Rattle.std.proofs.Common.{◌≡◌, ◌∙◌, ap, drop, length, map, rules, subst, sym, take}
use Rattle.std.specs.Prelude.{Contains}
use Rattle.std.proofs.lemmas.List.{take_all, take_at}
use Rattle.redo_names.specs.Paths.{is_among}
use Rattle.redo_names.proofs.PathLemmas.{place-among, told-among}
use Rattle.redo_report.specs.declared.report.Row.{Row}
use Rattle.redo_rings.specs.inside.Graph.{IsNumbering, asks_at, cyclic_among}
use Rattle.redo_rings.proofs.GraphLemmas.{asks-step}
use Rattle.redo_rings.proofs.graph.all_asks.Goals as goal

pub loop-row-preserved : goal.loop-row-preserved
loop-row-preserved c =
    let names = c.args.names.now in
    let rows = c.args.rows.now in
    let old = c.loop-row.table.items in
    let new = c.note_asks.new.table in
    let row = c.row-item.result in
    let i = c.loop-row.row-index in
    let lent : c.deref_mut.result.now ≡ old = search rules in
    let many : length new ≡ length c.deref_mut.result.now = search rules in
    let old_len : length old ≡ c.loop-row.table.len = search rules in
    let whole = sym (take_at new (drop (length new) old) c.loop-row.table.len (many ∙ ap length lent ∙ old_len)) in
    let step = asks-step names rows old new i row c.loop-row-test.true c.row-item.is c.in_ok-note_asks.ensures.here
    (λ k absent. c.in_ok-note_asks.ensures.others k absent ∙ ap (λ t. asks_at t k) lent)
    (λ source. c.in_ok-note_asks.ensures.source source ∙ lent) c.loop-row.invariant.1 in (
      ap length (sym whole) ∙ many ∙ ap length lent ∙ c.loop-row.invariant.0,
      λ k p at told. subst (λ t. (r : Row) × Contains (cyclic_among rows) r × (r.path ≡ p) × IsNumbering names (asks_at t k) r) whole (step k p at told),
    )

pub returns-clause-asks : goal.returns-clause-asks
returns-clause-asks c = λ k p at.
    let names = c.args.names.now in
    let rows = c.args.rows.now in
    let whole : take c.loop-row.row-index rows ≡ rows = take_all c.loop-row.row-index rows c.loop-row-test.false in
    c.loop-row.invariant.1 k p at
    (ap (λ rs. is_among (map (λ (r : Row). r.path) (cyclic_among rs)) p) whole ∙ sym (c.requires p) ∙ told-among names p (place-among names k p at))
