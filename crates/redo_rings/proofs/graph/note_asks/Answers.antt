use Rattle.std.proofs.Common.{◌≡◌, ◌<◌, ◌≢◌, Some, ap, arith, length, slice_get, slice_set, subst, sym}
use Rattle.std.proofs.lemmas.Option.{slice_get_within}
use Rattle.redo_names.proofs.PathLemmas.{place-among}
use Rattle.redo_rings.specs.inside.Graph.{IsNumbering, asks_at, numbers_in}
use Rattle.redo_rings.proofs.GraphLemmas.{one-number, set-get, set-other}
use Rattle.redo_rings.proofs.graph.note_asks.Goals as goal

pub returns-in_ok-table-clause-here : goal.returns-in_ok-table-clause-here
returns-in_ok-table-clause-here c = λ k cyclic at.
    let names = c.args.names.now in
    let n = c.in-Some.number in
    let same : n ≡ k = one-number names n k c.args.row.now.path c.each_once.ensures c.in-Some.ensures at in
    let within : n < length c.args.table.now = let h = slice_get_within names n c.args.row.now.path c.in-Some.ensures in omega (arith, h, c.requires) in
    subst (λ m. IsNumbering names (asks_at (slice_set c.args.table.now n c.in_ok-table.field-0) m) c.args.row.now) same
    (subst (λ o. IsNumbering names (numbers_in o) c.args.row.now) (sym (set-get c.args.table.now n c.in_ok-table.field-0 within)) c.in_ok-table.ensures)

pub returns-in_ok-table-clause-others : goal.returns-in_ok-table-clause-others
returns-in_ok-table-clause-others c = λ k absent.
    let names = c.args.names.now in
    let n = c.in-Some.number in
    let other : k ≢ n = λ same. absent (subst (λ m. slice_get names m ≡ Some c.args.row.now.path) (sym same) c.in-Some.ensures) in
    ap numbers_in (set-other c.args.table.now n k c.in_ok-table.field-0 other)

pub returns-in_default-clause-here : goal.returns-in_default-clause-here
returns-in_default-clause-here c = λ k cyclic at.
    absurd (c.in_default.ensures (place-among c.args.names.now k c.args.row.now.path at))
