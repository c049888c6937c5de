use Rattle.std.proofs.Common.{◌∙◌, ◌||◌, ap, sym, take}
use Rattle.std.specs.List.{list_any}
use Rattle.redo_names.specs.Paths.{is_among}
use Rattle.redo_names.proofs.PathLemmas.{or-assoc}
use Rattle.redo_notes.specs.Notes.{asks_for}
use Rattle.redo_notes.proofs.AskedLemmas.{any-more}
use Rattle.redo_notes.proofs.asked.asked_by.Goals as goal

pub loop-row-preserved : goal.loop-row-preserved
loop-row-preserved c = λ path.
    let rows = c.args.rows.now in
    let i = c.loop-row.row-index in
    let row = c.row-item.result in
    c.in_ok-add_row.ensures path ∙ ap (λ b. b || asks_for path row) (c.loop-row.invariant path)
    ∙ or-assoc (is_among c.args.request.now path) (list_any (asks_for path) (take i rows)) (asks_for path row)
    ∙ ap (λ b. is_among c.args.request.now path || b) (sym (any-more (asks_for path) rows i row c.loop-row-test.true c.row-item.is))
