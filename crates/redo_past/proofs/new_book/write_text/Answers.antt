use Rattle.std.proofs.Common.{[]}
use Rattle.std.specs.Prelude.{codes, flat_map}
use Rattle.std.proofs.KnownBytes.{Appends-nil}
use Rattle.redo_report.proofs.WritingLemmas.{writes-failed, writes-last}
use Rattle.redo_past.specs.inside.Books.{item_text}
use Rattle.redo_past.proofs.ItemListLemmas.{items-text}
use Rattle.redo_past.proofs.new_book.write_text.Goals as goal

pub returns-in_err-write_items-clause-writes : goal.returns-in_err-write_items-clause-writes
returns-in_err-write_items-clause-writes g c =
    let states = c.args.states.now in
    let items = c.args.items.now in
    writes-failed _ c.in_err-write_items.field-0.0 c.from_residual.result c.from_residual.ensures.1 _ _ _
    [] (flat_map (item_text states) items) (codes "end\n") _ (items-text states items) (Appends-nil _) c.in_err-write_items.ensures.writes

pub returns-clause-writes : goal.returns-clause-writes
returns-clause-writes g c =
    let states = c.args.states.now in
    let items = c.args.items.now in
    writes-last c.write_end.result _ _ _ (flat_map (item_text states) items) (codes "end\n") _ (items-text states items) c.in_ok-write_items.ensures.writes c.write_end.ensures.writes
