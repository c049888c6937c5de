use Rattle.std.proofs.Common.{◌≡◌, Some, map, rules, slice_get}
use Rattle.redo_book.specs.Book.{record_of}
use Rattle.redo_names.proofs.PathLemmas.{place-among}
use Rattle.redo_query.proofs.NeedLemmas.{first-need, more-need}
use Rattle.redo_query.proofs.needing.follow.Goals as goal

pub loop-at-init : goal.loop-at-init
loop-at-init c =
    first-need (map record_of c.args.records.now) c.args.path.now _ _ c.new-found.ensures c.in_ok-note_users.ensures

pub loop-at-preserved : goal.loop-at-preserved
loop-at-preserved c =
    let at : slice_get c.loop-at.found c.loop-at.at ≡ Some c.in_ok-next.next = search rules in
    more-need (map record_of c.args.records.now) c.args.path.now c.in_ok-next.next c.loop-at.found _ c.loop-at.invariant
    (place-among c.loop-at.found c.loop-at.at c.in_ok-next.next at) c.in_ok-note_users-2.ensures
