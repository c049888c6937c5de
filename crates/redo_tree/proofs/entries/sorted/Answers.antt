use Rattle.std.proofs.Common.{◌+◌, ◌∙◌, ap, drop, sym}
use Rattle.redo_tree.specs.Tree.{with_entries}
use Rattle.redo_tree.proofs.NodeLemmas.{drop-at, seen, insert_entry-seen}
use Rattle.redo_tree.proofs.entries.sorted.Goals as goal

pub entries-preserved : goal.entries-preserved
entries-preserved c =
    let sorted = c.entries.sorted.entries in
    let path = c.at.result.0 in
    let entry = c.at.result.1 in
    let left = drop (c.entries.number + 1) c.args.entries.now in
    ap (λ es. with_entries (seen es) left) c.in_ok-insert.ensures.entries
    ∙ ap (λ tree. with_entries tree left) (insert_entry-seen sorted path entry)
    ∙ ap (with_entries (seen sorted)) (sym (drop-at c.args.entries.now c.entries.number (path.now, entry.now) c.at.ensures.pair))
    ∙ c.entries.invariant
