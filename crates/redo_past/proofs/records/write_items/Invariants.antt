use Rattle.std.proofs.Common.{◌≡◌, ◌++◌, List, ℕ, drop, false}
use Rattle.std.specs.Prelude.{codes, flat_map}
use Rattle.std.specs.Io.KnownBytes.{Appends}
use Rattle.redo_past.specs.inside.Books.{item_text}
use Rattle.redo_past.proofs.records.write_items.Given as goal

-- the records so far were written, and those that are left follow them
abbrev pub invariant-loop-item : goal.invariant-loop-item
invariant-loop-item g l = record {
  works : g.W.ByteOut.has_failed l.out ≡ false;
  front : l.lines.0 ≡ codes "create ";
  done : List ℕ;
  split : flat_map (item_text l.fn.states) l.fn.items ≡ done ++ flat_map (item_text l.fn.states) (drop l.item-index l.fn.items);
  gone : Appends (g.W.ByteOut.held l.fn.out) (g.W.ByteOut.held l.out) done;
  same : l.states ≡ l.fn.states;
}
