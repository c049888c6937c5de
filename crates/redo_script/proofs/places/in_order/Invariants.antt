use Rattle.std.proofs.Common.{All}
use Rattle.redo_script.specs.Marks.{IsInOneLine, AreInOrder}
use Rattle.redo_script.proofs.MarkLemmas.{EndsBy}
use Rattle.redo_script.proofs.places.in_order.Given as goal

abbrev pub invariant-loop-word : goal.invariant-loop-word
invariant-loop-word l = record {
  lines : All (IsInOneLine l.text) l.kept.items;
  order : AreInOrder l.kept.items;
  past : EndsBy l.past l.kept.items;
}
