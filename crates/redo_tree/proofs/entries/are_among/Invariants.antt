use Rattle.std.proofs.Common.{◌≡◌, ◌<◌, ℕ, List, Some, slice_get}
use Rattle.redo_tree.specs.declared.entries.Entry.{Entry}
use Rattle.redo_tree.specs.Tree.{HasEntry}
use Rattle.redo_tree.proofs.entries.are_among.Given as goal

-- each of the entries so far is one of the others
abbrev pub invariant-entries : goal.invariant-entries
invariant-entries l = (i : ℕ) (e : List ℕ × Entry) → i < l.number → slice_get l.entries i ≡ Some e → HasEntry l.others e.0 e.1
