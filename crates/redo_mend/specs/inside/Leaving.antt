-- What a broken-off run left, of a tree and the mended one.
use Rattle.std.specs.Prelude.{◌≡◌, ℕ, List, MatchOption}
use Rattle.redo_tree.specs.Tree.{Tree}
use Rattle.redo_mend.specs.Mended.{AreToSettle, book_to_put, own_files}
use Rattle.redo_dir.specs.declared.clearing.Left.{Left}
use Rattle.redo_mend.specs.declared.mending.Mended.{Mended}

-- it is what has to be cleared away
pub record IsLeft (tree : Tree) (text : List ℕ) (mended : Tree) (left : Left) : Type 0 where
  pub journal : left.journal ≡ text
  pub book : left.book ≡ book_to_put tree mended
  pub own : left.own.items ≡ own_files tree mended
  pub settle : AreToSettle tree text left.to_settle.items

-- something was left
abbrev pub HasLeft : Tree → List ℕ → Mended → Type 0
HasLeft tree text mended = MatchOption mended.left ⊥ (IsLeft tree text mended.tree)
