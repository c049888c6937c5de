use Rattle.std.proofs.Common.{rules, ◌≡◌, List, None, Option, Some, subst, sym, ℕ}
use Rattle.std.specs.Prelude.{Err, IfErr, IfOk, IfSome, MatchOption, Ok}
use Rattle.redo_past.specs.Past.{RefusesBook}
use Rattle.redo_tree.specs.Tree.{Tree, file_at}
use Rattle.redo_which.specs.Candidates.{journal_path}
use Rattle.redo_mend.specs.Mended.{AreToSettle, HasNoMended}
use Rattle.redo_mend.specs.inside.Leaving.{HasLeft, IsLeft}
use Rattle.redo_dir.specs.declared.clearing.Left.{Left}
use Rattle.redo_mend.proofs.OneLemmas.{none-refused}
use Rattle.redo_mend.proofs.mending.mend.Goals as goal

pub returns-in-Some-2-clause-none : goal.returns-in-Some-2-clause-none
returns-in-Some-2-clause-none g c =
    let tree = c.args.tree in
    let whole = rw c.in-Some-2.is at c.in_ok-book.ensures in
    let file : file_at tree journal_path ≡ Some c.in_ok-text.text = search rules in
    (elim c.recover.result as (λ r. IfErr r (λ fault. RefusesBook fault tree) → IfErr r (λ fault. HasNoMended fault tree)) [
      | Ok x ↦ λ h. tt
      | Err fault ↦ λ h. none-refused c.a_book_has_no_fault.ensures tree c.in_ok-text.text c.in-Some-2.book fault file whole.0 whole.1 h
    ]) c.recover.ensures.refused

-- what was left tells by its own journal what is to be settled
settle-of : (tree : Tree) (text : List ℕ) (mended : Tree) (left : Option Left) → MatchOption left ⊥ (IsLeft tree text mended) → IfSome left (λ left. AreToSettle tree left.journal left.to_settle.items)
settle-of tree text mended None h = absurd h
settle-of tree text mended (Some left) h = subst (λ t. AreToSettle tree t left.to_settle.items) (sym h.journal) h.settle

pub returns-in-Some-2-clause-settle : goal.returns-in-Some-2-clause-settle
returns-in-Some-2-clause-settle g c =
    let tree = c.args.tree in
    let text = c.in_ok-text.text in
    (elim c.recover.result as (λ r. IfOk r (HasLeft tree text) → IfOk r (λ mended. IfSome mended.left (λ left. AreToSettle tree left.journal left.to_settle.items))) [
      | Ok mended ↦ λ h. settle-of tree text mended.tree mended.left h
      | Err fault ↦ λ h. tt
    ]) c.recover.ensures.left
