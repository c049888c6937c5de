-- A tree without a book stands after any runs.
use Rattle.std.proofs.Common.{◌≡◌, ◌∙◌, ℕ, List, [], None, ap, subst, Option, arith}
use Rattle.std.specs.Prelude.{Contains, MatchOption}
use Rattle.redo_book.specs.Book.{IsText, Record}
use Rattle.redo_tree.specs.Tree.{Tree, file_at}
use Rattle.redo_which.specs.Candidates.{book_path}
use Rattle.redo_history.specs.Histories.{HasRecordsOf, Run}

no-book : (before : List Run) (tree : Tree) → file_at tree book_path ≡ None → HasRecordsOf before tree
no-book before tree empty past of r at =
    let M : Option (List ℕ) → Type 0 = λ o. MatchOption o (past.book ≡ []) (λ text. IsText text past.book) in
    let none : past.book ≡ [] = subst M (ap (λ (t : Tree). file_at t book_path) of.of_tree ∙ empty) of.is_past.book in
    let bad : Contains [] r = subst (λ (b : List Record). Contains b r) none at in
    absurd (omega (arith, bad.1))
