use Rattle.std.proofs.Common.{rules, ◌≡◌, ℕ, List, Some}
use Rattle.std.specs.declared.io.ErrorKind.{ErrorKind}
use Rattle.redo_tree.specs.Tree.{Tree, file_at}
use Rattle.redo_which.specs.Candidates.{book_path}
use Rattle.redo_pack.proofs.TurnLemmas.{book-halts}
use Rattle.redo_pack.proofs.unpacking.make_book.Goals as goal

-- the book was refused
pub returns-in-Err-clause-stops : goal.returns-in-Err-clause-stops
returns-in-Err-clause-stops g c =
    let refused : List ℕ → ErrorKind → Type 0 = λ path kind. (d : g.row.D.Denot) × g.D.Making.refuses d path kind in
    let old : Tree = g.D.Making.made c.args.dir.now in let new : Tree = g.D.Making.made c.make_file.new.dir in
    let path : c.in_ok-path.path ≡ book_path = search rules in
    let book : file_at c.args.tree.now book_path ≡ Some c.in-Some.content.now = search rules in
    let kept : new ≡ old = search rules in
    book-halts refused (file_at c.args.tree.now book_path) c.in-Some.content.now c.in_ok-path.path _ old new c.unmade.result
    book path kept c.unmade.ensures (c.args.dir.now, (search rules))
