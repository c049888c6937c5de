use Rattle.std.proofs.Common.{rules, ◌≡◌, Some}
use Rattle.redo_tree.specs.Tree.{file_at}
use Rattle.redo_which.specs.Candidates.{book_path}
use Rattle.redo_past.proofs.OldLemmas.{file-front}
use Rattle.redo_past.proofs.old_records.book_text.Goals as goal

pub returns-in-Some : goal.returns-in-Some
returns-in-Some c =
    let at : file_at c.args.past.now.tree book_path ≡ Some c.in-Some.text.now = search rules in
    file-front c.args.past.now c.in-Some.text.now c.tree.ensures.past at
