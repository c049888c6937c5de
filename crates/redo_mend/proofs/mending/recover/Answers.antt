use Rattle.std.proofs.Common.{rules, ◌≡◌, ◌∙◌, ◌∷◌, [], ap, inl, refl}
use Rattle.std.specs.Prelude.{Ok}
use Rattle.redo_tree.specs.Tree.{File, Tree, added, without}
use Rattle.redo_which.specs.Candidates.{book_path, journal_path}
use Rattle.redo_mend.specs.Mended.{book_to_put}
use Rattle.redo_mend.specs.Recovered.{standing_by}
use Rattle.redo_mend.proofs.MendLemmas.{own-left, own_of, recovers}
use Rattle.redo_mend.proofs.mending.recover.Goals as goal

pub returns-clause-mends : goal.returns-clause-mends
returns-clause-mends g c =
    let tree = c.args.tree in
    let kept = c.keep_digests_by-tree.result in
    let text = c.args.journal.text in
    let found = c.in_ok-text.ensures in
    let same : kept ≡ tree = c.keep_digests_by-tree.ensures in
    let own : c.push.new.self.items ≡ own_of kept text = search rules in
    let puts : added (without (without kept c.push.new.self.items) (book_path ∷ [])) book_path (File c.in_ok-text.text.items) ≡ Ok c.in_ok-mended.mended = search rules in
    recovers tree kept c.in_ok-mended.mended text c.in_ok-text.text.items c.push.new.self.items c.is_tree.ensures same own puts
    c.args.journal.book c.in_ok-old.old found.0 c.requires.book c.requires.place c.in_ok-old.ensures.book found.1 found.2

pub returns-clause-left : goal.returns-clause-left
returns-clause-left g c =
    let tree = c.args.tree in
    let kept = c.keep_digests_by-tree.result in
    let text = c.args.journal.text in
    let same : kept ≡ tree = c.keep_digests_by-tree.ensures in
    let own : c.push.new.self.items ≡ own_of kept text = search rules in
    let puts : added (without (without kept c.push.new.self.items) (book_path ∷ [])) book_path (File c.in_ok-text.text.items) ≡ Ok c.in_ok-mended.mended = search rules in
    record {
      journal = refl;
      book = c.in_ok-book.ensures ∙ ap (λ (t : Tree). book_to_put t c.in_ok-mended.mended) same;
      own = own-left tree kept c.in_ok-mended.mended text c.in_ok-text.text.items c.push.new.self.items c.is_tree.ensures same own puts;
      settle = inl (c.args.journal.book, c.requires.book, c.in_ok-to_settle.ensures ∙ ap (λ (t : Tree). journal_path ∷ standing_by t c.args.journal.book) same);
    }
