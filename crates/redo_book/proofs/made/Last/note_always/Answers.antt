use Rattle.std.proofs.Common.{sym, ◌∙◌}
use Rattle.redo_book.proofs.EntryLemmas.{always_now, deps_always}
use Rattle.redo_book.proofs.made.Last.note_always.Goals as goal

pub returns-clause-kept : goal.returns-clause-kept
returns-clause-kept c = (c.requires.0 ∙ sym (deps_always c.args.self.now.book_record.entries.items), sym (always_now c.args.self.now.book_record.entries.items))
