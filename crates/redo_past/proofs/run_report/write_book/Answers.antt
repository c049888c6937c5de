use Rattle.std.proofs.Common.{◌∙◌, ◌++◌, ◌∷◌, [], append_assoc, map}
use Rattle.std.proofs.KnownBytes.{Appends-nil, Appends-trans}
use Rattle.redo_which.specs.Candidates.{book_path}
use Rattle.redo_book.specs.Book.{book_lines, text_of}
use Rattle.redo_report.specs.ReportText.{file_head}
use Rattle.redo_report.proofs.WritingLemmas.{writes-failed, writes-last}
use Rattle.redo_past.specs.inside.Books.{record_in}
use Rattle.redo_past.proofs.WholeLemmas.{file-parts}
use Rattle.redo_past.proofs.run_report.write_book.Goals as goal

pub returns-in_err-write_file_head-clause-writes : goal.returns-in_err-write_file_head-clause-writes
returns-in_err-write_file_head-clause-writes g c =
    let text = text_of (book_lines (map (record_in c.args.states.now) c.args.items.now)) in
    let head = file_head c.args.size book_path in
    writes-failed _ c.in_err-write_file_head.field-0.0 c.from_residual.result c.from_residual.ensures.1 _ _ _
    [] head (text ++ 10 ∷ []) _ (file-parts c.args.size book_path text c.requires.size ∙ append_assoc head text (10 ∷ []))
    (Appends-nil _) c.in_err-write_file_head.ensures.writes

pub returns-in_err-write_text-clause-writes : goal.returns-in_err-write_text-clause-writes
returns-in_err-write_text-clause-writes g c =
    let text = text_of (book_lines (map (record_in c.args.states.now) c.args.items.now)) in
    writes-failed _ c.in_err-write_text.field-0.0 c.from_residual-in_err-write_text.result c.from_residual-in_err-write_text.ensures.1 _ _ _
    (file_head c.args.size book_path) text (10 ∷ []) _ (file-parts c.args.size book_path text c.requires.size)
    c.in_ok-write_file_head.ensures.writes c.in_err-write_text.ensures.writes

pub returns-clause-writes : goal.returns-clause-writes
returns-clause-writes g c =
    let text = text_of (book_lines (map (record_in c.args.states.now) c.args.items.now)) in
    writes-last c.write_all.result _ _ _ (file_head c.args.size book_path ++ text) (10 ∷ []) _ (file-parts c.args.size book_path text c.requires.size)
    (Appends-trans _ _ _ _ _ c.in_ok-write_file_head.ensures.writes c.in_ok-write_text.ensures.writes) c.write_all.ensures.writes
