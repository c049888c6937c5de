use Rattle.std.proofs.Common.{◌∙◌, ◌++◌, [], ap, append_assoc, drop, map, refl, take}
use Rattle.std.specs.Prelude.{codes, flat_map}
use Rattle.std.proofs.KnownBytes.{Appends-nil, Appends-trans}
use Rattle.redo_which.specs.Candidates.{book_path}
use Rattle.redo_book.specs.Book.{book_lines, text_of}
use Rattle.redo_report.specs.ReportText.{file_text, head_text}
use Rattle.redo_report.proofs.WritingLemmas.{writes-failed, writes-last}
use Rattle.redo_past.specs.inside.Books.{record_in}
use Rattle.redo_past.proofs.WholeLemmas.{from, from-is, report-parts}
use Rattle.redo_past.proofs.run_report.write_with_book.Goals as goal

pub returns-in_err-write_head-clause-writes : goal.returns-in_err-write_head-clause-writes
returns-in_err-write_head-clause-writes g c =
    let report = c.args.report.now in
    let at = c.args.book.at in
    let text = text_of (book_lines (map (record_in c.args.states.now) c.args.items.now)) in
    let head = head_text report in
    let before = flat_map file_text (take at report.files.items) in
    let book = file_text (book_path, text) in
    let after = flat_map file_text (drop at report.files.items) in
    writes-failed _ c.in_err-write_head.field-0.0 c.from_residual.result c.from_residual.ensures.1 _ _ _
    [] head (before ++ (book ++ (after ++ codes "end\n"))) _
    (report-parts report at text (take at report.files.items) (drop at report.files.items) refl refl
    ∙ append_assoc ((head ++ before) ++ book) after (codes "end\n") ∙ append_assoc (head ++ before) book (after ++ codes "end\n") ∙ append_assoc head before (book ++ (after ++ codes "end\n")))
    (Appends-nil _) c.in_err-write_head.ensures.writes

pub returns-in_err-write_files-clause-writes : goal.returns-in_err-write_files-clause-writes
returns-in_err-write_files-clause-writes g c =
    let report = c.args.report.now in
    let at = c.args.book.at in
    let text = text_of (book_lines (map (record_in c.args.states.now) c.args.items.now)) in
    let head = head_text report in
    let before = flat_map file_text (take at c.deref.result.now) in
    let book = file_text (book_path, text) in
    let after = flat_map file_text (drop at report.files.items) in
    writes-failed _ c.in_err-write_files.field-0.0 c.from_residual-in_err-write_files.result c.from_residual-in_err-write_files.ensures.1 _ _ _
    head before (book ++ (after ++ codes "end\n")) _
    (report-parts report at text (take at c.deref.result.now) (drop at report.files.items) (ap (take at) c.deref.ensures.value) refl
    ∙ append_assoc ((head ++ before) ++ book) after (codes "end\n") ∙ append_assoc (head ++ before) book (after ++ codes "end\n"))
    c.in_ok-write_head.ensures.writes c.in_err-write_files.ensures.writes

pub returns-in_err-write_book-clause-writes : goal.returns-in_err-write_book-clause-writes
returns-in_err-write_book-clause-writes g c =
    let report = c.args.report.now in
    let at = c.args.book.at in
    let text = text_of (book_lines (map (record_in c.args.states.now) c.args.items.now)) in
    let head = head_text report in
    let before = flat_map file_text (take at c.deref.result.now) in
    let book = file_text (book_path, text) in
    let after = flat_map file_text (drop at report.files.items) in
    writes-failed _ c.in_err-write_book.field-0.0 c.from_residual-in_err-write_book.result c.from_residual-in_err-write_book.ensures.1 _ _ _
    (head ++ before) book (after ++ codes "end\n") _
    (report-parts report at text (take at c.deref.result.now) (drop at report.files.items) (ap (take at) c.deref.ensures.value) refl
    ∙ append_assoc ((head ++ before) ++ book) after (codes "end\n"))
    (Appends-trans _ _ _ _ _ c.in_ok-write_head.ensures.writes c.in_ok-write_files.ensures.writes) c.in_err-write_book.ensures.writes

pub returns-in_err-write_files-2-clause-writes : goal.returns-in_err-write_files-2-clause-writes
returns-in_err-write_files-2-clause-writes g c =
    let report = c.args.report.now in
    let at = c.args.book.at in
    let text = text_of (book_lines (map (record_in c.args.states.now) c.args.items.now)) in
    let head = head_text report in
    let before = flat_map file_text (take at c.deref.result.now) in
    let book = file_text (book_path, text) in
    let after = flat_map file_text (from at c.deref-2.result.now) in
    writes-failed _ c.in_err-write_files-2.field-0.0 c.from_residual-in_err-write_files-2.result c.from_residual-in_err-write_files-2.ensures.1 _ _ _
    ((head ++ before) ++ book) after (codes "end\n") _
    (report-parts report at text (take at c.deref.result.now) (from at c.deref-2.result.now) (ap (take at) c.deref.ensures.value) (from-is at c.deref-2.result.now ∙ ap (drop at) c.deref-2.ensures.value))
    (Appends-trans _ _ _ _ _ (Appends-trans _ _ _ _ _ c.in_ok-write_head.ensures.writes c.in_ok-write_files.ensures.writes) c.in_ok-write_book.ensures.writes) c.in_err-write_files-2.ensures.writes

pub returns-clause-writes : goal.returns-clause-writes
returns-clause-writes g c =
    let report = c.args.report.now in
    let at = c.args.book.at in
    let text = text_of (book_lines (map (record_in c.args.states.now) c.args.items.now)) in
    let head = head_text report in
    let before = flat_map file_text (take at c.deref.result.now) in
    let book = file_text (book_path, text) in
    let after = flat_map file_text (from at c.deref-2.result.now) in
    writes-last c.write_end.result _ _ _ (((head ++ before) ++ book) ++ after) (codes "end\n") _
    (report-parts report at text (take at c.deref.result.now) (from at c.deref-2.result.now) (ap (take at) c.deref.ensures.value) (from-is at c.deref-2.result.now ∙ ap (drop at) c.deref-2.ensures.value))
    (Appends-trans _ _ _ _ _ (Appends-trans _ _ _ _ _ (Appends-trans _ _ _ _ _ c.in_ok-write_head.ensures.writes c.in_ok-write_files.ensures.writes) c.in_ok-write_book.ensures.writes) c.in_ok-write_files-2.ensures.writes) c.write_end.ensures.writes
