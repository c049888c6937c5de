use Rattle.std.proofs.Common.{◌≡◌, ◌∙◌, List, [], ap, append-nil, map, subst, sym, true}
use Rattle.std.specs.Io.KnownBytes.{Appends}
use Rattle.std.proofs.KnownBytes.{Appends-nil}
use Rattle.redo_book.specs.Book.{book_lines, text_of}
use Rattle.redo_report.specs.ReportText.{report_text}
use Rattle.redo_report.specs.declared.report.Row.{Row}
use Rattle.redo_report.proofs.WritingLemmas.{writes-failed}
use Rattle.redo_past.specs.inside.Books.{StatesView, new_records, new_text, record_in, text_with_book}
use Rattle.redo_past.proofs.WholeLemmas.{whole-text}
use Rattle.redo_past.proofs.run_report.RunReport.write.Goals as goal

pub returns-in_err-write_with_book-clause-writes : goal.returns-in_err-write_with_book-clause-writes
returns-in_err-write_with_book-clause-writes g c =
    let past = c.self.inside.past in
    let report = c.self.inside.report in
    let at = c.self.inside.book.at in
    let states : StatesView = record { sources = past.sources; rows = report.rows.items } in
    let is : c.in_ok-states.states ≡ states =
    subst (λ (rs : List Row). c.in_ok-states.states ≡ record { sources = past.sources; rows = rs }) (c.new-rows.ensures ∙ c.deref.ensures.value) c.in_ok-states.ensures.states in
    let are : map (record_in c.in_ok-states.states) c.deref-2.result.now ≡ new_records past report.rows.items =
    ap (λ s. map (record_in s) c.deref-2.result.now) is ∙ ap (map (record_in states)) c.deref-2.ensures.value
    ∙ subst (λ (rs : List Row). map (record_in (record { sources = past.sources; rows = rs })) c.in_ok-states.items.items ≡ new_records past rs) (c.new-rows.ensures ∙ c.deref.ensures.value) c.in_ok-states.ensures.items.are in
    let whole : text_with_book report at (text_of (book_lines (map (record_in c.in_ok-states.states) c.deref-2.result.now))) ≡ report_text c.args.self.now true =
    ap (λ rs. text_with_book report at (text_of (book_lines rs))) are ∙ whole-text report at (new_text past report.rows.items) c.self.invariant.place ∙ ap (λ r. report_text r true) c.self.view_is in
    writes-failed _ c.in_err-write_with_book.field-0.0 c.from_residual-in_err-write_with_book.result c.from_residual-in_err-write_with_book.ensures.1 _ _ _
    [] (text_with_book report at (text_of (book_lines (map (record_in c.in_ok-states.states) c.deref-2.result.now)))) [] _
    (sym whole ∙ sym (append-nil _)) (Appends-nil _) c.in_err-write_with_book.ensures.writes

pub returns-clause-writes : goal.returns-clause-writes
returns-clause-writes g c =
    let past = c.self.inside.past in
    let report = c.self.inside.report in
    let at = c.self.inside.book.at in
    let states : StatesView = record { sources = past.sources; rows = report.rows.items } in
    let is : c.in_ok-states.states ≡ states =
    subst (λ (rs : List Row). c.in_ok-states.states ≡ record { sources = past.sources; rows = rs }) (c.new-rows.ensures ∙ c.deref.ensures.value) c.in_ok-states.ensures.states in
    let are : map (record_in c.in_ok-states.states) c.deref-2.result.now ≡ new_records past report.rows.items =
    ap (λ s. map (record_in s) c.deref-2.result.now) is ∙ ap (map (record_in states)) c.deref-2.ensures.value
    ∙ subst (λ (rs : List Row). map (record_in (record { sources = past.sources; rows = rs })) c.in_ok-states.items.items ≡ new_records past rs) (c.new-rows.ensures ∙ c.deref.ensures.value) c.in_ok-states.ensures.items.are in
    let whole : text_with_book report at (text_of (book_lines (map (record_in c.in_ok-states.states) c.deref-2.result.now))) ≡ report_text c.args.self.now true =
    ap (λ rs. text_with_book report at (text_of (book_lines rs))) are ∙ whole-text report at (new_text past report.rows.items) c.self.invariant.place ∙ ap (λ r. report_text r true) c.self.view_is in
    subst (Appends (g.W.ByteOut.held c.args.out.now) (g.W.ByteOut.held c.write_with_book.new.out)) whole c.in_ok-write_with_book.ensures.writes
