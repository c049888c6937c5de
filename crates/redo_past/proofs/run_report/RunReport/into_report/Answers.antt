use Rattle.std.proofs.Common.{◌≡◌, ◌∙◌, ap}
use Rattle.std.specs.Global.{Vec}
use Rattle.redo_report.specs.declared.report.Report.{Report}
use Rattle.redo_which.specs.Candidates.{book_path}
use Rattle.redo_past.specs.inside.Books.{new_text, with_more}
use Rattle.redo_past.proofs.FileLemmas.{File}
use Rattle.redo_past.proofs.RoomLemmas.{is-more}
use Rattle.redo_past.proofs.run_report.RunReport.into_report.Goals as goal

-- the book is put in its place, for which there is room
pub returns : goal.returns
returns c =
    let report = c.self.inside.report in
    let past = c.self.inside.past in
    let at = c.self.inside.book.at in
    let place = c.self.invariant.place in
    let files : Vec File = report.files in
    let path : c.in_ok-book_path.field-0 ≡ book_path = c.in_ok-book_path.ensures in
    let text : c.in_ok-new.field-0 ≡ new_text past report.rows.items = c.in_ok-new.ensures ∙ c.in_ok-text.ensures ∙ ap (new_text past) (c.new-rows.ensures ∙ c.deref.ensures.value) in
    let file : ◌≡◌ {A = File} (c.in_ok-book_path.field-0, c.in_ok-new.field-0) (book_path, new_text past report.rows.items) = λ i. (path i, text i) in
    let put : c.insert.new.self ≡ with_more files at (c.in_ok-book_path.field-0, c.in_ok-new.field-0) =
    is-more files c.insert.new.self at (c.in_ok-book_path.field-0, c.in_ok-new.field-0) place.room place.within c.in_ok-insert.ensures.items (c.in_ok-insert.ensures.in_place place.room) in
    let P : Vec File → Report = λ v. record { rows = report.rows; files = v; begun = report.begun } in
    ap P (put ∙ ap (with_more files at) file) ∙ c.self.view_is
