use Rattle.std.proofs.Common.{rules, ◌≡◌, ◌∙◌, ap, refl, subst, sym}
use Rattle.std.specs.List.{AllByRecursion}
use Rattle.redo_tree.specs.Tree.{IsTree}
use Rattle.redo_book.specs.Book.{IsRecord}
use Rattle.redo_which.specs.Candidates.{book_path}
use Rattle.redo_report.specs.declared.report.Report.{Report}
use Rattle.redo_past.specs.NewBook.{IsNewBook, IsResultOf, with_file}
use Rattle.redo_past.specs.Past.{PastView, set_aside}
use Rattle.redo_past.specs.inside.Books.{HasPlace, new_records, new_text, with_new_book}
use Rattle.redo_past.proofs.CarryLemmas.{Without, no-rule}
use Rattle.redo_past.proofs.NewBookLemmas.{new-book}
use Rattle.redo_past.proofs.RoomLemmas.{more-items}
use Rattle.redo_past.proofs.past.Past.with_book_of_rows.Goals as goal

pub returns : goal.returns
returns c =
    let past = c.args.self.now in
    let report = c.args.report in
    let rows = report.rows.items in
    let at = c.in_ok-at.at in
    let law : Without past = λ p. let is : IsTree past.tree = search rules in c.no_other_file_is_taken_out.ensures past.tree (set_aside past.tree past.book) p is in
    let each : AllByRecursion IsRecord (new_records past rows) = subst (λ rs. AllByRecursion IsRecord (new_records past rs)) (c.new-rows.ensures ∙ c.deref-3.ensures.value) c.in_ok-size.ensures.each in
    let book : IsNewBook past rows (new_records past rows) = new-book past rows c.tree.ensures.past c.requires.rows law no-rule each in
    let text = new_text past rows in
    let put : Report = record { rows = report.rows; files = c.make_place.new.files; begun = report.begun } in
    let place : HasPlace put.files book_path at = subst (λ p. HasPlace put.files p at) c.in_ok-book_path.ensures c.in_ok-at.ensures.place in
    let others : with_file put.files.items book_path text ≡ with_file report.files.items book_path text =
    subst (λ p. with_file put.files.items p text ≡ with_file report.files.items p text) c.in_ok-book_path.ensures (c.in_ok-at.ensures.others text) in
    let files = more-items put.files at (book_path, text) place.room place.within ∙ place.place text ∙ others in
    let made : IsResultOf past report (with_new_book past put at) = record { rows = refl; begun = refl; book = new_records past rows; new = book; files = files } in
    let same : with_new_book past put at ≡ c.new.result = ap (λ (p : PastView). with_new_book p put at) (sym c.in_ok-share.ensures) ∙ sym c.new.ensures in
    subst (IsResultOf past report) same made

-- the book has its place
pub new-requires : goal.new-requires
new-requires c = record {
  rows = search rules;
  numbered = search rules;
  place = subst (λ p. HasPlace c.make_place.new.files p c.in_ok-at.at) c.in_ok-book_path.ensures c.in_ok-at.ensures.place;
  size = search rules;
}
