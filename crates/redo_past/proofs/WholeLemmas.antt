-- The report with the new book among its files, part by part.
use Rattle.std.proofs.Common.{◌≡◌, ◌∙◌, ◌-◌, ℕ, true, List, ◌∷◌, [], ◌++◌, ap, append_assoc, arith, drop, length, refl, subst, sym, take, take_all}
use Rattle.std.proofs.lemmas.List.{length-drop}
use Rattle.std.specs.Prelude.{codes, flat_map}
use Rattle.redo_which.specs.Candidates.{book_path}
use Rattle.redo_report.specs.ReportText.{file_head, file_text, head_text, report_text}
use Rattle.redo_report.specs.declared.report.Report.{Report}
use Rattle.redo_report.proofs.LineLemmas.{file-lines}
use Rattle.redo_past.specs.NewBook.{IsWithBook, with_file}
use Rattle.redo_past.specs.Past.{PastView}
use Rattle.redo_past.specs.inside.Books.{HasPlace, new_text, text_with_book, with_book_text, with_new_book}
use Rattle.redo_past.proofs.FileLemmas.{File}
use Rattle.redo_past.proofs.ItemListLemmas.{insert-parts}
use Rattle.redo_past.proofs.RoomLemmas.{more-items}

-- a file of a size is the line before its bytes, these, and a newline
pub file-parts : (size : ℕ) (path bytes : List ℕ) → size ≡ length bytes → file_text (path, bytes) ≡ (file_head size path ++ bytes) ++ 10 ∷ []
file-parts size path bytes is =
    file-lines path bytes (path, bytes) refl refl ∙ ap (λ n. file_head n path ++ (bytes ++ 10 ∷ [])) (sym is)
    ∙ sym (append_assoc (file_head size path) bytes (10 ∷ []))

-- the files from an index on
abbrev pub from : ℕ → List File → List File
from at files = take (length files - at) (drop at files)

pub from-is : (at : ℕ) (files : List File) → from at files ≡ drop at files
from-is at files =
    let l : length (drop at files) ≡ length files - at = length-drop at files in
    take_all (length files - at) (drop at files) (omega (arith, l))

-- the report is what stands before the files, those before the book, the book, those behind it, and the end
pub report-parts : (report : Report) (at : ℕ) (text : List ℕ) (before after : List File) → before ≡ take at report.files.items → after ≡ drop at report.files.items →
    text_with_book report at text
    ≡ (((head_text report ++ flat_map file_text before) ++ file_text (book_path, text)) ++ flat_map file_text after) ++ codes "end\n"
report-parts report at text before after b a =
    let head = head_text report in
    let front = flat_map file_text before in
    let book = file_text (book_path, text) in
    let back = flat_map file_text after in
    ap (λ l. (head ++ l) ++ codes "end\n") (insert-parts file_text report.files.items at (book_path, text)
    ∙ ap (λ fs. (flat_map file_text fs ++ book) ++ flat_map file_text (drop at report.files.items)) (sym b)
    ∙ ap (λ fs. (front ++ book) ++ flat_map file_text fs) (sym a))
    ∙ ap (λ l. l ++ codes "end\n") (sym (append_assoc head (front ++ book) back) ∙ ap (λ l. l ++ back) (sym (append_assoc head front book)))

-- that is the text of the report in which the book has its place
pub whole-text : (report : Report) (at : ℕ) (text : List ℕ) → HasPlace report.files book_path at →
    text_with_book report at text ≡ report_text (with_book_text report at text) true
whole-text report at text place =
    ap (λ fs. (head_text report ++ flat_map file_text fs) ++ codes "end\n") (sym (more-items report.files at (book_path, text) place.room place.within))

-- and it is a whole report
pub with-parts : (past : PastView) (report whole : Report) (at : ℕ) (text : List ℕ) → HasPlace report.files book_path at → text ≡ new_text past report.rows.items →
    with_new_book past report at ≡ whole → IsWithBook report text whole
with-parts past report whole at text place is view =
    subst (IsWithBook report text) view (record {
      rows = refl;
      begun = refl;
      none = place.none;
      files = more-items report.files at (book_path, new_text past report.rows.items) place.room place.within ∙ place.place (new_text past report.rows.items)
          ∙ ap (with_file report.files.items book_path) (sym is);
    })
