use Rattle.std.proofs.Common.{◌≡◌, ◌∙◌, ℕ, Bool, List, false, ap, rules, subst, sym}
use Rattle.std.specs.Prelude.{is_some}
use Rattle.std.specs.List.{list_any}
use Rattle.redo_book.specs.Book.{Record}
use Rattle.redo_book.specs.declared.book.BookRecord.{BookRecord}
use Rattle.redo_path.specs.Names.{below_of}
use Rattle.redo_lenient.specs.Lenient.{HasNoneBelow, has_target_below}
use Rattle.redo_lenient.proofs.BookLemmas.{targets_of_records}
use Rattle.redo_lenient.proofs.books.has_none_below.Goals as goal

pub returns-in-Ok : goal.returns-in-Ok
returns-in-Ok c = λ none.
    let dir = c.args.dir.now in
    let no : c.has_below.result ≡ false = search rules in
    let of_this : has_target_below dir c.in-Ok.book ≡ false =
    ap (has_target_below dir) (sym c.records.ensures.records) ∙ sym (targets_of_records dir c.records.result.now)
    ∙ sym c.has_below.ensures ∙ no in
    λ other is. ap (has_target_below dir) (c.in-Ok.ensures.only other is) ∙ of_this
