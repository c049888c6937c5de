use Rattle.std.proofs.Common.{rules, ◌≡◌, ◌∙◌, ◌+◌, ◌++◌, ap, length, map, subst, sym}
use Rattle.std.proofs.lemmas.List.{length-append}
use Rattle.std.specs.List.{AllByRecursion}
use Rattle.std.specs.Prelude.{codes, flat_map}
use Rattle.redo_book.specs.Book.{IsRecord, book_lines, text_of}
use Rattle.redo_past.specs.inside.Books.{StatesView, item_text, new_records, record_in}
use Rattle.redo_past.proofs.ItemListLemmas.{items-text}
use Rattle.redo_past.proofs.LoopLemmas.{if-so}
use Rattle.redo_past.proofs.new_book.text_size.Goals as goal

pub returns-clause-size : goal.returns-clause-size
returns-clause-size c =
    let past = c.args.past.now in
    let rows = c.args.rows in
    let states : StatesView = record { sources = past.sources; rows = rows } in
    let items = c.in_ok-items.items.items in
    let is : c.new-files.result ≡ states = search rules in
    let all : c.deref-2.result.now ≡ items = c.deref-2.ensures.value in
    let text : text_of (book_lines (new_records past rows)) ≡ flat_map (item_text states) items ++ codes "end\n" =
    ap (λ rs. text_of (book_lines rs)) (sym c.in_ok-items.ensures.are) ∙ items-text states items in
    let size : c.in_ok-size.size ≡ length (flat_map (item_text states) items) =
    c.in_ok-size.ensures.size ∙ ap (λ s. length (flat_map (item_text s) c.deref-2.result.now)) is ∙ ap (λ xs. length (flat_map (item_text states) xs)) all in
    if-so _ _ c.add_sizes.result (λ n sum. sum ∙ ap (λ m. m + 4) size ∙ sym (ap length text ∙ length-append (flat_map (item_text states) items) (codes "end\n"))) c.add_sizes.ensures.sum

pub returns-clause-each : goal.returns-clause-each
returns-clause-each c =
    let past = c.args.past.now in
    let rows = c.args.rows in
    let states : StatesView = record { sources = past.sources; rows = rows } in
    let is : c.new-files.result ≡ states = search rules in
    let all : map (record_in c.new-files.result) c.deref-2.result.now ≡ new_records past rows =
    ap (λ s. map (record_in s) c.deref-2.result.now) is ∙ ap (map (record_in states)) c.deref-2.ensures.value ∙ c.in_ok-items.ensures.are in
    if-so _ _ c.add_sizes.result (λ n sum. subst (AllByRecursion IsRecord) all c.in_ok-size.ensures.each) c.add_sizes.ensures.sum
