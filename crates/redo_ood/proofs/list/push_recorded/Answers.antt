use Rattle.std.proofs.Common.{◌≡◌, ◌∙◌, ◌++◌, Some, ap, arith, length, map, refl, sym}
use Rattle.std.specs.Prelude.{option_map}
use Rattle.redo_book.specs.Book.{record_of}
use Rattle.redo_list.specs.Lists.{listed_view}
use Rattle.redo_rules.specs.Build.{checks_for, sources_for}
use Rattle.redo_step.specs.Limits.{LimitsView}
use Rattle.redo_ood.specs.Listing.{listed_for, run_over}
use Rattle.redo_ood.specs.declared.verdicts.Row.{Row}
use Rattle.redo_ood.specs.inside.Lines.{listed_told, told_of, word_as}
use Rattle.redo_ood.specs.inside.Verdicts.{in_table}
use Rattle.redo_ood.proofs.ItemLemmas.{items-length, rows-long}
use Rattle.redo_ood.proofs.ListedLemmas.{numbered-items, numbered-record, record-told}
use Rattle.redo_ood.proofs.list.push_recorded.Goals as goal

pub bounds-outlook-number : goal.bounds-outlook-number
bounds-outlook-number c =
    let past = c.args.outlook.now.past.now in
    let request = c.args.outlook.now.requested.now in
    let limits : LimitsView = record { targets = 0; file_bytes = 0 } in
    let given = run_over past request limits in
    let long = rows-long (sources_for given) (checks_for given) past.book past.book c.args.outlook.now.rows.now
    (c.requires.known.rows request limits (λ p. refl)) in
    omega (arith, long, c.requires.number)

pub word_of-requires : goal.word_of-requires
word_of-requires c =
    let past = c.args.outlook.now.past.now in
    let request = c.args.outlook.now.requested.now in
    let limits : LimitsView = record { targets = 0; file_bytes = 0 } in
    let given = run_over past request limits in
    let made = c.index-records-number.result in
    let row = c.index-outlook-number.result in
    let items = numbered-items given c.args.outlook.now.rows.now (c.requires.known.rows request limits (λ p. refl))
    c.records.result.now c.args.number made row (c.records.ensures.records ∙ c.book.ensures.book) c.requires.number
    c.index-records-number.is c.index-outlook-number.is in
    items-length (sources_for given) (checks_for given) past.book made.entries.items row.items.items items
    ∙ ap (λ (y : Row). length y.items.items) c.index-outlook-number.is ∙ ap length (sym c.deref.ensures.value)

pub returns : goal.returns
returns c = λ request limits same r h.
    let past = c.args.outlook.now.past.now in
    let given = run_over past request limits in
    let rows = c.args.outlook.now.rows.now in
    let are = c.requires.known.rows request limits same in
    let made = c.index-records-number.result in
    let row = c.index-outlook-number.result in
    let book = c.records.ensures.records ∙ c.book.ensures.book in
    let items = numbered-items given rows are c.records.result.now c.args.number made row book c.requires.number
    c.index-records-number.is c.index-outlook-number.is in
    let there = numbered-record given rows are c.records.result.now c.args.number made row book c.requires.number
    c.index-records-number.is c.index-outlook-number.is in
    let both : Some r ≡ Some (record_of made) = sym h ∙ there in
    let one : r ≡ record_of made = cc in
    let before = map listed_view c.args.listed.now.items in
    let tells = told_of past (in_table c.args.outlook.now.table.now) (record_of made) in
    let word : option_map word_as c.in_ok-word.word ≡ tells row.items.items =
    c.in_ok-word.ensures ∙ ap tells (c.deref.ensures.value ∙ ap (λ (y : Row). y.items.items) (sym c.index-outlook-number.is)) in
    let told : listed_told past.sources made.target (tells row.items.items) ≡ listed_for given (record_of made) =
    record-told given rows c.args.outlook.now.table.now are c.requires.known.verdicts (record_of made) row.items.items items in
    c.in_ok-push_told.ensures
    ∙ ap (λ tree. before ++ listed_told tree made.target (option_map word_as c.in_ok-word.word))
    (c.deref-2.ensures ∙ c.sources.ensures.sources)
    ∙ ap (λ t. before ++ listed_told past.sources made.target t) word
    ∙ ap (λ l. before ++ l) (told ∙ ap (listed_for given) (sym one))
