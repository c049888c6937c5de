use Rattle.std.proofs.Common.{◌≡◌, [], ◌∷◌, ◌++◌, Some, ap, map, sym, ◌∙◌}
use Rattle.std.specs.Option.{option_to_list}
use Rattle.std.specs.Prelude.{option_map}
use Rattle.redo_book.specs.Book.{record_of}
use Rattle.redo_book.specs.inside.Reading.{made_of, records_of}
use Rattle.redo_book.proofs.made.Made.add_target.Goals as goal

pub returns-clause-adds : goal.returns-clause-adds
returns-clause-adds c =
    let before = map record_of c.args.self.now.done.items in
    let done : records_of (made_of c.args.self.now) ≡ map record_of c.put_whole.new.done.items =
    ap (λ last. before ++ option_to_list (option_map (λ l. record_of l.book_record) last)) c.in-Some.is
    ∙ ap (λ whole. before ++ record_of whole ∷ []) (sym c.in_ok-whole.ensures.whole) ∙ sym c.in_ok-put_whole.ensures in
    let last = c.in_ok-whole.ensures.bare in
    let may = sym c.may_follow.ensures ∙ c.if-not-may_follow.false in
    rw may (λ i. Some (record { done = done i; last = Some (sym last i) }))
