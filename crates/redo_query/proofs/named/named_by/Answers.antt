use Rattle.std.proofs.Common.{◌∙◌, ◌||◌, ap, sym}
use Rattle.redo_book.specs.Book.{record_of}
use Rattle.redo_query.specs.Names.{names}
use Rattle.redo_query.proofs.AnyLemmas.{any-more-map}
use Rattle.redo_query.proofs.named.named_by.Goals as goal

pub loop-made-preserved : goal.loop-made-preserved
loop-made-preserved c = λ path.
    let items = c.args.records.now in
    let i = c.loop-made.made-index in
    let x = c.made-item.result in
    c.in_ok-add_named.ensures path ∙ ap (λ b. b || names path (record_of x.now)) (c.loop-made.invariant path)
    ∙ sym (any-more-map (names path) (λ made. record_of made.now) items i x c.loop-made-test.true c.made-item.is)
