use Rattle.std.proofs.Common.{◌∙◌, ◌<◌, ◌+◌, ap, arith, length, take}
use Rattle.std.specs.Prelude.{flat_map}
use Rattle.redo_book.specs.Book.{IsRecord}
use Rattle.redo_past.specs.inside.Books.{IsSound, item_text, record_in}
use Rattle.redo_past.proofs.ItemListLemmas.{all-at, items-more, records-more}
use Rattle.redo_past.proofs.sizes.items_size.Goals as goal

pub item_size-requires-clause-sound : goal.item_size-requires-clause-sound
item_size-requires-clause-sound c =
    let below : c.loop-item.item-index < length c.args.items.now = omega (arith, c.loop-item-test.true) in
    all-at IsSound c.args.items.now c.loop-item.item-index c.item-item.result c.requires below c.item-item.is

pub loop-item-preserved : goal.loop-item-preserved
loop-item-preserved c =
    let items = c.args.items.now in
    let i = c.loop-item.item-index in
    let below : i < length items = omega (arith, c.loop-item-test.true) in
    record {
      front = c.in_ok-item_size.ensures.front ∙ c.loop-item.invariant.front;
      size = c.in_ok-size.ensures.sum ∙ ap (λ n. n + c.in_ok-item_size.field-0) c.loop-item.invariant.size ∙ ap (λ n. length (flat_map (item_text c.args.files.now) (take i items)) + n) c.in_ok-item_size.ensures.size
          ∙ items-more (item_text c.args.files.now) items i c.item-item.result below c.item-item.is;
      each = records-more IsRecord (record_in c.args.files.now) items i c.item-item.result below c.item-item.is c.loop-item.invariant.each c.in_ok-item_size.ensures.«record»;
    }
