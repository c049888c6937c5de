use Rattle.std.proofs.Common.{◌∙◌, ◌<◌, ◌++◌, ◌∷◌, [], ap, arith, length, map, sym, take}
use Rattle.redo_book.specs.Book.{record_of}
use Rattle.redo_past.proofs.OldLemmas.{first-front, records-more, rest-front}
use Rattle.redo_past.proofs.old_records.records_of.Goals as goal

pub cut_first-requires : goal.cut_first-requires
cut_first-requires c =
    let records = c.records-records.result.now in
    let i = c.loop-record.record-index in
    let below : i < length records = omega (arith, c.loop-record-test.true) in
    first-front records i c.record-item.result below c.record-item.is c.loop-record.rest.now c.loop-record.invariant.left

pub loop-record-preserved : goal.loop-record-preserved
loop-record-preserved c =
    let records = c.records-records.result.now in
    let i = c.loop-record.record-index in
    let x = c.record-item.result in
    let below : i < length records = omega (arith, c.loop-record-test.true) in
    let done = map record_of (take i records) in
    record {
      are = c.in_ok-push.ensures.items ∙ ap (λ rs. rs ++ c.in_ok-first.first ∷ []) c.loop-record.invariant.are ∙ ap (λ r. done ++ r ∷ []) c.in_ok-first.ensures.first
          ∙ sym (records-more records i x below c.record-item.is);
      left = rest-front records i x below c.record-item.is c.loop-record.rest.now c.in_ok-first.behind.now c.in_ok-first.ensures.rest c.loop-record.invariant.left;
    }
