use Rattle.std.proofs.Common.{◌∙◌, ap, length, subst, sym}
use Rattle.std.specs.List.{AllByRecursion, IsDistinct}
use Rattle.redo_digest.specs.Digest.{state_of}
use Rattle.redo_record.specs.Answers.{file_in}
use Rattle.redo_book.specs.Book.{IsEntry, same_entry}
use Rattle.redo_past.specs.inside.Books.{noted_in, noted_text}
use Rattle.redo_past.proofs.EntryLemmas.{noted-once}
use Rattle.redo_past.proofs.LoopLemmas.{if-so}
use Rattle.redo_past.proofs.NotedLemmas.{built-sized, state-is}
use Rattle.redo_past.proofs.sizes.built_size.Goals as goal

pub returns-clause-size : goal.returns-clause-size
returns-clause-size c =
    let files = c.args.files.now in
    let row = c.args.row.now in
    let target = c.target_size.ensures (state_of (file_in row.outcome)) (state-is _) (sym c.has_made.ensures) in
    let entries = c.in_ok-entries.ensures.size.size ∙ ap (λ ds. length (noted_text files ds)) c.deref-2.ensures in
    if-so _ _ c.add_sizes.result (λ n is. built-sized files row c.target_size.result c.in_ok-entries.entries n target entries is) c.add_sizes.ensures.sum

pub returns-clause-record : goal.returns-clause-record
returns-clause-record c =
    let of = noted_in c.args.files.now in
    if-so _ _ c.add_sizes.result (λ n is. record {
      target = (c.requires.below, c.text-path.ensures.path);
      state = state-is _;
      entries = subst (λ ds. AllByRecursion IsEntry (of ds)) c.deref-2.ensures c.in_ok-entries.ensures.size.each;
      once = subst (λ ds. IsDistinct same_entry (of ds)) c.deref.ensures (noted-once c.args.files.now c.deref.result.now c.each_once.ensures);
    }) c.add_sizes.ensures.sum
