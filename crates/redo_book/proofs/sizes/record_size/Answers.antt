use Rattle.std.proofs.Common.{◌≡◌, ◌≤◌, ◌<◌, ◌+◌, ◌^◌, ◌∙◌, ap, get_or, length, arith, refl}
use Rattle.std.proofs.lemmas.Grind.{common_steps}
use Rattle.std.proofs.lemmas.Result.{err_from_is_err_and}
use Rattle.redo_book.specs.Book.{target_line}
use Rattle.redo_book.proofs.WriteLemmas.{sized-within}
use Rattle.redo_book.proofs.sizes.record_size.Goals as goal

pub returns-in_err-size-clause-refused : goal.returns-in_err-size-clause-refused
returns-in_err-size-clause-refused c =
    let of = c.args.record.now in
    let i = c.loop-entry.entry-index in
    let below : i < length of.entries.items = grind (arith, common_steps) in
    let big = c.in_err-size.ensures.refused.0 refl in
    let within = sized-within (target_line of.state of.target) of.entries.items i c.entry-item.result below (c.entry-item.is ∙ ap (λ es. get_or es i c.entry-item.result) c.deref-entry-items.ensures.value) in
    let p = err_from_is_err_and c.from_residual.result c.from_residual.ensures.1 in
    rw p.1 (omega (arith, big, within, c.loop-entry.invariant, c.entry_size.ensures))
