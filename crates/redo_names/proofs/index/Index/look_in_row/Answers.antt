use Rattle.std.proofs.Common.{◌≡◌, ◌-◌, ◌∙◌, ap, sym, arith, length, slice_index}
use Rattle.std.specs.Prelude.{bit_and}
use Rattle.redo_names.specs.inside.Index.{start_of, IsTried}
use Rattle.redo_names.proofs.IndexLemmas.{absent-free}
use Rattle.redo_names.proofs.index.Index.look_in_row.Goals as goal

pub returns-then-place-eq0 : goal.returns-then-place-eq0
returns-then-place-eq0 c =
    let index = c.args.self.now in
    let places = index.places.items in
    let text = c.args.text.now in
    let at = c.tries.at in
    let size : index.places.len ≡ length places = omega arith in
    let start : c.start_of-start.result ≡ start_of text (length places) = c.start_of-start.ensures.start ∙ ap (λ h. bit_and h (c.len.result - 8)) c.hash_of-hash.ensures ∙ ap (start_of text) (c.len.ensures ∙ size) in
    let tried : IsTried places text at = record { from = omega arith; near = omega arith; taken = c.tries.invariant.taken } in
    let free : slice_index places at ≡ 0 = sym c.place-place.ensures ∙ c.if-place-eq0.true in
    (absent-free index c.args.paths.now text at c.requires.finds tried free c.tries.invariant.others, c.requires.row, tried, free, c.hash_of-hash.ensures)
