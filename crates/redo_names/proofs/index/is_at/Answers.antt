use Rattle.std.proofs.Common.{◌≡◌, Some, sym, ap, refl, ◌∙◌, length, slice_get}
use Rattle.std.proofs.lemmas.Option.{slice_get_past, slice_get_read, none-some, same_Some}
use Rattle.std.specs.Cmp.Lexicographic.{bytes_decides}
use Rattle.redo_names.proofs.index.is_at.Goals as goal

pub returns-in-Some : goal.returns-in-Some
returns-in-Some c =
    let h = c.in-Some.ensures.lookup in
    let paths = c.args.paths.now in
    let path = c.in-Some.path.now in
    let there : slice_get paths c.args.number ≡ Some path = slice_get_read paths (length paths) c.args.number path refl h.3.0 h.1 in
    let decides = bytes_decides path c.args.text.now in (
      λ yes. there ∙ ap Some (decides.0 (sym c.has_text.ensures ∙ yes)),
      λ e. c.has_text.ensures ∙ decides.1 (same_Some path c.args.text.now (sym there ∙ e)),
    )

pub returns-in-None : goal.returns-in-None
returns-in-None c =
    let h = c.in-None.ensures.lookup in
    (λ no. cc, λ e. absurd (none-some c.args.text.now (sym (slice_get_past c.args.paths.now c.args.number h.3) ∙ e)))
