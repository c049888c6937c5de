use Rattle.std.proofs.Common.{◌∙◌, ◌≡◌, ◌<◌, length, slice_get, sym, subst, false}
use Rattle.std.specs.Prelude.{IfSome, option_and_then}
use Rattle.redo_names.specs.Paths.{is_among}
use Rattle.redo_past.specs.Past.{intact_record}
use Rattle.redo_core.proofs.CheckSteps.{found-check}
use Rattle.redo_core.proofs.check.record_in_check.Goals as goal

pub returns : goal.returns
returns c =
    let given = c.args.given.now in
    let p = c.args.target.now in
    let free : is_among given.request p ≡ false = sym c.is_requested.ensures ∙ c.if-is_requested.false in
    found-check given p c.intact.result free c.requires
    (subst (λ v. option_and_then (λ n. slice_get v.book n) c.intact.result ≡ intact_record v p) c.past.ensures c.intact.ensures.found)
    (subst (λ v. IfSome c.intact.result (λ n. n < length v.book)) c.past.ensures c.intact.ensures.within)
