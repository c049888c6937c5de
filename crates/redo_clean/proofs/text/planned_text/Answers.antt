use Rattle.std.proofs.Common.{◌≡◌, ◌∙◌, ◌<◌, ◌++◌, List, ap, length, slice_index_or, subst, sym}
use Rattle.redo_clean.specs.Planned.{File}
use Rattle.redo_clean.specs.Texts.{planned_line}
use Rattle.redo_clean.proofs.TextLemmas.{line-more}
use Rattle.redo_clean.proofs.text.planned_text.Goals as goal

pub loop-path-preserved : goal.loop-path-preserved
loop-path-preserved c =
    let files : List File = c.args.plan.now.generated.items in
    let file : File = c.loop-path-item.result in
    let i = c.loop-path.path-index in
    let same = c.deref-path-items.ensures.value in
    let below : i < length files = subst (λ (fs : List File). i < length fs) same c.loop-path-test.true in
    let here : file ≡ slice_index_or files i file = subst (λ (fs : List File). file ≡ slice_index_or fs i file) same c.loop-path-item.is in
    c.in_ok-push_planned.ensures ∙ ap (λ text. text ++ planned_line file.0) c.loop-path.invariant
    ∙ sym (line-more planned_line (λ (f : File). f.0) files i file below here)
