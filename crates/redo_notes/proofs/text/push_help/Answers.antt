use Rattle.std.proofs.Common.{◌∙◌, ◌++◌, ap, codes}
use Rattle.redo_notes.proofs.TextLemmas.{three-said}
use Rattle.redo_notes.proofs.text.push_help.Goals as goal

pub returns : goal.returns
returns c =
    let note = c.args.note.now in
    c.in_ok-push_said.ensures ∙ ap (λ text. text ++ note.do_file ++ codes " make it\n") c.in_ok-push_words.ensures
    ∙ three-said c.args.text.now.items (codes ", so it counts as yours and isn't built; remove it, or build with --take, to have ") note.do_file (codes " make it\n")
