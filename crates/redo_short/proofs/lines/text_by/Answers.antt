use Rattle.std.proofs.Common.{◌≡◌, ◌++◌, ◌∙◌, ap, codes, flat_map}
use Rattle.redo_names.specs.Paths.{is_among}
use Rattle.redo_short.specs.Short.{row_lines, summary_of}
use Rattle.redo_short.proofs.lines.text_by.Goals as goal

pub returns : goal.returns
returns c =
    c.in_ok-push_summary.ensures
    ∙ ap (λ text. text ++ summary_of (is_among c.args.begun.now) c.args.rows.now ++ codes "\n")
    (c.in_ok-push_rows.ensures
    ∙ ap (λ text. text ++ flat_map (row_lines (is_among c.args.begun.now)) c.args.rows.now) c.new-text.ensures.items)
