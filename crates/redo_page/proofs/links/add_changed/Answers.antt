use Rattle.std.proofs.Common.{◌≡◌, ◌∙◌, ◌&&◌, ◌||◌, ap, rules, sym, true}
use Rattle.std.specs.Str.{bytes_eq}
use Rattle.redo_names.specs.Paths.{is_among, with_path}
use Rattle.redo_names.proofs.PathLemmas.{is_among-with}
use Rattle.redo_told.specs.Rows.{is_changed}
use Rattle.redo_page.proofs.links.add_changed.Goals as goal

pub returns-in_ok-insert : goal.returns-in_ok-insert
returns-in_ok-insert c = λ p.
    let old = c.args.set.now in
    let x = c.args.row.now.path in
    let put : c.insert.new.self ≡ with_path old x = search rules in
    let changed : is_changed c.args.before.now c.args.row.now ≡ true = search rules in
    ap (λ ps. is_among ps p) put ∙ is_among-with old x p
    ∙ ap (λ b. is_among old p || (b && bytes_eq x p)) (sym changed)
