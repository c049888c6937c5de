use Rattle.std.proofs.Common.{◌≡◌, ◌∙◌, ◌||◌, ◌&&◌, ap, rules, sym, true}
use Rattle.std.specs.Str.{bytes_eq}
use Rattle.redo_names.specs.Paths.{is_among, with_path}
use Rattle.redo_names.proofs.PathLemmas.{is_among-with}
use Rattle.redo_rings.specs.Rings.{is_cyclic}
use Rattle.redo_rings.proofs.graph.add_cyclic.Goals as goal

pub returns-in_ok-insert : goal.returns-in_ok-insert
returns-in_ok-insert c = λ p.
    let row = c.args.row.now in
    let put : c.insert.new.self ≡ with_path c.args.names.now row.path = search rules in
    let cyclic : is_cyclic row.outcome ≡ true = search rules in
    ap (λ ps. is_among ps p) put ∙ is_among-with c.args.names.now row.path p
    ∙ ap (λ b. is_among c.args.names.now p || (b && bytes_eq row.path p)) (sym cyclic)
