use Rattle.std.proofs.Common.{◌≡◌, ◌∙◌, ◌||◌, ap, false, rules, sym}
use Rattle.std.specs.Option.{option_map_or}
use Rattle.std.specs.Str.{bytes_eq}
use Rattle.redo_names.specs.Paths.{is_among, with_path}
use Rattle.redo_names.proofs.PathLemmas.{is_among-with}
use Rattle.redo_record.specs.Progress.{changed}
use Rattle.redo_notes.proofs.asked.add_change.Goals as goal

pub returns-in_ok-insert-in-Change : goal.returns-in_ok-insert-in-Change
returns-in_ok-insert-in-Change c = λ p.
    let x = c.args.dep.now.path in
    let put : c.insert.new.self ≡ with_path c.args.asked.now x = search rules in
    ap (λ ps. is_among ps p) put ∙ is_among-with c.args.asked.now x p
    ∙ ap (λ k. is_among c.args.asked.now p || option_map_or (λ q. bytes_eq q p) (changed k x) false) (sym c.in-Change.is)
