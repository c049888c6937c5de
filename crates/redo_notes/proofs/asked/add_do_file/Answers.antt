use Rattle.std.proofs.Common.{◌≡◌, ◌∙◌, ◌||◌, Some, ap, rules, sym}
use Rattle.std.specs.Prelude.{option_copied}
use Rattle.std.specs.Str.{bytes_eq}
use Rattle.redo_names.specs.Paths.{is_among, with_path}
use Rattle.redo_names.proofs.PathLemmas.{is_among-with, or-false}
use Rattle.redo_record.specs.Entries.{change_of}
use Rattle.redo_record.specs.Progress.{changes}
use Rattle.redo_notes.proofs.asked.add_do_file.Goals as goal

pub returns-in_ok-insert-in-Some : goal.returns-in_ok-insert-in-Some
returns-in_ok-insert-in-Some c = λ p.
    let x = c.in-Some.path.now in
    let file : option_copied c.args.do_file ≡ Some x = search rules in
    let put : c.insert.new.self ≡ with_path c.args.asked.now x = search rules in
    ap (λ ps. is_among ps p) put ∙ is_among-with c.args.asked.now x p
    ∙ ap (λ b. is_among c.args.asked.now p || b) (sym (or-false (bytes_eq x p)))
    ∙ ap (λ f. is_among c.args.asked.now p || is_among (changes (change_of f)) p) (sym file)
