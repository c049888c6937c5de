use Rattle.std.proofs.Common.{◌≡◌, ◌∙◌, ◌||◌, Some, None, ap, rules, sym}
use Rattle.redo_names.specs.Paths.{is_among, with_path}
use Rattle.redo_names.proofs.PathLemmas.{is_among-with, or-false}
use Rattle.redo_query.specs.Names.{path_in}
use Rattle.redo_query.proofs.NeedLemmas.{of-none, of-some}
use Rattle.redo_query.proofs.named.add_path.Goals as goal

pub returns-in_ok-insert-in-Some : goal.returns-in_ok-insert-in-Some
returns-in_ok-insert-in-Some c = λ p.
    let x = c.in-Some.path.now in
    let told : path_in c.args.entry.now ≡ Some x = search rules in
    let put : c.insert.new.self ≡ with_path c.args.named.now x = search rules in
    ap (λ ps. is_among ps p) put ∙ is_among-with c.args.named.now x p
    ∙ ap (λ b. is_among c.args.named.now p || b) (sym (of-some p c.args.entry.now x told))

pub returns-in-None : goal.returns-in-None
returns-in-None c = λ p.
    let told : path_in c.args.entry.now ≡ None = search rules in
    sym (or-false (is_among c.args.named.now p)) ∙ ap (λ b. is_among c.args.named.now p || b) (sym (of-none p c.args.entry.now told))
