use Rattle.std.proofs.Common.{◌≡◌, ◌∙◌, ◌++◌, ◌∷◌, [], ap, append-nil, map, rules, sym, take, Option}
use Rattle.std.specs.List.{cons_option}
use Rattle.std.specs.Prelude.{filter_map}
use Rattle.redo_names.specs.Paths.{is_among}
use Rattle.redo_book.specs.Book.{record_of}
use Rattle.redo_clean.specs.Planned.{File}
use Rattle.redo_dead.specs.inside.Files.{dead_file}
use Rattle.redo_clean.proofs.PlanLemmas.{found-more}
use Rattle.redo_dead.proofs.dead.untold.Goals as goal
use Rattle.redo_dead.proofs.dead.untold.Goals.{in-Some+in_ok-push, in_default}

pub loop-made-preserved : goal.loop-made-preserved
loop-made-preserved c =
    let f = dead_file (is_among c.args.told.now) c.args.past.now.tree in
    let rs = c.records-made-items.result.now in
    let i = c.loop-made.made-index in
    let r = c.made-item.result in
    let before = filter_map f (map record_of (take i rs)) in
    let more = found-more f record_of rs i r c.loop-made-test.true c.made-item.is in
    let told : c.in_ok-file.field-0 ≡ f (record_of r) = search rules in
    let put = λ (o : Option File). before ++ cons_option o [] in
    elim c.match-branch-2.branch [
      | in-Some+in_ok-push w ↦
          ap (λ v. v.items) w.dead-is ∙ w.in_ok-push.ensures.items ∙ ap (λ fs. fs ++ w.in-Some.file ∷ []) c.loop-made.invariant
          ∙ ap put (sym w.in-Some.is ∙ told) ∙ sym more
      | in_default w ↦
          ap (λ v. v.items) w.dead-is ∙ c.loop-made.invariant ∙ sym (append-nil before) ∙ ap put (sym w.in_default.is ∙ told)
          ∙ sym more
    ]
