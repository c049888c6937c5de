use Rattle.std.proofs.Common.{◌∙◌, ap, refl, Some}
use Rattle.redo_names.specs.inside.Index.{mark_of}
use Rattle.redo_names.proofs.IndexLemmas.{entered-again, entered-few, entered-free, entered-over}
use Rattle.redo_names.proofs.index.Index.enter.Goals as goal

pub returns-in-Found-clause-entered : goal.returns-in-Found-clause-entered
returns-in-Found-clause-entered c =
    entered-again c.args.self.now c.args.paths.now c.args.text.now c.in-Found.number c.requires.index c.requires.room c.in-Found.ensures

pub returns-in-Few-clause-entered : goal.returns-in-Few-clause-entered
returns-in-Few-clause-entered c =
    entered-few c.args.self.now c.args.paths.now c.args.text.now c.requires.index c.requires.room c.in-Few.ensures.1

pub returns-in_ok-next_number-in-Free-clause-entered : goal.returns-in_ok-next_number-in-Free-clause-entered
returns-in_ok-next_number-in-Free-clause-entered c =
    let spot = c.in-Free.ensures in
    let place = c.place_of.ensures in
    entered-free c.args.self.now _ c.args.paths.now c.args.text.now c.in-Free.at c.place_of.result c.requires.index spot.1 spot.2 spot.3 place.used
    (place.number ∙ c.in_ok-next_number-in-Free.ensures.number) (place.mark ∙ ap mark_of spot.4) refl refl

pub returns-in_ok-put_over-in-Over-clause-entered : goal.returns-in_ok-put_over-in-Over-clause-entered
returns-in_ok-put_over-in-Over-clause-entered c =
    entered-over c.args.self.now c.put_over.new.self c.args.paths.now c.args.text.now c.requires.index c.in-Over.ensures.1 c.in-Over.ensures.2 c.in_ok-put_over-in-Over.ensures.places
    (c.in_ok-put_over-in-Over.ensures.own ∙ ap Some c.in_ok-next_number-in-Over.ensures.number) c.in_ok-put_over-in-Over.ensures.others
