use Rattle.std.proofs.Common.{◌≡◌, ◌+◌, ◌∷◌, drop}
use Rattle.std.proofs.lemmas.Result.{err_from_is_err_and}
use Rattle.redo_step.specs.inside.Scene.{scene_setting}
use Rattle.redo_step.proofs.RoundLemmas.{drop_split, catted_begins, catted_goes, catted_stops}
use Rattle.redo_step.proofs.shell.Shell.cat.Goals as goal

pub loop-text-init : goal.loop-text-init
loop-text-init g c = catted_begins (scene_setting c.args.self.now.scene) _ _ _ c.args.texts.now c.args.sink.now

pub returns-in_err-cat_one-clause-fills : goal.returns-in_err-cat_one-clause-fills
returns-in_err-cat_one-clause-fills g c =
    let split : drop c.loop-text.text-index c.args.texts.now ≡ c.text-item.result ∷ drop (c.loop-text.text-index + 1) c.args.texts.now = drop_split c.args.texts.now c.loop-text.text-index c.text-item.result c.loop-text-test.true c.text-item.is in
    let before = rw split at c.loop-text.invariant in
    let stops = rw c.bytes.ensures at c.in_err-cat_one.ensures.fills in
    let p = err_from_is_err_and c.from_residual.result c.from_residual.ensures.1 in
    rw (p.1, p.2) (catted_stops (scene_setting c.args.self.now.scene) _ _ _ c.text-item.result (drop (c.loop-text.text-index + 1) c.args.texts.now) _ _ c.loop-text.sink c.cat_one.new.sink _ before stops)

pub loop-text-preserved : goal.loop-text-preserved
loop-text-preserved g c =
    let split : drop c.loop-text.text-index c.args.texts.now ≡ c.text-item.result ∷ drop (c.loop-text.text-index + 1) c.args.texts.now = drop_split c.args.texts.now c.loop-text.text-index c.text-item.result c.loop-text-test.true c.text-item.is in
    let before = rw split at c.loop-text.invariant in
    let goes = rw c.bytes.ensures at c.in_ok-cat_one.ensures.fills in
    catted_goes (scene_setting c.args.self.now.scene) _ _ _ c.text-item.result (drop (c.loop-text.text-index + 1) c.args.texts.now) _ _ c.loop-text.sink _ tt before goes
