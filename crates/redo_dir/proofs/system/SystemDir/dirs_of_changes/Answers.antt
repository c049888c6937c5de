use Rattle.std.proofs.Common.{rules, ◌≡◌, ◌∙◌, ◌+◌, ◌<◌, ◌++◌, ◌∷◌, [], Some, ap, arith, length, map, subst, sym, take}
use Rattle.std.proofs.lemmas.List.{map-append, take_more}
use Rattle.std.specs.List.{AllByRecursion}
use Rattle.std.specs.Path.{path_buf_bytes, path_join}
use Rattle.std.specs.Prelude.{IfSome, option_copied}
use Rattle.redo_dir.specs.Called.{IsAmong, IsCovered, dir_changed}
use Rattle.redo_dir.specs.Stored.{step_of, steps_of}
use Rattle.redo_dir.proofs.WaitLemmas.{covered_new, covered_same, last_new}
use Rattle.redo_dir.proofs.system.SystemDir.dirs_of_changes.Goals as goal

pub loop-change-preserved-then-is_last : goal.loop-change-preserved-then-is_last
loop-change-preserved-then-is_last g c =
    let items = c.deref-change-items.result.now in
    let i = c.loop-change.change-index in
    let change = c.change-item.result in
    let top = c.args.self.now.view.top.now in
    let places = map path_buf_bytes c.loop-change.places.items in
    let within : i < length items = omega (arith, c.loop-change-test.true, c.loop-change.auto.change-index-end) in
    let one_more : take (i + 1) items ≡ take i items ++ change ∷ [] = take_more items i change within ∙ ap (λ x. take i items ++ x ∷ []) (sym c.change-item.is) in
    let seam : steps_of (take (i + 1) items) ≡ steps_of (take i items) ++ step_of change ∷ [] = ap steps_of one_more ∙ map-append step_of (take i items) (change ∷ []) in
    let known : Some c.in-Some.dir.now ≡ dir_changed (step_of change) = search rules in
    let last : option_copied c.loop-change.last ≡ Some c.in-Some.dir.now = search rules in
    let there : IsCovered top places (step_of change) = subst (λ d. IfSome d (λ x. IsAmong places (path_join top x))) (last ∙ known) c.loop-change.invariant.last in
    record {
      items = c.loop-change.invariant.items;
      covered = subst (AllByRecursion (IsCovered top places)) (sym seam)
          (covered_same top places (steps_of (take i items)) (step_of change) c.loop-change.invariant.covered there);
      last = c.loop-change.invariant.last;
    }

pub loop-change-preserved : goal.loop-change-preserved
loop-change-preserved g c =
    let items = c.deref-change-items.result.now in
    let i = c.loop-change.change-index in
    let change = c.change-item.result in
    let top = c.args.self.now.view.top.now in
    let dir = c.in-Some.dir.now in
    let places = map path_buf_bytes c.loop-change.places.items in
    let path = c.in_ok-dir_place.field-0 in
    let place = path_buf_bytes path in
    let within : i < length items = omega (arith, c.loop-change-test.true, c.loop-change.auto.change-index-end) in
    let one_more : take (i + 1) items ≡ take i items ++ change ∷ [] = take_more items i change within ∙ ap (λ x. take i items ++ x ∷ []) (sym c.change-item.is) in
    let seam : steps_of (take (i + 1) items) ≡ steps_of (take i items) ++ step_of change ∷ [] = ap steps_of one_more ∙ map-append step_of (take i items) (change ∷ []) in
    let known : Some dir ≡ dir_changed (step_of change) = search rules in
    let at : place ≡ path_join top dir = search rules in
    let pushed : c.push.new.self.items ≡ c.loop-change.places.items ++ path ∷ [] = search rules in
    let more : map path_buf_bytes c.push.new.self.items ≡ places ++ place ∷ [] = ap (map path_buf_bytes) pushed ∙ map-append path_buf_bytes c.loop-change.places.items (path ∷ []) in
    record {
      items = c.loop-change.invariant.items;
      covered = subst (λ ps. AllByRecursion (IsCovered top ps) (steps_of (take (i + 1) items))) (sym more)
          (subst (AllByRecursion (IsCovered top (places ++ place ∷ []))) (sym seam)
          (covered_new top places (steps_of (take i items)) (step_of change) dir place c.loop-change.invariant.covered known at));
      last = subst (λ ps. IsAmong ps (path_join top dir)) (sym more) (last_new top places dir place at);
    }
