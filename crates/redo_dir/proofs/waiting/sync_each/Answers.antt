use Rattle.std.proofs.Common.{rules, ◌≡◌, ◌∙◌, ◌+◌, ◌<◌, ◌++◌, ◌∷◌, [], ap, arith, length, map, subst, sym, take, true}
use Rattle.std.proofs.lemmas.List.{map-append, take_more}
use Rattle.std.specs.Path.{path_buf_bytes}
use Rattle.redo_dir.specs.Called.{AreOnDisk, is_waited_for}
use Rattle.redo_dir.proofs.WaitLemmas.{wait_follows, wait_reaches}
use Rattle.redo_dir.proofs.waiting.sync_each.Goals as goal

pub returns-in_err-sync_names-clause-waited : goal.returns-in_err-sync_names-clause-waited
returns-in_err-sync_names-clause-waited g c =
    let so_far = c.loop-place.invariant in
    let wait = c.sync_names.ensures.waited in
    let place = path_buf_bytes c.place-item.result in (
      so_far.0 ++ (place, wait.0) ∷ [],
      wait_follows g.C.Calls.after c.args.calls.now c.loop-place.calls c.sync_names.new.calls so_far.0 place wait.0 so_far.1 wait.1,
      search rules,
    )

pub loop-place-preserved : goal.loop-place-preserved
loop-place-preserved g c =
    let so_far = c.loop-place.invariant in
    let wait = c.sync_names.ensures.waited in
    let item = c.place-item.result in
    let place = path_buf_bytes item in
    let places = c.args.places.now in
    let i = c.loop-place.place-index in
    let within : i < length places = omega (arith, c.loop-place-test.true, c.loop-place.auto.place-index-end) in
    let well : is_waited_for wait.0 ≡ true = search rules in
    let one_more : take (i + 1) places ≡ take i places ++ item ∷ [] = take_more places i item within ∙ ap (λ p. take i places ++ p ∷ []) (sym c.place-item.is) in
    let seam : map path_buf_bytes (take (i + 1) places) ≡ map path_buf_bytes (take i places) ++ place ∷ [] =
    ap (map path_buf_bytes) one_more ∙ map-append path_buf_bytes (take i places) (item ∷ []) in (
      so_far.0 ++ (place, wait.0) ∷ [],
      wait_follows g.C.Calls.after c.args.calls.now c.loop-place.calls c.sync_names.new.calls so_far.0 place wait.0 so_far.1 wait.1,
      subst (λ ps. AreOnDisk ps (so_far.0 ++ (place, wait.0) ∷ [])) (sym seam)
          (wait_reaches (map path_buf_bytes (take i places)) so_far.0 place wait.0 so_far.2 well),
    )
