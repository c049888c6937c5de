use Rattle.std.proofs.Common.{◌∙◌, ◌≤◌, ◌++◌, ◌∷◌, [], ap, arith, length, map, sym, take}
use Rattle.std.proofs.lemmas.List.{append-nil, take_all}
use Rattle.std.proofs.lemmas.List.Concat.{flat_map-append}
use Rattle.std.specs.Prelude.{flat_map}
use Rattle.redo_list.specs.Lists.{listed_view}
use Rattle.redo_ood.specs.Listing.{listed_at, run_over}
use Rattle.redo_ood.proofs.ScanLemmas.{taken}
use Rattle.redo_ood.proofs.list.list_of.Goals as goal

pub loop-path-init : goal.loop-path-init
loop-path-init c = λ request limits same. ap (map listed_view) c.new-listed.ensures.items

pub loop-path-preserved : goal.loop-path-preserved
loop-path-preserved c = λ request limits same.
    let given = run_over c.args.outlook.now.past.now request limits in
    let asked = c.args.asked.now in
    let i = c.loop-path.path-index in
    let p = c.path-item.result in
    c.in_ok-push_path.ensures request limits same
    ∙ ap (λ l. l ++ listed_at given p) (c.loop-path.invariant request limits same)
    ∙ sym (ap (flat_map (listed_at given)) (taken asked i p c.loop-path-test.true c.path-item.is)
    ∙ flat_map-append (listed_at given) (take i asked) (p ∷ [])
    ∙ ap (λ l. flat_map (listed_at given) (take i asked) ++ l) (append-nil (listed_at given p)))

pub returns : goal.returns
returns c = λ request limits same.
    let given = run_over c.args.outlook.now.past.now request limits in
    let asked = c.args.asked.now in
    let end : length asked ≤ c.loop-path.path-index = omega (arith, c.loop-path-test.false) in
    c.loop-path.invariant request limits same ∙ ap (flat_map (listed_at given)) (take_all c.loop-path.path-index asked end)
