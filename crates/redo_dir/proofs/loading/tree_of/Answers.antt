use Rattle.std.proofs.Common.{◌≡◌, Err, map, refl, rules, subst}
use Rattle.std.specs.Prelude.{IfErr}
use Rattle.std.proofs.lemmas.Option.{slice_get_read}
use Rattle.redo_dir.specs.inside.Contents.{MakesNoTree, entry_of}
use Rattle.redo_dir.proofs.LoadLemmas.{grown_more, told_clash}
use Rattle.redo_dir.proofs.loading.tree_of.Goals as goal

pub returns-in_err-add_place-clause-none : goal.returns-in_err-add_place-clause-none
returns-in_err-add_place-clause-none c =
    let ps = c.args.places.now in let n = c.loop-place.place-index in let place = c.place-item.result in
    let told : Err c.in_err-add_place.field-0.0 ≡ c.from_residual-in_err-add_place.result = search rules in
    subst (λ r. IfErr r (MakesNoTree (map entry_of ps))) told
    (told_clash ps n place c.loop-place.tree c.in_err-add_place.field-0.0
    (slice_get_read ps _ n place refl c.loop-place-test.true c.place-item.is) c.loop-place.invariant.made
    c.in_err-add_place.ensures.refused)

pub loop-place-preserved : goal.loop-place-preserved
loop-place-preserved c =
    record {
      made = grown_more c.args.places.now c.loop-place.place-index c.place-item.result c.loop-place.tree c.add_place.new.tree
          c.loop-place-test.true c.place-item.is c.loop-place.invariant.made c.in_ok-add_place.ensures.added;
      empty = c.loop-place.invariant.empty;
    }
