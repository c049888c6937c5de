use Rattle.std.proofs.Common.{refl, rules}
use Rattle.std.proofs.lemmas.Option.{slice_get_read}
use Rattle.redo_dir.proofs.LoadLemmas.{told_refused}
use Rattle.redo_dir.proofs.loading.check_read.Goals as goal

pub returns-in-Err-clause-refused : goal.returns-in-Err-clause-refused
returns-in-Err-clause-refused c =
    let ps = c.args.places.now in let n = c.loop-place.place-index in let place = c.place-item.result in
    told_refused ps n place c.in-Err.kind c.refused.result
    (slice_get_read ps _ n place refl c.loop-place-test.true c.place-item.is) (search rules) (search rules)
