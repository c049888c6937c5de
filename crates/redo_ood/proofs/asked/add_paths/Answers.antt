use Rattle.std.proofs.Common.{subst, sym, take}
use Rattle.std.specs.Prelude.{flat_map}
use Rattle.redo_ood.specs.Listing.{changed}
use Rattle.redo_ood.specs.inside.Resting.{IsGrown}
use Rattle.redo_ood.proofs.RestingLemmas.{changes-more, grown-more}
use Rattle.redo_ood.proofs.asked.add_paths.Goals as goal

pub loop-entry-preserved : goal.loop-entry-preserved
loop-entry-preserved c =
    let es = c.args.entries.now in
    let i = c.loop-entry.entry-index in
    let e = c.entry-item.result in
    subst (λ ps. IsGrown c.args.found.now ps c.add_path.new.found) (sym (changes-more es i e c.loop-entry-test.true c.entry-item.is))
    (grown-more c.args.found.now (flat_map changed (take i es)) c.loop-entry.found (changed e) c.add_path.new.found
    c.loop-entry.invariant c.in_ok-add_path.ensures)
