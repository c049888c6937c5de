use Rattle.std.proofs.Common.{◌++◌, ◌∷◌, [], ◌<◌, length, take, sym, ap, ◌∙◌, arith}
use Rattle.std.proofs.lemmas.List.{map-append, take_more}
use Rattle.std.proofs.lemmas.List.Elements.{All-push}
use Rattle.redo_core.specs.inside.Reported.{listed_paths, IsNumberOf}
use Rattle.redo_table.proofs.TargetLemmas.{read-there}
use Rattle.redo_core.proofs.finish.numbered.Goals as goal

pub loop-at-preserved : goal.loop-at-preserved
loop-at-preserved c =
    let below : c.loop-at.at < length c.args.targets.now = omega (arith, c.loop-at-test.true, c.loop-at.auto.at-end) in
    let here = read-there c.args.targets.now c.loop-at.at c.index-targets-at.result below c.index-targets-at.is in
    record {
      paths =
          ap listed_paths c.in_ok-push.ensures.items
          ∙ map-append (λ e. e.0.now) c.loop-at.listed.items (_ ∷ [])
          ∙ ap (λ ps. ps ++ c.index-targets-at.result ∷ []) c.loop-at.invariant.paths
          ∙ ap (λ p. take c.loop-at.at c.args.targets.now ++ p ∷ []) c.index-targets-at.is
          ∙ sym (take_more c.args.targets.now c.loop-at.at c.index-targets-at.result below);
      numbers = rw (c.in_ok-push.ensures.items) (All-push (λ e. IsNumberOf c.args.targets.now e.0.now e.1) c.loop-at.listed.items _ c.loop-at.invariant.numbers here);
    }
