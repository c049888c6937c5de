use Rattle.std.proofs.Common.{arith, ◌≡◌, ◌++◌, take, sym, ◌∙◌, ap, take-append-drop}
use Rattle.std.proofs.lemmas.Grind.{common_steps}
use Rattle.redo_bundle.proofs.LineLemmas.{came-more}
use Rattle.redo_bundle.proofs.reading.read_bytes.Goals as goal

pub loop-held-preserved : goal.loop-held-preserved
loop-held-preserved g c =
    let n = c.min-count.result in
    let held = c.fill.new.self in
    let grown : c.extend_from_slice.new.self.items ≡ c.loop-held.bytes.items ++ take n held = grind (arith, common_steps) in
    record {
      works = grind (arith, common_steps);
      short = grind (arith, common_steps);
      came = came-more _ _ _ held c.skip.new.self _ (take n held) _ c.loop-held.invariant.came c.in_ok-fill.ensures.bytes (sym (take-append-drop n held) ∙ ap (λ l. take n held ++ l) (sym c.skip.ensures)) grown;
    }
