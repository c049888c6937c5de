use Rattle.std.proofs.Common.{arith, ◌≡◌, ◌∙◌, ap, length, sym}
use Rattle.std.proofs.lemmas.Grind.{common_steps}
use Rattle.redo_which.specs.inside.Slots.{shorter, slots_by}
use Rattle.redo_which.proofs.PassedLemmas.{count-fits, count-none, shorter-some}
use Rattle.redo_which.proofs.SlotLemmas.{flat, shorter-none}
use Rattle.redo_which.proofs.candidates.count_each.Goals as goal
use Rattle.redo_which.proofs.candidates.count_each.Goals.{then-fits, else-fits}

pub returns-then-is_empty : goal.returns-then-is_empty
returns-then-is_empty c =
    let dir = c.args.dir.now in
    let left = c.loop-count.left.now in
    let suffix = c.first_suffix-suffix.result.now in
    let found = c.first_suffix-suffix.ensures in
    let total = c.loop-count.invariant.total in
    let rest : length (flat (slots_by (shorter suffix) dir)) ≡ 0 = ap (λ ends. length (flat (slots_by ends dir))) (shorter-none suffix (grind (arith, common_steps))) in
    elim c.if-fits.branch [
      | then-fits w ↦ let e = count-fits dir left suffix found.part found.first (sym c.fits.ensures ∙ w.if-fits.true) in let k = w.count-is in omega (arith, e, k, rest, total)
      | else-fits w ↦ let e = count-none dir left suffix found.part found.first (sym c.fits.ensures ∙ w.if-fits.false) in let k = w.count-is in omega (arith, e, k, rest, total)
    ]

pub loop-count-preserved : goal.loop-count-preserved
loop-count-preserved c =
    let dir = c.args.dir.now in
    let left = c.loop-count.left.now in
    let suffix = c.first_suffix-suffix.result.now in
    let found = c.first_suffix-suffix.ensures in
    let within = found.within in
    let before = c.loop-count.invariant in
    let total = before.total in
    let small = before.small in
    let some = shorter-some suffix (grind (arith, common_steps)) in
    let rest = ap (λ ends. length (flat (slots_by ends dir))) some.ends in
    let size = some.size in
    record {
      total = elim c.if-fits.branch [
        | then-fits w ↦ let e = count-fits dir left suffix found.part found.first (sym c.fits.ensures ∙ w.if-fits.true) in let k = w.count-is in omega (arith, e, k, rest, total)
        | else-fits w ↦ let e = count-none dir left suffix found.part found.first (sym c.fits.ensures ∙ w.if-fits.false) in let k = w.count-is in omega (arith, e, k, rest, total)
      ];
      part = some.part found.part;
      small = elim c.if-fits.branch [
        | then-fits w ↦ let k = w.count-is in omega (arith, k, small, within, size)
        | else-fits w ↦ let k = w.count-is in omega (arith, k, small, within, size)
      ];
    }
