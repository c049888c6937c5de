use Rattle.std.proofs.Common.{arith, sym}
use Rattle.std.proofs.lemmas.List.{length-take-le, take_all}
use Rattle.redo_dir.proofs.own.front_of.Goals as goal

pub returns-then-text-le-FRONT_BYTES : goal.returns-then-text-le-FRONT_BYTES
returns-then-text-le-FRONT_BYTES c = sym (take_all 4096 c.args.text.now c.if-text-le-FRONT_BYTES.true)

pub slice_bounds-result-end : goal.slice_bounds-result-end
slice_bounds-result-end c =
    let longer = c.if-text-le-FRONT_BYTES.false in sym (length-take-le 4096 c.args.text.now (omega (arith, longer)))
