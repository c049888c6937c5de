use Rattle.std.proofs.Common.{refl}
use Rattle.redo_digest.proofs.four.initial.Goals as goal

pub returns : goal.returns
returns c j lt =
    rw (
      c.splat.ensures j lt,
      c.splat-2.ensures j lt,
      c.splat-3.ensures j lt,
      c.splat-4.ensures j lt,
      c.splat-5.ensures j lt,
      c.splat-6.ensures j lt,
      c.splat-7.ensures j lt,
      c.splat-8.ensures j lt,
    ) refl
