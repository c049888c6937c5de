use Rattle.std.proofs.Common.{inl, inr}
use Rattle.redo_query.proofs.needing.note_users.Goals as goal

pub loop-number-preserved : goal.loop-number-preserved
loop-number-preserved c = λ t m. elim (c.in_ok-note_numbered.ensures t m) [
  | inl there ↦ c.loop-number.invariant t there
  | inr u ↦ inr u
]
