use Rattle.std.proofs.Common.{◌≡◌, ℕ, ◌<◌, true, false}
use Rattle.redo_ood.specs.inside.Verdicts.{in_table, IsFixedAt, IsSound, known_count}
use Rattle.redo_ood.proofs.verdicts.round.Given as goal

abbrev pub invariant-loop-number : goal.invariant-loop-number
invariant-loop-number l =
    IsSound l.book l.table
    × (l.changed ≡ true → known_count l.initial.table < known_count l.table)
    × (l.changed ≡ false → l.table ≡ l.initial.table)
    × (l.changed ≡ false → (i : ℕ) → i < l.number → IsFixedAt l.book (in_table l.table) i)
