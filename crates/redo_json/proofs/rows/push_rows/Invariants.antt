use Rattle.std.proofs.Common.{◌≡◌, ◌++◌, drop}
use Rattle.redo_json.specs.Told.{rows_tokens}
use Rattle.redo_json.specs.inside.Known.{known_by}
use Rattle.redo_json.proofs.rows.push_rows.Given as goal

-- the rows so far, with those that are left, are all
abbrev pub invariant-loop-row : goal.invariant-loop-row
invariant-loop-row l =
    l.out ++ rows_tokens (known_by l.known) (drop l.row-index l.rows)
    ≡ l.initial.out ++ rows_tokens (known_by l.known) l.rows
