use Rattle.std.proofs.Common.{◌≡◌, ◌++◌, drop, map}
use Rattle.redo_query.specs.Answers.{path_lines}
use Rattle.redo_query.proofs.text.path_lines.Given as goal

-- the lines so far, with those that are left, are all
abbrev pub invariant-loop-path : goal.invariant-loop-path
invariant-loop-path l =
    l.text.items ++ path_lines (map (λ p. p.now) (drop l.path-index l.paths)) ≡ path_lines (map (λ p. p.now) l.paths)
