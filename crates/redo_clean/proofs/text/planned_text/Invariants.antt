use Rattle.std.proofs.Common.{◌≡◌, map, take}
use Rattle.std.specs.Prelude.{flat_map}
use Rattle.redo_clean.specs.Texts.{planned_line}
use Rattle.redo_clean.proofs.text.planned_text.Given as goal

-- the lines of the files so far
abbrev pub invariant-loop-path : goal.invariant-loop-path
invariant-loop-path l =
    l.text.items ≡ flat_map planned_line (map (λ f. f.0) (take l.path-index l.plan.generated.items))
