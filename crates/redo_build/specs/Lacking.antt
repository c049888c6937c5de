-- The answers that a target lacks.
use Rattle.std.specs.Prelude.{ℕ, List, filter, is_none}
use Rattle.redo_build.specs.Rules.{Ask, Rules, asked_under}

-- the paths that a target asks for and that have no answer yet
abbrev pub lacking_under : Rules → List ℕ → Ask → List (List ℕ)
lacking_under r p ask = filter (λ q. is_none (ask q)) (asked_under r p ask)
