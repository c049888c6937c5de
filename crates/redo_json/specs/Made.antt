-- What a target is told with besides how it ended: its rule, whether its file has changed, and what blocks it.
use Rattle.std.specs.Prelude.{Bool, true, false, ℕ, List, [], ◌∷◌, ◌++◌, Option, Some, None, codes, if◌then◌else◌}
use Rattle.std.specs.Arc.{arc_value}
use Rattle.json.specs.Token.{Token, boolean, key}
use Rattle.redo_tree.specs.Tree.{Tree}
use Rattle.redo_record.specs.declared.outcome.Outcome.{Outcome}
use Rattle.redo_record.specs.declared.outcome.Outcome.TheVariants as outcomes
use Rattle.redo_report.specs.declared.report.Row.{Row}
use Rattle.redo_told.specs.Blocked.{blockers, is_blocked}
use Rattle.redo_told.specs.Rows.{is_changed, rule_in}
use Rattle.redo_json.specs.Members.{paths_member, rule_members}

-- the .do file that makes a target, if there is one
abbrev pub rule_if_any : Option (List ℕ) → List Token
rule_if_any None = []
rule_if_any (Some file) = rule_members file

-- a target was built, by this run or an earlier one
abbrev pub is_built : Outcome → Bool
is_built outcomes.Source = false
is_built (outcomes.Built file) = true
is_built (outcomes.Failed why) = false
is_built outcomes.Cyclic = false

-- of a target that was built, whether its file has changed
abbrev pub changed_members : Tree → Row → List Token
changed_members before row =
    if is_built row.outcome then key (codes "changed") ∷ boolean (is_changed before row) ∷ [] else []

-- of a target that failed because something that it needs did, what that is
abbrev pub blocked_members : (List ℕ → Bool) → Row → List Token
blocked_members failed row =
    if is_blocked row.outcome then paths_member (codes "blocked_by") (blockers failed row) else []

-- all of it, by the tree that was read and the paths that failed
unfoldable pub made_members : Tree → (List ℕ → Bool) → Row → List Token
made_members before failed row =
    rule_if_any (rule_in (arc_value row.deps)) ++ changed_members before row ++ blocked_members failed row
