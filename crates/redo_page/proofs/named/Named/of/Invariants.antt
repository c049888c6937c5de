use Rattle.std.proofs.Common.{◌≡◌, ◌<◌, ℕ, Some, length}
use Rattle.std.specs.Arc.{arc_value}
use Rattle.std.specs.Prelude.{slice_get}
use Rattle.redo_report.specs.declared.report.Row.{Row}
use Rattle.redo_page.specs.Data.{AreNumbered, HasNumbers}
use Rattle.redo_page.specs.inside.Links.{known_by}
use Rattle.redo_page.specs.inside.Named.{numbers_by}
use Rattle.redo_page.proofs.named.Named.of.Given as goal

-- the paths of the rows so far have numbers
abbrev pub invariant-loop-row : goal.invariant-loop-row
invariant-loop-row l =
    (l.named.links.now ≡ l.links)
    × (l.named.count ≡ length l.rows)
    × AreNumbered l.named.count l.named.others
    × ((n : ℕ) (row : Row) → n < l.row-index → slice_get l.rows n ≡ Some row →
    HasNumbers (known_by l.links) (numbers_by l.named) (arc_value row.deps))
