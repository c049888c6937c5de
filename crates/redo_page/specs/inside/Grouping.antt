-- Heights and groups, as the definitions see them.
use Rattle.std.specs.Prelude.{◌≡◌, ◌+◌, ℕ, List, [], ◌∷◌, Option, Some, None, length, slice_get}
use Rattle.std.specs.Arc.{arc_value}
use Rattle.redo_alike.specs.declared.graph.Kind.{Kind}
use Rattle.redo_alike.specs.declared.graph.Node.{Node}
use Rattle.redo_path.specs.Names.{parent_of}
use Rattle.redo_report.specs.declared.report.Row.{Row}
use Rattle.redo_told.specs.Rows.{rule_in}
use Rattle.redo_page.specs.Data.{Numbers}
use Rattle.redo_page.specs.Grouping.{AreGrouped, IsNode, at_or_zero}
use Rattle.redo_page.specs.Pages.{Known, row_word}
use Rattle.redo_page.specs.Parts.{number_of_word}
use Rattle.redo_page.specs.inside.Named.{numbers_with}
use Rattle.redo_page.specs.declared.data_block.Numbered.{Numbered}
use Rattle.redo_page.specs.declared.grouping.Grouping.{Grouping}
use Rattle.redo_page.specs.declared.grouping.Seen.{Seen}

-- all that the data says by number
abbrev pub numbers_in : Numbered → Numbers
numbers_in told =
    let grouped = told.grouping.now.grouped in
    numbers_with told.named.now (at_or_zero grouped.heights.items) (at_or_zero grouped.groups.items)

-- a number, if there is one
abbrev pub one_more : Option ℕ → List ℕ
one_more None = []
one_more (Some n) = n ∷ []

-- each path keeps its number
abbrev pub Grows : List (List ℕ) → List (List ℕ) → Type 0
Grows old new = (n : ℕ) (path : List ℕ) → slice_get old n ≡ Some path → slice_get new n ≡ Some path

-- the number of a path among these, from 1 on, or 0 where there is none
abbrev pub IsNumberOf : List (List ℕ) → Option (List ℕ) → ℕ → Type 0
IsNumberOf paths None n = n ≡ 0
IsNumberOf paths (Some path) n = (m : ℕ) × (n ≡ m + 1) × (slice_get paths m ≡ Some path)

-- each rule and directory keeps its number
pub record GrowsTo (old new : Seen) : Type 0 where
  pub rules : Grows old.rules new.rules
  pub directories : Grows old.directories new.directories

-- a row's rule, directory and outcome, by number
pub record IsKindOf (seen : Seen) (known : Known) (row : Row) (kind : Kind) : Type 0 where
  pub rule : IsNumberOf seen.rules (rule_in (arc_value row.deps)) kind.rule
  pub directory : IsNumberOf seen.directories (parent_of row.path) kind.directory
  pub outcome : kind.outcome ≡ number_of_word (row_word known row)

-- these rows were seen as nodes
pub record AreSeen (known : Known) (rows : List Row) (seen : Seen) : Type 0 where
  pub many : length seen.nodes.items ≡ length rows
  pub each : (n : ℕ) (row : Row) (node : Node) → slice_get rows n ≡ Some row → slice_get seen.nodes.items n ≡ Some node →
      IsNode known row node × IsKindOf seen known row node.kind

-- the heights and groups of these rows
abbrev pub IsGroupingOf : Known → List Row → Grouping → Type 0
IsGroupingOf known rows grouping =
    (others : List (List ℕ × ℕ)) → AreGrouped known rows (record {
      others = others;
      height = at_or_zero grouping.grouped.heights.items;
      group = at_or_zero grouping.grouped.groups.items;
    })
