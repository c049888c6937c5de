-- Which rows of a page are alike, and how high each stands in the graph.
use Rattle.std.specs.Prelude.{◌≡◌, true, ℕ, List, Some, filter_map, length, slice_get}
use Rattle.std.specs.Arc.{arc_value}
use Rattle.redo_alike.specs.Alike.{AreHeights, AreTogether, IsAlone, IsFree, IsOrder, NeedSameGroups, kind_of}
use Rattle.redo_alike.specs.declared.graph.Node.{Node}
use Rattle.redo_path.specs.Names.{parent_of}
use Rattle.redo_record.specs.Progress.{changes}
use Rattle.redo_record.specs.declared.outcome.Outcome.TheVariants as outcomes
use Rattle.redo_report.specs.declared.report.Row.{Row}
use Rattle.redo_told.specs.Rows.{rule_in}
use Rattle.redo_page.specs.Data.{Numbers, or_zero}
use Rattle.redo_page.specs.Pages.{Known, row_word}
use Rattle.redo_page.specs.Parts.{number_of_word}

-- two rows are of one kind: their targets have the same rule, directory and outcome
pub record AreOfOneKind (known : Known) (one two : Row) : Type 0 where
  pub rule : rule_in (arc_value one.deps) ≡ rule_in (arc_value two.deps)
  pub directory : parent_of one.path ≡ parent_of two.path
  pub outcome : number_of_word (row_word known one) ≡ number_of_word (row_word known two)

-- a row as a node: it needs the rows of the paths under `change`, and one that is cyclic is alone
pub record IsNode (known : Known) (row : Row) (node : Node) : Type 0 where
  pub needs : node.needs.items ≡ filter_map known.row_of (changes (arc_value row.deps))
  pub alone : row.outcome ≡ outcomes.Cyclic → node.alone ≡ true

-- rows as nodes, with the same kinds
pub record AreNodes (known : Known) (rows : List Row) (nodes : List Node) : Type 0 where
  pub many : length nodes ≡ length rows
  pub each : (n : ℕ) (row : Row) (node : Node) → slice_get rows n ≡ Some row → slice_get nodes n ≡ Some node →
      IsNode known row node
  pub kinds : (m n : ℕ) (one two : Row) → slice_get rows m ≡ Some one → slice_get rows n ≡ Some two →
      kind_of (slice_get nodes m) ≡ kind_of (slice_get nodes n) → AreOfOneKind known one two

-- the number at a place, or 0
abbrev pub at_or_zero : List ℕ → ℕ → ℕ
at_or_zero ns n = or_zero (slice_get ns n)

-- the heights and groups of rows as nodes: those of a group have one kind and need the same groups, one that is alone is
-- with no other, and two that may be together are
pub record AreGrouped (known : Known) (rows : List Row) (numbers : Numbers) : Type 0 where
  pub nodes : List Node
  pub are_nodes : AreNodes known rows nodes
  pub heights : List ℕ
  pub height : (n : ℕ) → numbers.height n ≡ at_or_zero heights n
  pub heights_are : (order : List ℕ) × IsOrder nodes order × AreHeights nodes heights order
  pub groups : List ℕ
  pub group : (n : ℕ) → numbers.group n ≡ at_or_zero groups n
  pub same_kind : (a b : ℕ) → AreTogether groups a b → kind_of (slice_get nodes a) ≡ kind_of (slice_get nodes b)
  pub same_needs : (a b : ℕ) → AreTogether groups a b → NeedSameGroups nodes groups a b
  pub alone : (a b : ℕ) → AreTogether groups a b → IsAlone nodes a → a ≡ b
  pub whole : (a b : ℕ) → IsFree nodes a → IsFree nodes b → kind_of (slice_get nodes a) ≡ kind_of (slice_get nodes b) →
      NeedSameGroups nodes groups a b → AreTogether groups a b
