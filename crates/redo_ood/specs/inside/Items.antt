-- The item of an entry that goes by the tree alone.
use Rattle.std.specs.Prelude.{Bool, true, false}
use Rattle.redo_ood.specs.declared.verdicts.RowItem.{RowItem}
use Rattle.redo_ood.specs.declared.verdicts.RowItem.TheVariants.{Holds, Drops}

abbrev pub item_if : Bool → RowItem
item_if true = Holds
item_if false = Drops
