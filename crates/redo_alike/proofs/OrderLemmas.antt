-- A number in an order of nodes.
use Rattle.std.proofs.Common.{◌≡◌, ◌<◌, ℕ, List, Some, length, get_or, slice_get}
use Rattle.std.proofs.lemmas.Option.{slice_get-get_or}
use Rattle.redo_alike.specs.Alike.{IsOrder}
use Rattle.redo_alike.specs.declared.graph.Node.{Node}
use Rattle.redo_alike.proofs.ListLemmas.{get-in}

module _ (nodes : List Node) (order : List ℕ) (o : IsOrder nodes order) (i : ℕ) (low : i < length order) where
  pub order-at : slice_get order i ≡ Some (get_or order i 0)
  order-at = slice_get-get_or order i 0 low

  pub order-within : get_or order i 0 < length nodes
  order-within = o.within (get_or order i 0) (get-in order i (get_or order i 0) order-at)
