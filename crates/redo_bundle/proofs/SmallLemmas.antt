-- A tree that was read has no file above a gibibyte.
use Rattle.std.proofs.Common.{◌≡◌, ◌≤◌, ◌^◌, List, [], ◌∷◌, ℕ, Bool, true, false, cond, length, refl, sym, subst}
use Rattle.std.proofs.Common.{Option, Some, None}
use Rattle.std.specs.BTreeMap.{insert_entry, is_at}
use Rattle.std.specs.Cmp.Lexicographic.{slice_cmp}
use Rattle.std.specs.List.{AllByRecursion}
use Rattle.std.specs.Map.{lookup}
use Rattle.std.specs.Option.{option_map_or}
use Rattle.std.specs.Ordering.{nat_cmp, match_ordering}
use Rattle.std.specs.Prelude.{Ok, Err, option_and_then}
use Rattle.std.specs.declared.cmp.Ordering.TheVariants.{Less, Equal, Greater}
use Rattle.redo_tree.proofs.GrowLemmas.{onward}
use Rattle.redo_path.proofs.ApartLemmas.{apart}
use Rattle.redo_tree.specs.declared.faults.TreeFault.{TreeFault}
use Rattle.redo_tree.specs.Tree.{Node, Directory, File, Tree, top, added, refusal, with_node, node_at, bytes_of}
use Rattle.redo_bundle.specs.Bundle.{IsEntry, HasSmallFiles}
use Rattle.redo_tree.specs.Tree.{grown}
use Rattle.redo_bundle.proofs.TurnLemmas.{Reached}

abbrev pub is_small : Node → Type 0
is_small node = elim node [ Directory ↦ Unit {0} | File bytes ↦ length bytes ≤ 2 ^ 30 ]

abbrev pub AllSmall : Tree → Type 0
AllSmall tree = AllByRecursion (λ e. is_small e.1) tree

small-insert : (es : Tree) (path : List ℕ) (node : Node) → AllSmall es → is_small node → AllSmall (insert_entry (slice_cmp nat_cmp) es path node)
small-insert [] path node h k = (k, tt)
small-insert (e ∷ es) path node h k =
    elim (slice_cmp nat_cmp path e.0) as (λ o. AllSmall (match_ordering {X = Tree} o ((path, node) ∷ e ∷ es) ((e.0, node) ∷ es) (e ∷ insert_entry (slice_cmp nat_cmp) es path node))) [
      | Less ↦ (k, h)
      | Equal ↦ (k, h.1)
      | Greater ↦ (h.0, small-insert es path node h.1 k)
    ]

fine : (o : Option TreeFault) (x y : Tree) → option_map_or Err o (Ok x) ≡ Ok y → x ≡ y
fine None x y h = cc
fine (Some f) x y h = cc

small-added : (old new : Tree) (path : List ℕ) (node : Node) → AllSmall old → is_small node → added old path node ≡ Ok new → AllSmall new
small-added old new path node h k e = subst AllSmall (fine (refusal old path node) (with_node old path node) new e) (small-insert old path node h k)

small-grown : (old new : Tree) (es : List (List ℕ × Node)) → AllSmall old → AllByRecursion IsEntry es → grown old es ≡ Ok new → AllSmall new
small-grown old new [] h k e = let same : old ≡ new = cc in subst AllSmall same h
small-grown old new (x ∷ xs) h k e =
    elim (added old x.0 x.1) as (λ r. added old x.0 x.1 ≡ r → onward xs r ≡ Ok new → AllSmall new) [
      | Ok next ↦ λ a g. small-grown next new xs (small-added old next x.0 x.1 h k.0.2 a) k.1 g
      | Err fault ↦ λ a g. apart cc
    ] refl e

small-lookup : (test : List ℕ → Bool) (es : Tree) (node : Node) → AllSmall es → lookup test es ≡ Some node → is_small node
small-lookup test [] node h e = apart cc
small-lookup test (x ∷ xs) node h e =
    elim (test x.0) as (λ b. cond b (Some x.1) (lookup test xs) ≡ Some node → is_small node) [
      | true ↦ λ g. let same : x.1 ≡ node = cc in subst is_small same h.0
      | false ↦ λ g. small-lookup test xs node h.1 g
    ] e

small-bytes : (o : Option Node) (bytes : List ℕ) → ((node : Node) → o ≡ Some node → is_small node) → option_and_then bytes_of o ≡ Some bytes → length bytes ≤ 2 ^ 30
small-bytes None bytes h e = apart cc
small-bytes (Some Directory) bytes h e = apart cc
small-bytes (Some (File there)) bytes h e = let same : there ≡ bytes = cc in subst (λ b. length b ≤ 2 ^ 30) same (h (File there) refl)

pub Reached-small : (start now : Option (List ℕ)) (tree : Tree) (n : ℕ) → Reached start now tree n → HasSmallFiles tree
Reached-small start now tree n r path bytes e =
    let all = small-grown top tree r.es (tt, tt) r.entries r.makes in
    small-bytes (node_at tree path) bytes (λ node. small-lookup (is_at (slice_cmp nat_cmp path)) tree node all) e

pub reached_small : (start now : Option (List ℕ)) (old new : Tree) (n : ℕ) → Reached start now old n → new ≡ old → HasSmallFiles new
reached_small start now old new n r e = subst HasSmallFiles (sym e) (Reached-small start now old n r)
