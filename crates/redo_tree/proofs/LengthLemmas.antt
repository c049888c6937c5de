-- Files by their lengths.
use Rattle.std.proofs.Common.{◌≡◌, ◌≤◌, ℕ, true, false, List, Option, Some, None, length, sym, ap, subst, refl, ◌∙◌}
use Rattle.std.specs.Map.{lookup}
use Rattle.std.specs.Prelude.{bytes_eq, option_and_then, option_map}
use Rattle.std.proofs.lemmas.Bool.{leb-true, le-leb}
use Rattle.std.proofs.lemmas.Map.Entries.{place_from_lookup}
use Rattle.std.proofs.lemmas.Option.{slice_get_within}
use Rattle.redo_tree.specs.declared.entries.Entry.{Entry}
use Rattle.redo_tree.specs.declared.entries.Entry.TheVariants as entries
use Rattle.redo_tree.specs.Tree.{HasFileOf, bytes_of, file_at, node_of, tree_of}
use Rattle.redo_tree.specs.inside.Digests.{FindsNodes}
use Rattle.redo_tree.specs.inside.Lengths.{NoneLongBelow, is_long}

some-same : {X : Type 0} (x y : X) → Some x ≡ Some y → x ≡ y
some-same x y h = cc

pub false-true : false ≡ true → ⊥
false-true h = cc

-- an entry with so many bytes is long
long-as : (least : ℕ) (entry : Entry) (bytes : List ℕ) → bytes_of (node_of entry) ≡ Some bytes → least ≤ length bytes →
    is_long least (node_of entry) ≡ true
long-as least entries.Directory bytes is many = cc
long-as least (entries.File content) bytes is many =
    le-leb least (length content) (subst (λ b. least ≤ length b) (sym (some-same content bytes is)) many)

module _ (es : List (List ℕ × Entry)) (finds : FindsNodes es) (least : ℕ) where
  found-file : (path : List ℕ) (entry : Entry) → lookup (bytes_eq path) es ≡ Some entry →
      file_at (tree_of es) path ≡ bytes_of (node_of entry)
  found-file path entry there =
      ap (option_and_then bytes_of) (sym (finds path)) ∙ ap (λ o. option_and_then bytes_of (option_map node_of o)) there

  -- a long entry is such a file
  pub long-file : (path : List ℕ) (entry : Entry) → lookup (bytes_eq path) es ≡ Some entry →
      is_long least (node_of entry) ≡ true → HasFileOf (tree_of es) least
  long-file path entries.Directory there long = cc
  long-file path (entries.File content) there long = record {
    path = path;
    bytes = content;
    there = found-file path (entries.File content) there;
    many = leb-true least (length content) long;
  }

  found-long : (path : List ℕ) (bytes : List ℕ) (found : Option Entry) → lookup (bytes_eq path) es ≡ found →
      option_and_then bytes_of (option_map node_of found) ≡ Some bytes → least ≤ length bytes →
      NoneLongBelow least es (length es) → ⊥
  found-long path bytes None there is many none = cc
  found-long path bytes (Some entry) there is many none =
      let at = place_from_lookup (bytes_eq path) es entry there in
      let short = none at.0 (at.1, entry) (slice_get_within es at.0 (at.1, entry) at.2) at.2 in
      false-true (sym short ∙ long-as least entry bytes is many)

  -- where no entry is long, no file is
  pub none-long : NoneLongBelow least es (length es) → HasFileOf (tree_of es) least → ⊥
  none-long none has =
      found-long has.path has.bytes (lookup (bytes_eq has.path) es) refl
      (ap (option_and_then bytes_of) (finds has.path) ∙ has.there) has.many none
