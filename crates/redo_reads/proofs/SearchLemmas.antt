-- The search for rules goes by the names of a tree alone.
use Rattle.std.proofs.Common.{◌≡◌, ℕ, Bool, true, false, not, Option, Some, None, List, refl, sym, ap, ap₂, ◌∙◌}
use Rattle.std.specs.Prelude.{find, is_some, map, option_and_then, take_while}
use Rattle.redo_path.specs.Names.{parent_of}
use Rattle.redo_tree.specs.Tree as tree_words
use Rattle.redo_tree.specs.Tree.{Tree, Node, bytes_of, file_at, kind_of, node_at}
use Rattle.redo_tree.specs.declared.entries.Kind.{Kind}
use Rattle.redo_tree.specs.declared.entries.Kind.TheVariants as kinds
use Rattle.redo_which.specs.Candidates.{Place, candidates_of}
use Rattle.redo_which.specs.Rule.{Found, Source, Directory, NoDirectory, NoRule, Rule}
use Rattle.redo_which.specs.Rule.{arguments_of, chosen_of, found_of}
use Rattle.redo_which.specs.Rule.{is_file, missing_of}
use Rattle.redo_step.specs.Setting.{has_directory}
use Rattle.redo_reads.specs.Reads.{AreNamedAlike}
use Rattle.redo_reads.proofs.RunReadLemmas.{same_everywhere}

-- By kinds

abbrev is_file_kind : Kind → Bool
is_file_kind kinds.Nothing = false
is_file_kind kinds.Dir = false
is_file_kind kinds.File = true

abbrev is_dir_kind : Kind → Bool
is_dir_kind kinds.Nothing = false
is_dir_kind kinds.Dir = true
is_dir_kind kinds.File = false

-- what a target is by what is at its path, and otherwise
abbrev found_there : Kind → Found → Found
found_there kinds.Nothing other = other
found_there kinds.Dir other = Directory
found_there kinds.File other = Source

-- what it is by what is above it, and by what the search chose and passed
abbrev found_below : List ℕ → Kind → Option Place → List (List ℕ) → Found
found_below target kinds.Nothing chosen missing = NoDirectory
found_below target kinds.Dir None missing = NoRule missing
found_below target kinds.Dir (Some place) missing = Rule place.do_file missing (arguments_of target place)
found_below target kinds.File chosen missing = NoDirectory

file_told : (n : Option Node) → is_some (option_and_then bytes_of n) ≡ is_file_kind (kind_of n)
file_told None = refl
file_told (Some tree_words.Directory) = refl
file_told (Some (tree_words.File bytes)) = refl

directory_told : (n : Option Node) → has_directory n ≡ is_dir_kind (kind_of n)
directory_told None = refl
directory_told (Some tree_words.Directory) = refl
directory_told (Some (tree_words.File bytes)) = refl

there_told : (n : Option Node) (other : Found) →
    (elim n [
      | Some node ↦ elim node [ tree_words.Directory ↦ Directory | tree_words.File bytes ↦ Source ]
      | None ↦ other
    ]) ≡ found_there (kind_of n) other
there_told None other = refl
there_told (Some tree_words.Directory) other = refl
there_told (Some (tree_words.File bytes)) other = refl

below_told : (target : List ℕ) (up : Option Node) (chosen : Option Place) (missing : List (List ℕ)) →
    (elim up [
      | Some node ↦ elim node [
        | tree_words.Directory ↦ elim chosen [
          | None ↦ NoRule missing
          | Some place ↦ Rule place.do_file missing (arguments_of target place)
        ]
        | tree_words.File bytes ↦ NoDirectory
      ]
      | None ↦ NoDirectory
    ]) ≡ found_below target (kind_of up) chosen missing
below_told target None chosen missing = refl
below_told target (Some tree_words.Directory) None missing = refl
below_told target (Some tree_words.Directory) (Some place) missing = refl
below_told target (Some (tree_words.File bytes)) chosen missing = refl

found_told : (tree : Tree) (target : List ℕ) → found_of tree target ≡
    found_there (kind_of (node_at tree target))
    (found_below target (kind_of (option_and_then (node_at tree) (parent_of target))) (chosen_of tree target)
    (missing_of tree target))
found_told tree target =
    let up : Option Node = option_and_then (node_at tree) (parent_of target) in
    there_told (node_at tree target) _
    ∙ ap (found_there (kind_of (node_at tree target)))
    (below_told target up (chosen_of tree target) (missing_of tree target))

-- Two trees

module _ (one two : Tree) (alike : AreNamedAlike one two) where
  pub file_alike : (p : List ℕ) → is_some (file_at two p) ≡ is_some (file_at one p)
  file_alike p = file_told (node_at two p) ∙ ap is_file_kind (alike p) ∙ sym (file_told (node_at one p))

  pub directory_alike : (p : List ℕ) → has_directory (node_at two p) ≡ has_directory (node_at one p)
  directory_alike p = directory_told (node_at two p) ∙ ap is_dir_kind (alike p) ∙ sym (directory_told (node_at one p))

  pub files_alike : is_file two ≡ is_file one
  files_alike = same_everywhere (is_file two) (is_file one) file_alike

  up_alike : (o : Option (List ℕ)) →
      kind_of (option_and_then (node_at two) o) ≡ kind_of (option_and_then (node_at one) o)
  up_alike None = refl
  up_alike (Some dir) = alike dir

  pub chosen_alike : (target : List ℕ) → chosen_of two target ≡ chosen_of one target
  chosen_alike target =
      ap (λ (f : List ℕ → Bool). find (λ (p : Place). f p.do_file) (candidates_of target)) files_alike

  missing_alike : (target : List ℕ) → missing_of two target ≡ missing_of one target
  missing_alike target =
      ap (λ (f : List ℕ → Bool). map (λ (p : Place). p.do_file)
      (take_while (λ (p : Place). not (f p.do_file)) (candidates_of target))) files_alike

  pub found_alike : (target : List ℕ) → found_of two target ≡ found_of one target
  found_alike target =
      found_told two target
      ∙ ap₂ found_there (alike target)
      (ap (λ (k : Kind). found_below target k (chosen_of two target) (missing_of two target))
      (up_alike (parent_of target))
      ∙ ap₂ (found_below target (kind_of (option_and_then (node_at one) (parent_of target)))) (chosen_alike target)
      (missing_alike target))
      ∙ sym (found_told one target)

  pub searches_alike : found_of two ≡ found_of one
  searches_alike = same_everywhere (found_of two) (found_of one) found_alike
