-- The candidates of a target go by the paths of a tree's files alone.
use Rattle.std.proofs.Common.{◌≡◌, ℕ, Bool, List, Option, not, sym, ap, ap₂, subst, ◌∙◌}
use Rattle.std.specs.Prelude.{find, is_some, map, option_map, take_while}
use Rattle.std.specs.Io.KnownBytes.{Appends}
use Rattle.redo_tree.specs.Tree.{Tree}
use Rattle.redo_which.specs.Candidates.{Place, candidates_of}
use Rattle.redo_which.specs.Rule.{chosen_of, is_file, missing_of}
use Rattle.redo_dir.specs.Loaded.{HasNames, Looks}
use Rattle.redo_run.specs.Candidates.{HaveSameFiles, candidate_text, list_text}
use Rattle.redo_run.specs.Directories.{ListsTree}
use Rattle.redo_run.proofs.ToldLemmas.{found_some}

module _ (one two : Tree) (same : HaveSameFiles one two) (target : List ℕ) where
  files_same : is_file two ≡ is_file one
  files_same = λ i p. same p i

  chosen_same : chosen_of two target ≡ chosen_of one target
  chosen_same = ap (λ (f : List ℕ → Bool). find (λ (p : Place). f p.do_file) (candidates_of target)) files_same

  missing_same : missing_of two target ≡ missing_of one target
  missing_same =
      ap (λ (f : List ℕ → Bool). map (λ (p : Place). p.do_file)
      (take_while (λ (p : Place). not (f p.do_file)) (candidates_of target))) files_same

  text_same : candidate_text two target ≡ candidate_text one target
  text_same = ap₂ list_text missing_same chosen_same

-- what was listed of one tree is the list of each with the same files
pub lists_names : (names : Tree) (target : List ℕ) {A : Type 0} (f : A → Place) (o : Option A)
    (lists : List ℕ → List (Option (List ℕ)) → Type 0) (looks : Looks) (old new : Option (List ℕ)) (written : List ℕ)
    (found : Bool) (passed : ℕ) → HasNames lists looks names passed → written ≡ candidate_text names target →
    Appends old new written → option_map f o ≡ chosen_of names target → found ≡ is_some o →
    ListsTree lists looks target old new found passed
lists_names names target f o lists looks old new written found passed named made h chosen is = record {
  names = names;
  named = named;
  written = λ tree same. subst (Appends old new) (made ∙ sym (text_same names tree same target)) h;
  chosen = λ tree same. found_some f o (chosen_of tree target) found (chosen ∙ sym (chosen_same names tree same target)) is;
}
