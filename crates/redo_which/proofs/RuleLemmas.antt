-- What is found for a target that has a rule.
use Rattle.std.proofs.Common.{◌≡◌, ◌∷◌, ◌∙◌, [], List, ℕ, Some, None, true, false, ap, cond, length, map, not, refl}
use Rattle.std.proofs.Common.{subst, sym, take}
use Rattle.std.specs.List.{take_while}
use Rattle.std.proofs.lemmas.List.Sums.{take_while-cons}
use Rattle.redo_path.specs.Names.{parent_of}
use Rattle.redo_tree.specs.Tree.{Tree, Directory, node_at}
use Rattle.redo_which.proofs.PlaceLemmas.{missing_among-next}
use Rattle.redo_which.specs.Candidates.{Place, candidates_of}
use Rattle.redo_which.specs.inside.First.{first_candidates}
use Rattle.redo_which.specs.Rule.{Rule, arguments_of, chosen_of, found_of, is_file, missing_among, missing_of}

pub rule_found : (tree : Tree) (target dir : List ℕ) (place : Place) → node_at tree target ≡ None → parent_of target ≡ Some dir → node_at tree dir ≡ Some Directory → chosen_of tree target ≡ Some place
    → found_of tree target ≡ Rule place.do_file (missing_of tree target) (arguments_of target place)
rule_found tree target dir place none parent above chosen = rw (none, parent, above, chosen, found_of) refl

-- those that are missing are as many of the first
first_missing : (tree : Tree) (places : List Place) → map (λ p. p.do_file) (take (length (missing_among tree places)) places) ≡ missing_among tree places
first_missing tree [] = refl
first_missing tree (p ∷ ps) =
    elim (is_file tree p.do_file) as (λ b. is_file tree p.do_file ≡ b → map (λ p. p.do_file) (take (length (missing_among tree (p ∷ ps))) (p ∷ ps)) ≡ missing_among tree (p ∷ ps)) [
      | true ↦ λ e.
          let none : missing_among tree (p ∷ ps) ≡ [] = ap (map (λ p. p.do_file)) (take_while-cons (λ p. not (is_file tree p.do_file)) p ps ∙ ap (λ b. cond (not b) (p ∷ take_while (λ p. not (is_file tree p.do_file)) ps) []) e) in
          subst (λ (l : List (List ℕ)). map (λ p. p.do_file) (take (length l) (p ∷ ps)) ≡ l) (sym none) refl
      | false ↦ λ e.
          subst (λ (l : List (List ℕ)). map (λ p. p.do_file) (take (length l) (p ∷ ps)) ≡ l) (sym (missing_among-next tree p ps e)) (ap (λ l. p.do_file ∷ l) (first_missing tree ps))
    ] refl

pub counted_missing : (tree : Tree) (target : List ℕ) (count : ℕ) → count ≡ length (missing_of tree target) → first_candidates target count ≡ missing_of tree target
counted_missing tree target count h = ap (first_candidates target) h ∙ first_missing tree (candidates_of target)
