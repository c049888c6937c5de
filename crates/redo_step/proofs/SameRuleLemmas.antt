-- The same rule is found in another tree, where what was missing is missing too and the .do file is there.
use Rattle.std.proofs.Common.{Bool, ◌≡◌, ℕ, true, false, not, cond, inl, inr, Option, Some, None, List, [], ◌∷◌, refl}
use Rattle.std.proofs.Common.{sym}
use Rattle.std.proofs.Common.{ap, ◌∙◌, subst, map}
use Rattle.std.specs.Prelude.{option_and_then}
use Rattle.std.specs.List.{take_while, find}
use Rattle.std.proofs.lemmas.Bool.{cases_Bool}
use Rattle.std.proofs.lemmas.List.Sums.{take_while-cons}
use Rattle.redo_path.specs.Names.{parent_of}
use Rattle.redo_tree.specs.Tree as tree_words
use Rattle.redo_tree.specs.Tree.{Tree, Node, node_at}
use Rattle.redo_which.specs.Candidates.{Place, candidates_of}
use Rattle.redo_which.specs.Rule.{Found, Source, Directory, NoDirectory, NoRule, Rule, Arguments}
use Rattle.redo_which.specs.Rule.{arguments_of}
use Rattle.redo_which.specs.Rule.{chosen_among, chosen_of, found_of, is_file, is_rule, missing_among, missing_of}
use Rattle.redo_record.specs.Paths.{IsAmong, Path}
use Rattle.redo_step.specs.Setting.{setting_of, setting_by}
use Rattle.redo_step.specs.Agreeing.{AreAlike}

abbrev AllMissing : Tree → List Path → Type 0
AllMissing tree [] = Unit {0}
AllMissing tree (m ∷ ms) = (is_file tree m ≡ false) × AllMissing tree ms

all_missing : (tree : Tree) (ms : List Path) → ((p : Path) → IsAmong ms p → is_file tree p ≡ false) → AllMissing tree ms
all_missing tree [] h = tt
all_missing tree (m ∷ ms) h = (h m (inl refl), all_missing tree ms (λ p later. h p (inr later)))

-- the first place is a file, or is missing
pub missing-by : (tree : Tree) (p : Place) (ps : List Place) (b : Bool) → is_file tree p.do_file ≡ b →
    missing_among tree (p ∷ ps) ≡ map (λ p. p.do_file)
    (cond (not b) (p ∷ take_while (λ p. not (is_file tree p.do_file)) ps) [])
missing-by tree p ps b e =
    ap (map (λ p. p.do_file))
    (take_while-cons (λ p. not (is_file tree p.do_file)) p ps
    ∙ ap (λ b. cond (not b) (p ∷ take_while (λ p. not (is_file tree p.do_file)) ps) []) e)

same_place : (one two : Tree) (places : List Place) (place : Place) → chosen_among one places ≡ Some place →
    AllMissing two (missing_among one places) → is_file two place.do_file ≡ true →
    (chosen_among two places ≡ Some place) × (missing_among two places ≡ missing_among one places)
same_place one two [] place c m f = absurd cc
same_place one two (x ∷ xs) place c m f = elim (cases_Bool (is_file one x.do_file)) [
  | inl t ↦
      let chosen : Some x ≡ Some place = rw t at c in
      let same : x ≡ place = cc in
      let here : is_file two x.do_file ≡ true = rw same f in
      (rw here chosen, missing-by two x xs true here ∙ sym (missing-by one x xs true t))
  | inr n ↦
      let first : missing_among one (x ∷ xs) ≡ x.do_file ∷ missing_among one xs = missing-by one x xs false n in
      let both : AllMissing two (x.do_file ∷ missing_among one xs) = subst (AllMissing two) first m in
      let rest = same_place one two xs place (rw n at c) both.1 f in
      (rw both.0 rest.0, missing-by two x xs false both.0 ∙ ap (λ l. x.do_file ∷ l) rest.1 ∙ sym first)
]

-- What is found, level by level

module _ (tree : Tree) (target : Path) where
  abbrev by_place : Option Place → Found
  by_place o =
      elim o [
        | None ↦ NoRule (missing_of tree target)
        | Some place ↦ Rule place.do_file (missing_of tree target)
            (arguments_of target place)
      ]

  abbrev by_parent : Option Node → Found
  by_parent up = elim up [
    | Some node ↦ elim node [
      | tree_words.Directory ↦ by_place
          (chosen_of tree target)
      | tree_words.File bytes ↦ NoDirectory
    ]
    | None ↦ NoDirectory
  ]

  abbrev by_node : Option Node → Found
  by_node n = elim n [
    | Some node ↦ elim node [ tree_words.Directory ↦ Directory | tree_words.File bytes ↦ Source ]
    | None ↦ by_parent (option_and_then (node_at tree) (parent_of target))
  ]

  -- a rule comes from a place
  abbrev pub Comes : Found → Type 0
  Comes found = is_rule found ≡ true →
      (place : Place) × (chosen_of tree target ≡ Some place) ×
      (found ≡ Rule place.do_file (missing_of tree target) (arguments_of target place))

  place_comes : (o : Option Place) → chosen_of tree target ≡ o → Comes (by_place o)
  place_comes None e r = absurd cc
  place_comes (Some place) e r = (place, e, refl)

  parent_comes : (up : Option Node) → Comes (by_parent up)
  parent_comes (Some tree_words.Directory) = place_comes (chosen_of tree target) refl
  parent_comes (Some (tree_words.File bytes)) = λ r. absurd cc
  parent_comes None = λ r. absurd cc

  node_comes : (n : Option Node) → Comes (by_node n)
  node_comes (Some tree_words.Directory) = λ r. absurd cc
  node_comes (Some (tree_words.File bytes)) = λ r. absurd cc
  node_comes None = parent_comes (option_and_then (node_at tree) (parent_of target))

  pub rule_comes : Comes (found_of tree target)
  rule_comes = node_comes (node_at tree target)

find-passes : {X : Type 0} (f : X → Bool) (xs : List X) (x : X) → find f xs ≡ Some x → f x ≡ true
find-passes f [] x e = absurd cc
find-passes f (y ∷ ys) x e = elim (cases_Bool (f y)) [
  | inl t ↦ let chosen : Some y ≡ Some x = rw t at e in let same : y ≡ x = cc in rw (← same) t
  | inr n ↦ find-passes f ys x (rw n at e)
]

-- the .do file of a rule is a file
pub rule_file : (tree : Tree) (target do_file : Path) (missing : List Path) (arguments : Arguments) →
    found_of tree target ≡ Rule do_file missing arguments → is_file tree do_file ≡ true
rule_file tree target do_file missing arguments found =
    let first = rule_comes tree target (rw found refl) in
    let is : Rule do_file missing arguments ≡ Rule first.0.do_file (missing_of tree target)
    (arguments_of target first.0) = sym found ∙ first.2 in
    let file : do_file ≡ first.0.do_file = cc in
    rw file (find-passes (λ (p : Place). is_file tree p.do_file) (candidates_of target) first.0 first.1)

-- what is missing before it are candidates
pub rule_missing : (tree : Tree) (target do_file : Path) (missing : List Path) (arguments : Arguments) →
    found_of tree target ≡ Rule do_file missing arguments → missing ≡ missing_of tree target
rule_missing tree target do_file missing arguments found =
    let first = rule_comes tree target (rw found refl) in
    let is : Rule do_file missing arguments ≡ Rule first.0.do_file (missing_of tree target)
    (arguments_of target first.0) = sym found ∙ first.2 in
    cc

pub same_rule : (one two : Tree) (target do_file : Path) (missing : List Path) (arguments : Arguments) →
    found_of one target ≡ Rule do_file missing arguments →
    is_rule (found_of two target) ≡ true → ((p : Path) → IsAmong missing p → is_file two p ≡ false) →
    is_file two do_file ≡ true → found_of two target ≡ Rule do_file missing arguments
same_rule one two target do_file missing arguments found ruled none there =
    let first = rule_comes one target (rw found refl) in
    let second = rule_comes two target ruled in
    let is : Rule do_file missing arguments ≡ Rule first.0.do_file (missing_of one target)
    (arguments_of target first.0) = sym found ∙ first.2 in
    let file : do_file ≡ first.0.do_file = cc in
    let miss : missing ≡ missing_of one target = cc in
    let args : arguments ≡ arguments_of target first.0 = cc in
    let same = same_place one two (candidates_of target) first.0 first.1
    (subst (AllMissing two) miss (all_missing two missing none)) (rw file at there) in
    let chosen : Some second.0 ≡ Some first.0 = sym second.1 ∙ same.0 in
    let place : second.0 ≡ first.0 = cc in
    second.2 ∙ ap (λ (p : Place). Rule p.do_file (missing_of two target) (arguments_of target p)) place
    ∙ ap (λ (m : List Path). Rule first.0.do_file m (arguments_of target first.0)) same.1 ∙ sym is

-- one target by one rule in two trees
pub settings_alike : (one two : Tree) (limit : ℕ) (target : Path) (arguments : Arguments) →
    AreAlike (setting_of one limit target arguments) (setting_of two limit target arguments)
unfolding setting_by
settings_alike one two limit target arguments =
    record { target = refl; directory = refl; stands_for = refl; third = refl; limit = refl; bound = refl }
