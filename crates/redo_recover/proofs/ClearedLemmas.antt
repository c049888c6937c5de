-- After each front of the steps that clear away, the next run goes on with the same tree.
use Rattle.std.proofs.Common.{◌≡◌, ◌++◌, ℕ, Bool, true, cond, ◌⊎◌, inl, inr, List, [], ◌∷◌, Option, Some, None}
use Rattle.std.proofs.Common.{append_assoc, filter, is_some, map, refl, sym, ap, subst, ◌∙◌}
use Rattle.std.proofs.lemmas.Bool.{cases_Bool}
use Rattle.std.proofs.lemmas.List.{map-append}
use Rattle.std.specs.List.{AllByRecursion}
use Rattle.std.specs.Map.{keys_of}
use Rattle.std.specs.Prelude.{MatchOption}
use Rattle.redo_path.proofs.ApartLemmas.{apart}
use Rattle.redo_tree.specs.Tree.{IsTree, Tree, file_at, node_at, without}
use Rattle.redo_tree.proofs.KeptLemmas.{one_sorted}
use Rattle.redo_tree.proofs.WithoutLemmas.{IsTree-without, file_at-without}
use Rattle.redo_dir.specs.Stored.{Removes, Step}
use Rattle.redo_which.specs.Candidates.{journal_path}
use Rattle.redo_mend.specs.Mended.{IsPassedOver, IsRecoveredTree, MendsTo, book_to_put, clearing, is_taken_out, own_files}
use Rattle.redo_mend.proofs.MendLemmas.{book-over, own-over}
use Rattle.redo_recover.specs.Steps.{IsFound, IsOfOthers, MayHold, after_steps, is_free, named_by}
use Rattle.redo_dir.specs.Storing.{steps_to_clear}
use Rattle.redo_recover.proofs.ClearLemmas.{all-cleared, over-cleared, still-mends}
use Rattle.redo_recover.proofs.StepLemmas.{Clears, both-all, clear-parts, cut-last, front-all, named-append, puts_book}

-- ---- a directory without temporary files

-- where none may be there, it is what the steps leave
pub holds-just : (named : Option (List ℕ)) (tree other now : Tree) (steps : List Step) → MayHold named tree steps now → named_by named steps ≡ None → IsTree other → ((p : List ℕ) → after_steps (node_at tree) steps p ≡ node_at other p) → now ≡ other
holds-just named tree other now steps holds none is same =
    one_sorted now other holds.is_tree.sorted is.sorted (λ p. holds.at p (ap (λ o. is_free o p) none) ∙ same p)

pub mends-same : (now mended : Tree) → now ≡ mended → file_at mended journal_path ≡ None → MendsTo now mended
mends-same now mended same none = subst (λ (t : Tree). MendsTo t mended) (sym same) (rw none refl)

-- a whole journal isn't passed over
never-over : (tree mended : Tree) (text : List ℕ) → IsRecoveredTree tree text mended → IsPassedOver tree text → ⊥
never-over tree mended text is (inl no_book) = no_book is.journal is.is_journal
never-over tree mended text is (inr directory) = is.place directory

-- ---- the steps

empty : (xs ys : List Step) → xs ++ ys ≡ [] → xs ≡ []
empty [] ys h = refl
empty (x ∷ xs) ys h = apart cc

taken-clears : (tree mended : Tree) (ps : List (List ℕ)) → AllByRecursion (Clears tree mended) (map Removes (filter (is_taken_out tree mended) ps))
taken-clears tree mended [] = tt
taken-clears tree mended (p ∷ ps) = elim (cases_Bool (is_taken_out tree mended p)) [
  | inl t ↦ rw t (t, taken-clears tree mended ps)
  | inr f ↦ rw f (taken-clears tree mended ps)
]

puts-clears : (over : Bool) (tree mended : Tree) (o : Option (List ℕ)) → book_to_put tree mended ≡ o → AllByRecursion (Clears tree mended) (puts_book over o)
puts-clears over tree mended None e = tt
puts-clears over tree mended (Some x) e = ((refl, e), tt)

-- the steps before the journal is removed
abbrev before_last : Bool → Tree → Tree → List Step
before_last over tree mended = puts_book over (book_to_put tree mended) ++ map Removes (filter (is_taken_out tree mended) (keys_of tree))

before-clears : (over : Bool) (tree mended : Tree) → AllByRecursion (Clears tree mended) (before_last over tree mended)
before-clears over tree mended =
    both-all (Clears tree mended) (puts_book over (book_to_put tree mended)) (map Removes (filter (is_taken_out tree mended) (keys_of tree)))
    (puts-clears over tree mended (book_to_put tree mended) refl) (taken-clears tree mended (keys_of tree))

-- all of them
abbrev all_steps : Bool → Tree → Tree → List Step
all_steps over tree mended = puts_book over (book_to_put tree mended) ++ map Removes (own_files tree mended)

last-removed : (over : Bool) (tree mended : Tree) → all_steps over tree mended ≡ before_last over tree mended ++ Removes journal_path ∷ []
last-removed over tree mended =
    let puts = puts_book over (book_to_put tree mended) in
    let outs = filter (is_taken_out tree mended) (keys_of tree) in
    ap (λ rs. puts ++ rs) (map-append Removes outs (journal_path ∷ []))
    ∙ sym (append_assoc puts (map Removes outs) (Removes journal_path ∷ []))

-- after the last of them no temporary file is named
unnamed : (over : Bool) (tree mended : Tree) (named : Option (List ℕ)) → named_by named (all_steps over tree mended) ≡ None
unnamed over tree mended named = ap (named_by named) (last-removed over tree mended) ∙ named-append named (before_last over tree mended) (Removes journal_path ∷ [])

module _ (over : Bool) (tree mended : Tree) (is : IsTree tree) (mends : MendsTo tree mended) where
  over-steps : mended ≡ without tree (journal_path ∷ []) → all_steps over tree mended ≡ map Removes (journal_path ∷ [])
  over-steps same =
      ap (λ o. puts_book over o ++ map Removes (own_files tree mended)) (sym (book-over tree is mended same))
      ∙ ap (map Removes) (sym (own-over tree is mended same))

  -- what the mended tree is
  abbrev pub Ways : Option (List ℕ) → Type 0
  Ways file = MatchOption file (mended ≡ tree) (λ text. IsRecoveredTree tree text mended ⊎ (IsPassedOver tree text × (mended ≡ without tree (journal_path ∷ []))))

  mended-tree : (o : Option (List ℕ)) → Ways o → IsTree mended
  mended-tree None same = subst IsTree (sym same) is
  mended-tree (Some text) (inl found) = found.is_mended.is_tree
  mended-tree (Some text) (inr passed) = subst IsTree (sym passed.1) (IsTree-without tree (journal_path ∷ []) is)

  no-journal-left : (o : Option (List ℕ)) → file_at tree journal_path ≡ o → Ways o → file_at mended journal_path ≡ None
  no-journal-left None e same = ap (λ t. file_at t journal_path) same ∙ e
  no-journal-left (Some text) e (inl found) = found.is_mended.own journal_path (λ b. apart cc) refl
  no-journal-left (Some text) e (inr passed) = ap (λ t. file_at t journal_path) passed.1 ∙ file_at-without tree (journal_path ∷ []) journal_path is

  steps-all : (text : List ℕ) → file_at tree journal_path ≡ Some text → clearing over tree mended ≡ all_steps over tree mended
  steps-all text e =
      ap (λ o. cond (is_some o) (steps_to_clear over (book_to_put tree mended) (own_files tree mended)) []) e
      ∙ clear-parts over (book_to_put tree mended) (own_files tree mended)

  no-steps : file_at tree journal_path ≡ None → clearing over tree mended ≡ []
  no-steps e = ap (λ o. cond (is_some o) (steps_to_clear over (book_to_put tree mended) (own_files tree mended)) []) e

  -- after all of them it is the mended tree
  pub all-leave : (o : Option (List ℕ)) → file_at tree journal_path ≡ o → Ways o → IsOfOthers tree → (p : List ℕ) → after_steps (node_at tree) (clearing over tree mended) p ≡ node_at mended p
  all-leave None e same others p = ap (λ s. after_steps (node_at tree) s p) (no-steps e) ∙ ap (λ t. node_at t p) (sym same)
  all-leave (Some text) e (inl found) others p = ap (λ s. after_steps (node_at tree) s p) (steps-all text e) ∙ all-cleared tree mended text is e found others over p
  all-leave (Some text) e (inr passed) others p =
      ap (λ s. after_steps (node_at tree) s p) (steps-all text e ∙ over-steps passed.1) ∙ over-cleared tree mended text is e passed.1 p

  pub all-unnamed : (o : Option (List ℕ)) → file_at tree journal_path ≡ o → (named : Option (List ℕ)) → IsFound tree mended named → named_by named (clearing over tree mended) ≡ None
  all-unnamed None e None by = ap (named_by None) (no-steps e)
  all-unnamed None e (Some text) by = let bad : Some text ≡ None = sym by.0 ∙ e in apart cc
  all-unnamed (Some text) e named by = ap (named_by named) (steps-all text e) ∙ unnamed over tree mended named

  -- before any of them it is the tree, unless temporary files may be there
  begun : (now : Tree) → MayHold None tree [] now → MendsTo now mended
  begun now holds =
      let same : now ≡ tree = holds-just None tree tree now [] holds refl is (λ p. refl) in
      subst (λ (t : Tree). MendsTo t mended) (sym same) mends

  -- while a journal that is passed over stands, nothing was done
  over-begun : (text : List ℕ) → file_at tree journal_path ≡ Some text → IsPassedOver tree text → (named : Option (List ℕ)) → IsFound tree mended named → (now : Tree) → MayHold named tree [] now → MendsTo now mended
  over-begun text e passed None by now holds = begun now holds
  over-begun text e passed (Some t) by now holds =
      let same : Some t ≡ Some text = sym by.0 ∙ e in
      let is_text : t ≡ text = cc in
      absurd (never-over tree mended text (subst (λ (x : List ℕ). IsRecoveredTree tree x mended) is_text by.1) passed)

  part : (o : Option (List ℕ)) → file_at tree journal_path ≡ o → Ways o → IsOfOthers tree → (named : Option (List ℕ)) → IsFound tree mended named → (front left : List Step) → before_last over tree mended ≡ front ++ left → (now : Tree) → MayHold named tree front now → is_some o ≡ true → MendsTo now mended
  part None e w others named by front left cut now holds some = apart cc
  part (Some text) e (inl found) others named by front left cut now holds some =
      let clears = front-all (Clears tree mended) front left (subst (AllByRecursion (Clears tree mended)) cut (before-clears over tree mended)) in
      still-mends tree mended text is e found others front clears named by now holds
  part (Some text) e (inr passed) others named by front left cut now holds some =
      let none : before_last over tree mended ≡ [] = over-before passed.1 in
      let nothing : front ≡ [] = empty front left (sym cut ∙ none) in
      over-begun text e passed.0 named by now (subst (λ (s : List Step). MayHold named tree s now) nothing holds)
    where
      last-one : (xs : List Step) (y z : Step) → xs ++ y ∷ [] ≡ z ∷ [] → xs ≡ []
      last-one [] y z h = refl
      last-one (x ∷ []) y z h = apart cc
      last-one (x ∷ w ∷ xs) y z h = apart cc

      over-before : mended ≡ without tree (journal_path ∷ []) → before_last over tree mended ≡ []
      over-before same = last-one (before_last over tree mended) (Removes journal_path) (Removes journal_path) (sym (last-removed over tree mended) ∙ over-steps same)

  -- so after each front of them the next run goes on with that tree
  pub front-mends : IsOfOthers tree → (named : Option (List ℕ)) → IsFound tree mended named → (front rest : List Step) → clearing over tree mended ≡ front ++ rest → (now : Tree) → MayHold named tree front now → MendsTo now mended
  front-mends others named by front rest cut now holds =
      (elim (file_at tree journal_path) as (λ o. file_at tree journal_path ≡ o → Ways o → MendsTo now mended) [
        | None ↦ λ e w.
            let nothing : front ≡ [] = empty front rest (sym cut ∙ no-steps e) in
            unfound named by e (subst (λ (s : List Step). MayHold named tree s now) nothing holds)
        | Some text ↦ λ e w.
            let whole : before_last over tree mended ++ Removes journal_path ∷ [] ≡ front ++ rest = sym (steps-all text e ∙ last-removed over tree mended) ∙ cut in
            elim (cut-last (before_last over tree mended) (Removes journal_path) front rest whole) [
              | inl some ↦ part (Some text) e w others named by front some.0 some.1 now holds refl
              | inr all ↦
                  let is_all : front ≡ clearing over tree mended = all.0 ∙ sym (steps-all text e ∙ last-removed over tree mended) in
                  let same : now ≡ mended = holds-just named tree mended now (clearing over tree mended)
                  (subst (λ (s : List Step). MayHold named tree s now) is_all holds) (all-unnamed (Some text) e named by) (mended-tree (Some text) w)
                  (all-leave (Some text) e w others) in
                  mends-same now mended same (no-journal-left (Some text) e w)
            ]
      ]) refl mends
    where
      unfound : (o : Option (List ℕ)) → IsFound tree mended o → file_at tree journal_path ≡ None → MayHold o tree [] now → MendsTo now mended
      unfound None b e holds = begun now holds
      unfound (Some t) b e holds = let bad : Some t ≡ None = sym b.0 ∙ e in apart cc
