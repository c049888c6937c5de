-- What steps of storing leave, path by path.
use Rattle.std.proofs.Common.{◌≡◌, ◌++◌, ℕ, Bool, true, false, cond, not, ◌⊎◌, inl, inr, List, [], ◌∷◌, Option, Some, None}
use Rattle.std.proofs.Common.{is_some, map, refl, sym, ap, ◌∙◌}
use Rattle.std.proofs.lemmas.Bool.{cases_Bool}
use Rattle.std.specs.Cmp.Lexicographic.{nat_list_eq_equiv}
use Rattle.std.specs.List.{AllByRecursion}
use Rattle.std.specs.Prelude.{◌&&◌}
use Rattle.std.specs.Str.{bytes_eq}
use Rattle.redo_path.proofs.ApartLemmas.{apart}
use Rattle.redo_names.specs.Paths.{is_among}
use Rattle.redo_tree.specs.Tree.{File, Node, Tree, file_at}
use Rattle.redo_dir.specs.Stored.{Finishes, Journals, Puts, Removes, Step, put_in, puts_in}
use Rattle.redo_which.specs.Candidates.{book_path, journal_path}
use Rattle.redo_past.proofs.ItemLemmas.{IsItem}
use Rattle.redo_past.proofs.OrderLemmas.{same_path}
use Rattle.redo_mend.specs.Mended.{book_to_put, is_taken_out}
use Rattle.redo_recover.specs.Steps.{Places, after_step, after_steps, named_after, named_by}
use Rattle.redo_dir.specs.Storing.{steps_to_clear}

-- ---- fronts of lists

module _ {X : Type 0} where
  -- a front of a list and one item more is a front of the list, or all
  pub cut-last : (xs : List X) (y : X) (front rest : List X) → xs ++ y ∷ [] ≡ front ++ rest →
      ((left : List X) × (xs ≡ front ++ left)) ⊎ ((front ≡ xs ++ y ∷ []) × (rest ≡ []))
  cut-last xs y [] rest e = inl (xs, refl)
  cut-last [] y (f ∷ []) rest e = let same : y ≡ f = cc in let none : [] ≡ rest = cc in inr (λ i. sym same i ∷ [], sym none)
  cut-last [] y (f ∷ g ∷ front) rest e = apart cc
  cut-last (x ∷ xs) y (f ∷ front) rest e =
      let same : x ≡ f = cc in
      let behind : xs ++ y ∷ [] ≡ front ++ rest = cc in
      elim (cut-last xs y front rest behind) [
        | inl part ↦ inl (part.0, λ i. same i ∷ part.1 i)
        | inr all ↦ inr (λ i. sym same i ∷ all.0 i, all.1)
      ]

  -- a front of two lists is one of the first, or the first and a front of the second
  pub cut-two : (xs ys front rest : List X) → xs ++ ys ≡ front ++ rest →
      ((left : List X) × (xs ≡ front ++ left)) ⊎ ((more : List X) × (front ≡ xs ++ more) × (ys ≡ more ++ rest))
  cut-two xs ys [] rest e = inl (xs, refl)
  cut-two [] ys (f ∷ front) rest e = inr (f ∷ front, refl, e)
  cut-two (x ∷ xs) ys (f ∷ front) rest e =
      let same : x ≡ f = cc in
      let behind : xs ++ ys ≡ front ++ rest = cc in
      elim (cut-two xs ys front rest behind) [
        | inl part ↦ inl (part.0, λ i. same i ∷ part.1 i)
        | inr all ↦ inr (all.0, (λ i. sym same i ∷ all.1 i), all.2)
      ]

  pub front-all : (P : X → Type 0) (xs ys : List X) → AllByRecursion P (xs ++ ys) → AllByRecursion P xs
  front-all P [] ys h = tt
  front-all P (x ∷ xs) ys h = (h.0, front-all P xs ys h.1)

  pub both-all : (P : X → Type 0) (xs ys : List X) → AllByRecursion P xs → AllByRecursion P ys → AllByRecursion P (xs ++ ys)
  both-all P [] ys h k = k
  both-all P (x ∷ xs) ys h k = (h.0, both-all P xs ys h.1 k)

-- a front of files that are put is some of these files
pub cut-puts : (listed : Tree) (files : List (List ℕ × List ℕ)) (front rest : List Step) → puts_in listed files ≡ front ++ rest →
    (some : List (List ℕ × List ℕ)) × (front ≡ puts_in listed some) × ((x : List ℕ × List ℕ) → IsItem some x → IsItem files x)
cut-puts listed files [] rest e = ([], refl, λ x m. absurd m)
cut-puts listed [] (s ∷ front) rest e = apart cc
cut-puts listed (f ∷ files) (s ∷ front) rest e =
    let same : put_in listed f ≡ s = cc in
    let behind : puts_in listed files ≡ front ++ rest = cc in
    let more = cut-puts listed files front rest behind in
    (f ∷ more.0, (λ i. sym same i ∷ more.1 i), λ x m. elim m [ inl here ↦ inl here | inr later ↦ inr (more.2 x later) ])

-- ---- steps one after another

pub after-append : (was : Places) (front more : List Step) → after_steps was (front ++ more) ≡ after_steps (after_steps was front) more
after-append was [] more = refl
after-append was (s ∷ front) more = after-append (after_step was s) front more

pub named-append : (named : Option (List ℕ)) (front more : List Step) → named_by named (front ++ more) ≡ named_by (named_by named front) more
named-append named [] more = refl
named-append named (s ∷ front) more = named-append (named_after named s) front more

-- ---- files that are put

-- where files are put a path has what it had, or one of these
pub puts-at : (listed : Tree) (was : Places) (files : List (List ℕ × List ℕ)) (p : List ℕ) →
    (after_steps was (puts_in listed files) p ≡ was p) ⊎
    ((bytes : List ℕ) × IsItem files (p, bytes) × (after_steps was (puts_in listed files) p ≡ Some (File bytes)))
puts-at listed was [] p = inl refl
puts-at listed was (f ∷ files) p = elim (puts-at listed (after_step was (put_in listed f)) files p) [
  | inl same ↦ elim (cases_Bool (bytes_eq p f.0)) [
    | inl here ↦
        let item : f ≡ (p, f.1) = ap (λ q. (q, f.1)) (sym (same_path p f.0 here)) in
        inr (f.1, inl item, same ∙ ap (λ b. cond b (Some (File f.1)) (was p)) here)
    | inr other ↦ inl (same ∙ ap (λ b. cond b (Some (File f.1)) (was p)) other)
  ]
  | inr put ↦ inr (put.0, inr put.1, put.2)
]

pub puts-named : (listed : Tree) (named : Option (List ℕ)) (files : List (List ℕ × List ℕ)) → named_by named (puts_in listed files) ≡ named
puts-named listed named [] = refl
puts-named listed named (f ∷ files) = puts-named listed named files

-- ---- files that are removed

pub none-cond : {A : Type 0} (b : Bool) → ◌≡◌ {A = Option A} (cond b None None) None
none-cond true = refl
none-cond false = refl

pub removed-at : (was : Places) (ps : List (List ℕ)) (p : List ℕ) → after_steps was (map Removes ps) p ≡ cond (is_among ps p) None (was p)
removed-at was [] p = refl
removed-at was (q ∷ ps) p = removed-at (after_step was (Removes q)) ps p ∙ (elim (cases_Bool (bytes_eq q p)) [
  | inl here ↦
      let turned : bytes_eq p q ≡ true = nat_list_eq_equiv.symm p q ∙ here in
      rw (here, turned) (none-cond (is_among ps p))
  | inr other ↦
      let turned : bytes_eq p q ≡ false = nat_list_eq_equiv.symm p q ∙ other in
      rw (other, turned) refl
])

-- ---- what is cleared away

-- the book is put, if there is one to put
abbrev pub puts_book : Bool → Option (List ℕ) → List Step
puts_book over None = []
puts_book over (Some text) = Puts book_path text over ∷ []

pub clear-parts : (over : Bool) (o : Option (List ℕ)) (own : List (List ℕ)) → steps_to_clear over o own ≡ puts_book over o ++ map Removes own
clear-parts over None own = refl
clear-parts over (Some text) own = refl

pub taken-file : (a b c : Bool) → (a && (not b && not c)) ≡ true → (a ≡ true) × ((b ≡ false) × (c ≡ false))
taken-file true true c h = apart cc
taken-file true false true h = apart cc
taken-file true false false h = (refl, (refl, refl))
taken-file false b c h = apart cc

module _ (tree mended : Tree) where
  -- a step before the journal is removed: the book is put, or a temporary file is removed
  abbrev pub Clears : Step → Type 0
  Clears (Journals text) = ⊥
  Clears (Puts path bytes over) = (path ≡ book_path) × (book_to_put tree mended ≡ Some bytes)
  Clears Finishes = ⊥
  Clears (Removes path) = is_taken_out tree mended path ≡ true

  -- a path has what it had, or was taken out, or is the book's, which was put
  abbrev pub IsClearedAt : Option Node → List ℕ → Option Node → Type 0
  IsClearedAt was p now =
      (now ≡ was) ⊎ (((now ≡ None) × (is_taken_out tree mended p ≡ true)) ⊎
      ((p ≡ book_path) × (bytes : List ℕ) × (book_to_put tree mended ≡ Some bytes) × (now ≡ Some (File bytes))))

  pub cleared-at : (was : Places) (steps : List Step) (p : List ℕ) → AllByRecursion Clears steps → IsClearedAt (was p) p (after_steps was steps p)
  cleared-at was [] p h = inl refl
  cleared-at was (Journals text ∷ steps) p h = absurd h.0
  cleared-at was (Finishes ∷ steps) p h = absurd h.0
  cleared-at was (Puts path bytes over ∷ steps) p h = elim (cleared-at (after_step was (Puts path bytes over)) steps p h.1) [
    | inl same ↦ elim (cases_Bool (bytes_eq p path)) [
      | inl here ↦ inr (inr (same_path p path here ∙ h.0.0, bytes, h.0.1, same ∙ ap (λ b. cond b (Some (File bytes)) (was p)) here))
      | inr other ↦ inl (same ∙ ap (λ b. cond b (Some (File bytes)) (was p)) other)
    ]
    | inr changed ↦ inr changed
  ]
  cleared-at was (Removes path ∷ steps) p h = elim (cleared-at (after_step was (Removes path)) steps p h.1) [
    | inl same ↦ elim (cases_Bool (bytes_eq p path)) [
      | inl here ↦ inr (inl (same ∙ ap (λ b. cond b None (was p)) here, ap (is_taken_out tree mended) (same_path p path here) ∙ h.0))
      | inr other ↦ inl (same ∙ ap (λ b. cond b None (was p)) other)
    ]
    | inr changed ↦ inr changed
  ]

  no-journal : (p : List ℕ) → is_taken_out tree mended p ≡ true → bytes_eq p journal_path ≡ false
  no-journal p h = (taken-file (is_some (file_at tree p)) (is_some (file_at mended p)) (bytes_eq p journal_path) h).1.1

  pub cleared-named : (named : Option (List ℕ)) (steps : List Step) → AllByRecursion Clears steps → named_by named steps ≡ named
  cleared-named named [] h = refl
  cleared-named named (Journals text ∷ steps) h = absurd h.0
  cleared-named named (Finishes ∷ steps) h = absurd h.0
  cleared-named named (Puts path bytes over ∷ steps) h = cleared-named named steps h.1
  cleared-named named (Removes path ∷ steps) h =
      ap (λ b. named_by (cond b None named) steps) (no-journal path h.0) ∙ cleared-named named steps h.1
