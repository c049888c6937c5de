-- Keeping is safe over a small tree with a book of two records, as two runs one after another leave it: the premises of
-- what is promised where it is safe can be met.
use Rattle.std.proofs.Common.{◌≡◌, ◌≤◌, ℕ, ◌⊎◌, inl, inr, List, [], ◌∷◌, ◌++◌, Some, None, length, refl, sym, subst}
use Rattle.std.proofs.Common.{◌∙◌, arith, bytes_eq}
use Rattle.std.proofs.lemmas.Bool.{cases_Bool}
use Rattle.std.specs.Prelude.{codes}
use Rattle.redo_digest.specs.Digest.{state_of}
use Rattle.redo_tree.specs.Tree.{Tree, Directory, File}
use Rattle.redo_script.specs.Bytes.{is_plain}
use Rattle.redo_script.specs.Reading.{next_byte, at_end, read_on, tokens_of}
use Rattle.redo_script.specs.Parsing.{parse_on, statements_of}
use Rattle.redo_script.specs.Texts.{script_in}
use Rattle.redo_record.specs.Paths.{IsAmong}
use Rattle.redo_record.specs.declared.outcome.Outcome.{Outcome}
use Rattle.redo_record.specs.declared.outcome.Outcome.TheVariants.{Built}
use Rattle.redo_book.specs.Book.{Record, book_lines, record_at, text_of}
use Rattle.redo_book.specs.declared.book.BookEntry.TheVariants.{Change}
use Rattle.redo_build.specs.Outcomes.{outcome_at, needed_at}
use Rattle.redo_build.specs.Rules.{Ask, Rules}
use Rattle.redo_step.specs.Path.{resolved}
use Rattle.redo_step.specs.Statements.{meaning, run}
use Rattle.redo_step.specs.Setting.{setting_by}
use Rattle.redo_skip.specs.Truth.{AreApart, IsWitness}
use Rattle.redo_rules.specs.Build.{GivenView, plain_rules_for, sources_for}
use Rattle.redo_rules.specs.TreeSources.{IsTrueOfTrees, IsUnconfused}
use Rattle.redo_run.specs.Skipping.{KeepsSafely}

abbrev line : List ℕ → List ℕ
line bytes = bytes ++ 10 ∷ []

-- a depends on the source c, and makes no file
abbrev script_of_a : List ℕ
script_of_a = line (codes "redo-ifchange c")

-- b depends on a, and writes a line
abbrev script_of_b : List ℕ
script_of_b = line (codes "redo-ifchange a") ++ line (codes "echo y")

abbrev made : List ℕ
made = line (codes "y")

-- what the last run has recorded of both
abbrev of_a : Record
of_a = record {
  target = codes "a";
  state = None;
  entries = Change (state_of (Some script_of_a)) (codes "a.do") ∷ Change (state_of (Some (codes "x"))) (codes "c") ∷ [];
}

abbrev of_b : Record
of_b = record {
  target = codes "b";
  state = state_of (Some made);
  entries = Change (state_of (Some script_of_b)) (codes "b.do") ∷ Change None (codes "a") ∷ [];
}

abbrev book : List Record
book = of_a ∷ of_b ∷ []

abbrev sources : Tree
sources = ([], Directory)
    ∷ (codes "a.do", File script_of_a)
    ∷ (codes "b.do", File script_of_b)
    ∷ (codes "c", File (codes "x"))
    ∷ []

-- the tree as it was read, with the book and the file of b
abbrev tree : Tree
tree = ([], Directory)
    ∷ (codes ".redo-book", File (text_of (book_lines book)))
    ∷ (codes "a.do", File script_of_a)
    ∷ (codes "b", File made)
    ∷ (codes "b.do", File script_of_b)
    ∷ (codes "c", File (codes "x"))
    ∷ []

abbrev given : GivenView
given = record {
  past = record { tree = tree; sources = sources; book = book };
  request = codes "b" ∷ [];
  limits = record { targets = 2; file_bytes = 1000 };
}

abbrev rules : Rules
rules = plain_rules_for given

abbrev ends : Ask
ends = outcome_at rules 2

needed : needed_at rules (codes "b" ∷ []) 2 ≡ codes "b" ∷ codes "a" ∷ []
unfolding script_in tokens_of read_on next_byte at_end statements_of parse_on is_plain meaning run resolved setting_by
needed = refl

a_is_built : ends (codes "a") ≡ Some (Built None)
unfolding script_in tokens_of read_on next_byte at_end statements_of parse_on is_plain meaning run resolved setting_by
a_is_built = refl

b_is_built : ends (codes "b") ≡ Some (Built (Some made))
unfolding script_in tokens_of read_on next_byte at_end statements_of parse_on is_plain meaning run resolved setting_by
b_is_built = refl

-- what has an outcome isn't cyclic
not_cyclic : (p q : List ℕ) (o : Outcome) → ends p ≡ Some o → p ≡ q → ends q ≡ None → ⊥
not_cyclic p q o built same none =
    let P : List ℕ → Type 0 = λ x. ends x ≡ Some o in
    let bad : None ≡ Some o = sym none ∙ subst P same built in cc

witness_of_a : IsWitness of_a (sources_for given) ends
unfolding script_in tokens_of read_on next_byte at_end statements_of parse_on is_plain meaning run resolved setting_by
witness_of_a = record {
  ruled = refl;
  file = None;
  came = refl;
  state = refl;
  states = ((Some script_of_a, refl, refl), ((Some (codes "x"), refl, refl), tt));
}

witness_of_b : IsWitness of_b (sources_for given) ends
unfolding script_in tokens_of read_on next_byte at_end statements_of parse_on is_plain meaning run resolved setting_by
witness_of_b = record {
  ruled = refl;
  file = Some made;
  came = refl;
  state = refl;
  states = ((Some script_of_b, refl, refl), ((None, refl, refl), tt));
}

-- the records were made of these sources, so no digest has to tell files apart
apart : AreApart (sources_for given) ends (sources_for given) ends
apart q file other one two same = let both : Some file ≡ Some other = sym one ∙ two in cc

abbrev IsHonest : Record → Type 0
IsHonest r = (is : IsTrueOfTrees 1000 r) × IsUnconfused given r is

a_is_honest : IsHonest of_a
unfolding witness_of_a
a_is_honest = (
  record { tree = sources; ask = ends; witness = witness_of_a },
  record { met = apart; made = λ same. refl },
)

b_is_honest : IsHonest of_b
unfolding witness_of_b
b_is_honest = (
  record { tree = sources; ask = ends; witness = witness_of_b },
  record { met = apart; made = λ same. refl },
)

-- the book has no other records
two_records : (p : List ℕ) (r : Record) → record_at book p ≡ Some r → (of_a ≡ r) ⊎ (of_b ≡ r)
two_records p r at = elim (cases_Bool (bytes_eq (codes "a") p)) [
  | inl a ↦ inl (let this : Some of_a ≡ Some r = rw a at at in cc)
  | inr other ↦ elim (cases_Bool (bytes_eq (codes "b") p)) [
    | inl b ↦ inr (let this : Some of_b ≡ Some r = rw (other, b) at at in cc)
    | inr none ↦ absurd (let this : None ≡ Some r = rw (other, none) at at in cc)
  ]
]

safe : KeepsSafely given
safe = record {
  within = let P : List (List ℕ) → Type 0 = λ ps. length ps ≤ 2 in subst P (sym needed) (omega arith);
  none_cyclic = λ p m none.
      let P : List (List ℕ) → Type 0 = λ ps. IsAmong ps p in
      elim (subst P needed m) [
        | inl b ↦ not_cyclic (codes "b") p (Built (Some made)) b_is_built b none
        | inr later ↦ elim later [
          | inl a ↦ not_cyclic (codes "a") p (Built None) a_is_built a none
          | inr none_left ↦ absurd none_left
        ]
      ];
  honest = λ p r at. elim (two_records p r at) [
    | inl a ↦ subst IsHonest a a_is_honest
    | inr b ↦ subst IsHonest b b_is_honest
  ];
}
