-- The first line of a text.
use Rattle.std.proofs.Common.{◌≡◌, ◌≢◌, ℕ, true, false, ◌&&◌, ◌==◌, List, [], ◌∷◌, ◌++◌, refl, inl, inr}
use Rattle.std.specs.Prelude.{codes}
use Rattle.std.proofs.lemmas.Bool.{cases_Bool, eqb-true, and_parts, both_ways}
use Rattle.std.specs.Str.{bytes_eq}
use Rattle.redo_script.specs.Texts.{first_line, interpreter_is_fit}

pub no_interpreter : (text : List ℕ) → ((rest : List ℕ) → text ≢ codes "#!" ++ rest) → interpreter_is_fit text ≡ true
no_interpreter [] h = refl
no_interpreter (a ∷ []) h = refl
no_interpreter (a ∷ b ∷ bs) h = elim (cases_Bool ((a == 35) && (b == 33))) [
  | inl e ↦
      let p = and_parts (a == 35) (b == 33) e in
      let ea : a ≡ 35 = eqb-true a 35 p.0 in
      let eb : b ≡ 33 = eqb-true b 33 p.1 in
      absurd (h bs (cc (ea, eb)))
  | inr e ↦ rw e refl
]

line_begins : (text p : List ℕ) → bytes_eq (first_line text) p ≡ true → (rest : List ℕ) × (text ≡ p ++ rest)
line_begins text [] h = (text, refl)
line_begins [] (c ∷ p) h = absurd (both_ways false refl h)
line_begins (b ∷ bs) (c ∷ p) h = elim (cases_Bool (b == 10)) [
  | inl e ↦ absurd (both_ways false refl (rw e at h))
  | inr e ↦
      let q = and_parts (b == c) (bytes_eq (first_line bs) p) (rw e at h) in
      let same : b ≡ c = eqb-true b c q.0 in
      let on = line_begins bs p q.1 in
      let others : bs ≡ p ++ on.0 = on.1 in
      (on.0, cc)
]

pub other_interpreter : (rest : List ℕ) → ((more : List ℕ) → rest ≢ codes "/bin/sh -e" ++ more) → interpreter_is_fit (codes "#!" ++ rest) ≡ false
other_interpreter rest h = elim (cases_Bool (bytes_eq (first_line rest) (codes "/bin/sh -e"))) [
  | inl e ↦ let on = line_begins rest (codes "/bin/sh -e") e in absurd (h on.0 on.1)
  | inr e ↦ e
]

pub line_ends : (b : ℕ) (bs : List ℕ) → interpreter_is_fit (codes "#!/bin/sh -e" ++ b ∷ bs) ≡ (b == 10)
line_ends b bs = elim (cases_Bool (b == 10)) [ inl e ↦ rw e refl | inr e ↦ rw e refl ]
