-- How an entry stands by a report, from how it stands by the sources alone.
use Rattle.std.proofs.Common.{◌≡◌, ◌∙◌, ◌⊎◌, ℕ, List, Some, ap, inl, inr, sym, true}
use Rattle.redo_digest.specs.Digest.{State}
use Rattle.redo_record.specs.declared.outcome.Outcome.{Outcome}
use Rattle.redo_book.specs.declared.book.BookEntry.{BookEntry}
use Rattle.redo_book.specs.declared.book.BookEntry.TheVariants.{Change, Create, Always}
use Rattle.redo_build.specs.Rules.{Ask}
use Rattle.redo_build.specs.Schedule.{nothing_known}
use Rattle.redo_skip.specs.Checks.{falls, has_state, is_asked, lacks, standing, stands, stands_if, told}
use Rattle.redo_skip.specs.Sources.{Sources}
use Rattle.redo_skip.proofs.StoodLemmas.{always, answered-path, asking-one, not-falling, not-lacking}

module _ (s : Sources) (a : Ask) where
  -- what stands or falls without any answer does so by each
  pub stands-by : (e : BookEntry) → stands ≡ standing s nothing_known e → stands ≡ standing s a e
  stands-by e h = sym (always s e stands (sym h) (not-lacking s) a)

  pub falls-by : (e : BookEntry) → falls ≡ standing s nothing_known e → falls ≡ standing s a e
  falls-by e h = sym (always s e falls (sym h) (not-falling s) a)

  -- what asks goes by the answer
  pub asks-by : (state : State) (q : List ℕ) (o : Outcome) → lacks ≡ standing s nothing_known (Change state q) → a q ≡ Some o →
      stands_if (has_state state (told (Some o))) ≡ standing s a (Change state q)
  asks-by state q o h answer =
      let found = asking-one s (Change state q) (sym h) in
      let same : q ≡ found.1 = let e : Change state q ≡ Change found.0 found.1 = found.2 in cc in
      let asked : is_asked s q ≡ true = ap (is_asked s) same ∙ found.3 in
      sym (answered-path s state q a o asked answer)

  -- no other entry asks
  pub others-never-ask : (e : BookEntry) → ((q : List ℕ) × (e ≡ Create q)) ⊎ (e ≡ Always) → lacks ≡ standing s nothing_known e → ⊥
  others-never-ask e is h =
      let found = asking-one s e (sym h) in
      let other : e ≡ Change found.0 found.1 = found.2 in
      elim is [
        | inl create ↦ let made : e ≡ Create create.0 = create.1 in cc
        | inr always ↦ cc
      ]
