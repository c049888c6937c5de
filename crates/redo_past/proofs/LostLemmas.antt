-- A target with a rule that isn't as the last run left it has lost its file.
use Rattle.std.proofs.Common.{◌≡◌, ◌∙◌, ℕ, true, false, inl, inr, List, [], Option, Some, None, ap, refl, sym}
use Rattle.std.specs.Option.{option_eq}
use Rattle.std.specs.Str.{bytes_eq}
use Rattle.redo_digest.specs.Digest.{State, state_of}
use Rattle.redo_tree.specs.Tree.{file_at}
use Rattle.redo_which.specs.Rule.{found_of, is_rule}
use Rattle.redo_book.specs.Book.{Record, record_at}
use Rattle.redo_book.specs.Intact.{is_intact}
use Rattle.redo_past.specs.Past.{IsPast, PastView, has_digest}
use Rattle.redo_past.proofs.CarryLemmas.{Without, found-item, left-file, no-rule}
use Rattle.redo_past.proofs.PastLemmas.{past_book}

-- a generated file is as the record tells
generated-same : (file : Option (List ℕ)) (state : State) → has_digest file state ≡ true →
    option_eq bytes_eq (state_of file) state ≡ true
generated-same None state h = absurd (let bad : false ≡ true = h in cc)
generated-same (Some bytes) None h = absurd (let bad : false ≡ true = h in cc)
generated-same (Some bytes) (Some digest) h = h

-- where there is no file, but another state is told, that is a file's
lost-state : (state : State) → option_eq bytes_eq (state_of None) state ≡ false → (digest : List ℕ) × (state ≡ Some digest)
lost-state None h = absurd (let bad : true ≡ false = h in cc)
lost-state (Some digest) h = (digest, refl)

pub lost-file : (past : PastView) (r : Record) → IsPast past → Without past → record_at past.book r.target ≡ Some r →
    is_rule (found_of past.sources r.target) ≡ true → is_intact (file_at past.tree) r ≡ false →
    (file_at past.tree r.target ≡ None) × ((digest : List ℕ) × (r.state ≡ Some digest))
lost-file past r is law at rule altered =
    let known = found-item (λ (q : Record). q.target) past.book r.target r at in
    elim (left-file past [] r is (past_book past is).sorted law no-rule known.0 rule) [
      | inl made ↦
          let intact = generated-same (file_at past.tree r.target) r.state made in
          absurd (let bad : true ≡ false = sym intact ∙ altered in cc)
      | inr none ↦ (
        none,
        lost-state r.state (sym (ap (λ file. option_eq bytes_eq (state_of file) r.state) none) ∙ altered),
      )
    ]
