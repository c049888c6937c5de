-- Drafts without a name that were asked to be removed.
use Rattle.std.proofs.Common.{◌≡◌, ◌∙◌, List, [], ◌∷◌, ◌++◌, Result, Ok, Err, ap, append_assoc, refl, true}
use Rattle.std.specs.Prelude.{OnErr, OnOk, is_ok}
use Rattle.redo_path.proofs.ApartLemmas.{apart}
use Rattle.redo_path.proofs.PartLemmas.{AllByRecursion-append}
use Rattle.redo_dir.specs.declared.drafts.Draft.{Draft}
use Rattle.redo_dir.specs.declared.unwritten.Unwritten.{Unwritten}
use Rattle.redo_dir.specs.Stored.{Step}
use Rattle.redo_dir.specs.inside.Batches.{GivesUpRest, IsGivenUp, asked}

-- the first draft that didn't get its name
pub gave_up_first : {F : Type 0} (gone : F → Type 0) (old before new : List Step) (drafts : List (Draft F)) (draft : Draft F) (outcome result : Result (Unit {0}) Unwritten) → OnOk outcome (before ≡ old ++ asked drafts) → is_ok outcome ≡ true → OnErr result (new ≡ before) → OnErr result (IsGivenUp gone draft) → OnErr result (GivesUpRest gone old (drafts ++ draft ∷ []) new)
gave_up_first gone old before new drafts draft (Err e) result all o k g = apart cc
gave_up_first gone old before new drafts draft (Ok x) (Ok y) all o k g = tt
gave_up_first gone old before new drafts draft (Ok x) (Err e) all o k g = record { named = drafts; rest = draft ∷ []; all = refl; stored = k ∙ all; given_up = (g, tt) }

-- one draft more behind it
pub gave_up_more : {F : Type 0} (gone : F → Type 0) (old new : List Step) (drafts : List (Draft F)) (draft : Draft F) (outcome : Result (Unit {0}) Unwritten) → OnErr outcome (GivesUpRest gone old drafts new) → IsGivenUp gone draft → OnErr outcome (GivesUpRest gone old (drafts ++ draft ∷ []) new)
gave_up_more gone old new drafts draft (Ok x) h g = tt
gave_up_more gone old new drafts draft (Err e) h g = record {
  named = h.named;
  rest = h.rest ++ draft ∷ [];
  all = ap (λ ds. ds ++ draft ∷ []) h.all ∙ append_assoc h.named h.rest (draft ∷ []);
  stored = h.stored;
  given_up = AllByRecursion-append (IsGivenUp gone) h.rest (draft ∷ []) h.given_up (g, tt);
}
