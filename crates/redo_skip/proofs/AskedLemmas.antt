-- What a target in check asks for: in its check, and in its script once that is begun.
use Rattle.std.proofs.Common.{◌≡◌, ℕ, Bool, true, false, ◌⊎◌, inl, inr, List, [], Some, None, refl}
use Rattle.std.proofs.Common.{ap}
use Rattle.redo_record.specs.declared.deps.DepKind.TheVariants.{Change}
use Rattle.redo_record.specs.declared.outcome.Outcome.{Outcome}
use Rattle.redo_record.specs.declared.outcome.Outcome.TheVariants.{Built}
use Rattle.redo_record.specs.Entries.{is_entered, with_all}
use Rattle.redo_record.specs.Paths.{IsAmong, AreDistinct}
use Rattle.redo_record.specs.Progress.{Progress, operands}
use Rattle.redo_record.proofs.Public.{operand_entered, entered_operand, operand_target, operands_once, change_cases}
use Rattle.redo_record.proofs.Public.{change_entered, changes_once, whole_cases, whole_first, whole_second, whole_once}
use Rattle.redo_skip.specs.Sources.{File}
use Rattle.redo_skip.specs.Checks.{Standing, stands, lacks, falls, Finding, asking, progress_by, progress_found}

-- entries that ask for paths ask for these and no others
pub asking-from : (ps : List (List ℕ)) (q : List ℕ) → is_entered (asking ps) Change q ≡ true → IsAmong ps q
asking-from ps q h = elim (change_cases [] ps q h) [
  | inl none ↦ absurd cc
  | inr some ↦ some
]

asking-to : (ps : List (List ℕ)) (q : List ℕ) → IsAmong ps q → is_entered (asking ps) Change q ≡ true
asking-to ps q m = change_entered [] ps q m

module _ (source : List ℕ → Bool) where
  -- what it asked for: in its check, or in its script once that is begun
  pub asked-cases : (file : File) (found : Finding) (own : Progress) (q : List ℕ) →
      IsAmong (operands source (progress_found file found own).deps) q →
      IsAmong found.asked q ⊎ ((found.standing ≡ falls) × IsAmong (operands source own.deps) q)
  asked-cases file found own q m = by found.standing m
    where
      by : (v : Standing) → IsAmong (operands source (progress_by file found.asked own v).deps) q →
          IsAmong found.asked q ⊎ ((v ≡ falls) × IsAmong (operands source own.deps) q)
      by stands n = inl (asking-from found.asked q (operand_entered source (asking found.asked) q n))
      by lacks n = inl (asking-from found.asked q (operand_entered source (asking found.asked) q n))
      by falls n =
          elim (whole_cases (asking found.asked) own.deps Change q
          (operand_entered source (with_all (asking found.asked) own.deps) q n)) [
            | inl first ↦ inl (asking-from found.asked q first)
            | inr script ↦
                let target = operand_target source (with_all (asking found.asked) own.deps) q n in
                inr (refl, entered_operand source own.deps q target script)
          ]

  pub asked-check : (file : File) (found : Finding) (own : Progress) (q : List ℕ) → source q ≡ false →
      IsAmong found.asked q →
      IsAmong (operands source (progress_found file found own).deps) q
  asked-check file found own q target m = by found.standing
    where
      by : (v : Standing) → IsAmong (operands source (progress_by file found.asked own v).deps) q
      by stands = entered_operand source (asking found.asked) q target (asking-to found.asked q m)
      by lacks = entered_operand source (asking found.asked) q target (asking-to found.asked q m)
      by falls = entered_operand source (with_all (asking found.asked) own.deps) q target
          (whole_first (asking found.asked) own.deps Change q (asking-to found.asked q m))

  pub asked-script : (file : File) (found : Finding) (own : Progress) (q : List ℕ) → found.standing ≡ falls →
      IsAmong (operands source own.deps) q → IsAmong (operands source (progress_found file found own).deps) q
  asked-script file found own q f m = by found.standing f
    where
      by : (v : Standing) → v ≡ falls → IsAmong (operands source (progress_by file found.asked own v).deps) q
      by stands e = absurd cc
      by lacks e = absurd cc
      by falls e =
          entered_operand source (with_all (asking found.asked) own.deps) q (operand_target source own.deps q m)
          (whole_second (asking found.asked) own.deps Change q (operand_entered source own.deps q m))

  pub asked-distinct : (file : File) (found : Finding) (own : Progress) →
      AreDistinct (operands source (progress_found file found own).deps)
  asked-distinct file found own = by found.standing
    where
      by : (v : Standing) → AreDistinct (operands source (progress_by file found.asked own v).deps)
      by stands = operands_once source (asking found.asked) (changes_once [] found.asked tt)
      by lacks = operands_once source (asking found.asked) (changes_once [] found.asked tt)
      by falls = operands_once source (with_all (asking found.asked) own.deps)
          (whole_once (asking found.asked) own.deps (changes_once [] found.asked tt))

-- How far it comes, by how its entries stand

pub progress-same : (file : File) (found : Finding) (x y : Progress) → (found.standing ≡ falls → x ≡ y) →
    progress_found file found x ≡ progress_found file found y
progress-same file found x y h = by found.standing h
  where
    by : (v : Standing) → (v ≡ falls → x ≡ y) → progress_by file found.asked x v ≡ progress_by file found.asked y v
    by stands g = refl
    by lacks g = refl
    by falls g = ap (λ z. progress_by file found.asked z falls) (g refl)

pub progress-lacks : (file : File) (found : Finding) (own : Progress) → found.standing ≡ lacks →
    (progress_found file found own).outcome ≡ None
progress-lacks file found own l = rw l refl

pub progress-falls : (file : File) (found : Finding) (own : Progress) → found.standing ≡ falls →
    (progress_found file found own).outcome ≡ own.outcome
progress-falls file found own f = rw f refl

pub progress-stands : (file : File) (found : Finding) (own : Progress) → found.standing ≡ stands →
    (progress_found file found own).outcome ≡ Some (Built file)
progress-stands file found own t = rw t refl

-- what has ended is kept, or its script is begun and has ended
pub progress-ended : (file : File) (found : Finding) (own : Progress) (o : Outcome) →
    (progress_found file found own).outcome ≡ Some o →
    ((found.standing ≡ stands) × (Built file ≡ o)) ⊎ ((found.standing ≡ falls) × (own.outcome ≡ Some o))
progress-ended file found own o = by found.standing
  where
    by : (v : Standing) → (progress_by file found.asked own v).outcome ≡ Some o →
        ((v ≡ stands) × (Built file ≡ o)) ⊎ ((v ≡ falls) × (own.outcome ≡ Some o))
    by stands e = inl (refl, cc)
    by lacks e = absurd cc
    by falls e = inr (refl, e)
