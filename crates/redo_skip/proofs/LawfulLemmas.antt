-- The rules of a build with a book are lawful.
use Rattle.std.proofs.Common.{◌≡◌, ℕ, true, false, ◌⊎◌, inl, inr, List, Option, Some, None, refl, sym, ap, ◌∙◌}
use Rattle.std.proofs.lemmas.Bool.{both_ways}
use Rattle.redo_record.specs.declared.deps.Dep.{Dep}
use Rattle.redo_record.specs.declared.outcome.Outcome.{Outcome}
use Rattle.redo_record.specs.declared.outcome.Outcome.TheVariants.{Built}
use Rattle.redo_record.specs.Paths.{IsAmong}
use Rattle.redo_record.specs.Progress.{IsLawful, Progress, operands}
use Rattle.redo_build.specs.Rules.{Ask, AreLawful, Extends}
use Rattle.redo_build.proofs.DepthLemmas.{cases_Option}
use Rattle.redo_skip.specs.Sources.{Sources, without_book}
use Rattle.redo_skip.specs.Checks.{Standing, stands, lacks, falls, Finding, finding, Check, Checks, progress_found}
use Rattle.redo_skip.specs.Checks.{progress_checked}
use Rattle.redo_skip.specs.Checks.{record_by, record_checked, with_book, AreChecks}
use Rattle.redo_skip.proofs.CheckLemmas.{begins_checked, is_fallen, cases_Standing, finding-target, finding-same, finding-unanswered}
use Rattle.redo_skip.proofs.CheckLemmas.{finding-lacks}
use Rattle.redo_skip.proofs.CheckLemmas.{finding-stays, finding-waits, finding-grows}
use Rattle.redo_skip.proofs.AskedLemmas.{asked-cases, asked-check, asked-script, asked-distinct, progress-same}
use Rattle.redo_skip.proofs.AskedLemmas.{progress-lacks}
use Rattle.redo_skip.proofs.AskedLemmas.{progress-falls, progress-stands}

falls-not-lacks : (v : Standing) → v ≡ falls → v ≡ lacks → ⊥
falls-not-lacks v f l = let bad : falls ≡ lacks = sym f ∙ l in cc

is_fallen-falls : (v : Standing) → is_fallen v ≡ true → v ≡ falls
is_fallen-falls stands e = absurd cc
is_fallen-falls lacks e = absurd cc
is_fallen-falls falls e = refl

record_by-same : (seen x y : List Dep) (v : Standing) → (v ≡ falls → x ≡ y) → record_by seen x v ≡ record_by seen y v
record_by-same seen x y stands h = refl
record_by-same seen x y lacks h = refl
record_by-same seen x y falls h = h refl

-- what a target asks for, in check or not
abbrev asked_of : Sources → List ℕ → Option Check → Ask → List (List ℕ)
asked_of s p o a = operands s.is_source (progress_checked s p o a).deps

module _ (s : Sources) (lawful : AreLawful (without_book s)) (p : List ℕ) where
  abbrev own : Ask → Progress
  own a = s.progress p a

  -- Of a target in check

  module _ (c : Check) where
    abbrev at : Ask → Finding
    at a = finding s a c.entries

    abbrev now : Ask → Progress
    now a = progress_found c.file (at a) (own a)

    cases : (a : Ask) (q : List ℕ) → IsAmong (operands s.is_source (now a).deps) q →
        IsAmong (at a).asked q ⊎ (((at a).standing ≡ falls) × IsAmong (operands s.is_source (own a).deps) q)
    cases a q m = asked-cases s.is_source c.file (at a) (own a) q m

    from_check : (a : Ask) (q : List ℕ) → IsAmong (at a).asked q → IsAmong (operands s.is_source (now a).deps) q
    from_check a q m = asked-check s.is_source c.file (at a) (own a) q (finding-target s c.entries a q m) m

    from_script : (a : Ask) (q : List ℕ) → (at a).standing ≡ falls → IsAmong (operands s.is_source (own a).deps) q →
        IsAmong (operands s.is_source (now a).deps) q
    from_script a q f m = asked-script s.is_source c.file (at a) (own a) q f m

    now-same : (a b : Ask) → at a ≡ at b → ((at a).standing ≡ falls → own a ≡ own b) → now a ≡ now b
    now-same a b e h = progress-same c.file (at a) (own a) (own b) h ∙ ap (λ v. progress_found c.file v (own b)) e

    -- asks that agree on what it asks for give the same finding
    alike : (a b : Ask) → ((q : List ℕ) → IsAmong (operands s.is_source (now a).deps) q → a q ≡ b q) → at a ≡ at b
    alike a b same = finding-same s c.entries a b (λ q m. same q (from_check a q m))

    local : (a b : Ask) → ((q : List ℕ) → IsAmong (operands s.is_source (now a).deps) q → a q ≡ b q) → now a ≡ now b
    local a b same =
        now-same a b (alike a b same) (λ f. (lawful.each p).local a b (λ q m. same q (from_script a q f m)))

    answered : (q : List ℕ) (a : Ask) (o : Outcome) → (now a).outcome ≡ Some o →
        IsAmong (operands s.is_source (now a).deps) q → a q ≡ None → ⊥
    answered q a o ended m none = elim (cases a q m) [
      | inl in_check ↦
          let l = finding-unanswered s c.entries a q in_check none in
          let not_ended = progress-lacks c.file (at a) (own a) l in
          let bad : None ≡ Some o = sym not_ended ∙ ended in cc
      | inr script ↦
          (lawful.each p).answered q a o (sym (progress-falls c.file (at a) (own a) script.0) ∙ ended) script.1 none
    ]

    lacking : (a : Ask) → (now a).outcome ≡ None →
        (q : List ℕ) × IsAmong (operands s.is_source (now a).deps) q × (a q ≡ None)
    lacking a e = elim (cases_Standing (at a).standing) [
      | inl t ↦ absurd (let bad : Some (Built c.file) ≡ None = sym (progress-stands c.file (at a) (own a) t) ∙ e in cc)
      | inr other ↦ elim other [
        | inl l ↦ let found = finding-lacks s c.entries a l in (found.0, from_check a found.0 found.1, found.2)
        | inr f ↦
            let found = (lawful.each p).lacking a (sym (progress-falls c.file (at a) (own a) f) ∙ e) in
            (found.0, from_script a found.0 f found.1, found.2)
      ]
    ]

    stays : (a b : Ask) → Extends (without_book s) a b → (at a).standing ≡ falls → at a ≡ at b
    stays a b more f = finding-stays s c.entries a b more (λ l. falls-not-lacks _ f l)

    grows : (q : List ℕ) (a b : Ask) → Extends (without_book s) a b → IsAmong (operands s.is_source (now a).deps) q →
        IsAmong (operands s.is_source (now b).deps) q
    grows q a b more m = elim (cases a q m) [
      | inl in_check ↦ from_check b q (finding-grows s c.entries a b q more in_check)
      | inr script ↦ from_script b q (ap (λ (v : Finding). v.standing) (sym (stays a b more script.0)) ∙ script.0)
          ((lawful.each p).grows q a b more script.1)
    ]

    -- what has no answer with more answers has none before
    before : (a b : Ask) (q : List ℕ) → s.is_source q ≡ false → Extends (without_book s) a b → b q ≡ None → a q ≡ None
    before a b q target more none = elim (cases_Option (a q)) [
      | inl lack ↦ lack
      | inr some ↦ absurd (let bad : None ≡ Some some.0 = sym none ∙ more q some.0 target some.1 in cc)
    ]

    -- while an operand lacks, more answers change nothing of the check
    still : (q : List ℕ) (a b : Ask) → Extends (without_book s) a b → IsAmong (operands s.is_source (now a).deps) q →
        b q ≡ None →
        at a ≡ at b
    still q a b more m none = elim (cases a q m) [
      | inl in_check ↦
          let lack = before a b q (finding-target s c.entries a q in_check) more none in
          finding-waits s c.entries a b q more in_check lack none
      | inr script ↦ stays a b more script.0
    ]

    waits : (q : List ℕ) (a b : Ask) → Extends (without_book s) a b → IsAmong (operands s.is_source (now a).deps) q →
        b q ≡ None →
        now b ≡ now a
    waits q a b more m none = elim (cases a q m) [
      | inl in_check ↦
          let lack = before a b q (finding-target s c.entries a q in_check) more none in
          let l = finding-unanswered s c.entries a q in_check lack in
          sym (now-same a b (still q a b more m none) (λ f. absurd (falls-not-lacks _ f l)))
      | inr script ↦
          sym (now-same a b (still q a b more m none) (λ f. sym ((lawful.each p).waits q a b more script.1 none)))
    ]

    checked-lawful : IsLawful s.is_source (progress_checked s p (Some c))
    checked-lawful = record {
      local = local;
      answered = answered;
      lacking = lacking;
      grows = grows;
      waits = waits;
      distinct = λ a. asked-distinct s.is_source c.file (at a) (own a);
    }

    checked-recorded : (a b : Ask) → ((q : List ℕ) → IsAmong (operands s.is_source (now a).deps) q → a q ≡ b q) →
        record_checked s p (Some c) a ≡ record_checked s p (Some c) b
    checked-recorded a b same =
        record_by-same (at a).seen (own a).deps (own b).deps (at a).standing
        (λ f. ap (λ (x : Progress). x.deps) ((lawful.each p).local a b (λ q m. same q (from_script a q f m))))
        ∙ ap (λ (v : Finding). record_by v.seen (own b).deps v.standing) (alike a b same)

    checked-begins : (a b : Ask) → at a ≡ at b → begins_checked s (Some c) a ≡ begins_checked s (Some c) b
    checked-begins a b e = ap (λ (v : Finding). is_fallen v.standing) e

    checked-stays : (a b : Ask) → Extends (without_book s) a b → begins_checked s (Some c) a ≡ true →
        begins_checked s (Some c) b ≡ true
    checked-stays a b more e = sym (checked-begins a b (stays a b more (is_fallen-falls (at a).standing e))) ∙ e

  -- Of any target

  pub each-lawful : (o : Option Check) → IsLawful s.is_source (progress_checked s p o)
  each-lawful None = lawful.each p
  each-lawful (Some c) = checked-lawful c

  begins-local : (o : Option Check) (a b : Ask) → ((q : List ℕ) → IsAmong (asked_of s p o a) q → a q ≡ b q) →
      begins_checked s o a ≡ begins_checked s o b
  begins-local None a b same = refl
  begins-local (Some c) a b same = checked-begins c a b (alike c a b same)

  recorded-local : (o : Option Check) (a b : Ask) → ((q : List ℕ) → IsAmong (asked_of s p o a) q → a q ≡ b q) →
      record_checked s p o a ≡ record_checked s p o b
  recorded-local None a b same = ap (λ (x : Progress). x.deps) ((lawful.each p).local a b same)
  recorded-local (Some c) a b same = checked-recorded c a b same

  begins-stays : (o : Option Check) (a b : Ask) → Extends (without_book s) a b → begins_checked s o a ≡ true →
      begins_checked s o b ≡ true
  begins-stays None a b more e = refl
  begins-stays (Some c) a b more e = checked-stays c a b more e

  begins-waits : (o : Option Check) (q : List ℕ) (a b : Ask) → Extends (without_book s) a b →
      IsAmong (asked_of s p o a) q →
      b q ≡ None → begins_checked s o b ≡ begins_checked s o a
  begins-waits None q a b more m none = refl
  begins-waits (Some c) q a b more m none = sym (checked-begins c a b (still c q a b more m none))

-- a build with a book keeps the laws
pub with_book-lawful : (s : Sources) (k : Checks) → AreLawful (without_book s) → AreChecks s k →
    AreLawful (with_book s k)
with_book-lawful s k lawful are = record {
  each = λ p. each-lawful s lawful p (k p);
  unruled = λ p a none. elim (cases_Option (k p)) [
    | inl free ↦ rw free (lawful.unruled p a none)
    | inr some ↦ absurd (both_ways _ none (are.ruled p some.0 some.1))
  ];
  begins_local = λ p a b same. begins-local s lawful p (k p) a b same;
  recorded_local = λ p a b same. recorded-local s lawful p (k p) a b same;
  begins_stays = λ p a b more e. begins-stays s lawful p (k p) a b more e;
  begins_waits = λ p q a b more m none. begins-waits s lawful p (k p) q a b more m none;
}
