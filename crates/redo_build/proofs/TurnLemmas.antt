-- What a script did at its earlier turns doesn't change as more targets are decided.
use Rattle.std.proofs.Common.{◌≡◌, ℕ, zero, suc, ◌<◌, ◌≤◌, inl, inr, List, Some, None, refl, sym, ap, subst, ◌∙◌, arith}
use Rattle.std.proofs.Common.{true}
use Rattle.std.proofs.lemmas.Bool.{cases_Bool, cases_lt}
use Rattle.redo_names.proofs.PathLemmas.{among-told, told-among}
use Rattle.redo_record.specs.Paths.{is_among, IsAmong}
use Rattle.redo_record.specs.Progress.{Progress}
use Rattle.redo_record.specs.declared.deps.Dep.{Dep}
use Rattle.redo_record.specs.declared.outcome.Outcome.{Outcome}
use Rattle.redo_build.specs.Rules.{Ask, Rules, AreLawful, Extends, operands}
use Rattle.redo_build.specs.Schedule.{only}
use Rattle.redo_build.specs.inside.Turns.{deps_at_turn, progress_at_turn, CameTo, begins_at}
use Rattle.redo_build.proofs.DepthLemmas.{cases_Option, operand-target}

-- one of the answers alone
pub only-some : (ps : List (List ℕ)) (a : Ask) (q : List ℕ) (o : Outcome) → only ps a q ≡ Some o → a q ≡ Some o
only-some ps a q o h = elim (cases_Bool (is_among ps q)) [
  | inl t ↦ rw t at h
  | inr f ↦ absurd (let now = rw f at h in cc)
]

pub only-among : (ps : List (List ℕ)) (a : Ask) (q : List ℕ) → IsAmong ps q → only ps a q ≡ a q
only-among ps a q m = let t = told-among ps q m in rw t refl

pub only-Extends : (r : Rules) (ps : List (List ℕ)) (a b : Ask) → Extends r a b → Extends r (only ps a) b
only-Extends r ps a b h q o s e = h q o s (only-some ps a q o e)

pub Extends-trans' : (r : Rules) (a b c : Ask) → Extends r a b → Extends r b c → Extends r a c
Extends-trans' r a b c h k q o s e = k q o s (h q o s e)

module _ (r : Rules) (lawful : AreLawful r) where
  -- with all answers to what these ask for, more answers tell alike of it
  only-alike : (ds : List Dep) (a b : Ask) → Extends r a b → ((q : List ℕ) → IsAmong (operands r ds) q → a q ≡ None → ⊥) →
      (q : List ℕ) → only (operands r ds) a q ≡ only (operands r ds) b q
  only-alike ds a b more all q = elim (cases_Bool (is_among (operands r ds) q)) [
    | inl t ↦ rw t (
        let among = among-told (operands r ds) q t in
        elim (cases_Option (a q)) [
          | inl none ↦ absurd (all q among none)
          | inr some ↦ some.1 ∙ sym (more q some.0 (operand-target r lawful ds q among) some.1)
        ])
    | inr f ↦ rw f refl
  ]

  -- so a script goes on alike
  pub progress-more : (p : List ℕ) (ds : List Dep) (a b : Ask) → Extends r a b →
      ((q : List ℕ) → IsAmong (operands r ds) q → a q ≡ None → ⊥) →
      r.progress p (only (operands r ds) a) ≡ r.progress p (only (operands r ds) b)
  progress-more p ds a b more all =
      (lawful.each p).local (only (operands r ds) a) (only (operands r ds) b) (λ q m. only-alike ds a b more all q)

  pub CameTo-before : (p : List ℕ) (a : Ask) (k : ℕ) → CameTo r p a (suc k) → CameTo r p a k
  CameTo-before p a k h = record {
    answered = λ j q below m. h.answered j q (omega arith) m;
    stopped = λ j below. h.stopped j (omega arith);
  }

  pub deps_at_turn-more : (p : List ℕ) (a b : Ask) → Extends r a b → (turn : ℕ) → CameTo r p a turn →
      deps_at_turn r p a turn ≡ deps_at_turn r p b turn
  deps_at_turn-more p a b more zero came = refl
  deps_at_turn-more p a b more (suc k) came =
      let before = deps_at_turn-more p a b more k (CameTo-before p a k came) in
      let here = progress-more p (deps_at_turn r p a k) a b more (λ q m. came.answered k q (omega arith) m) in
      let P : List Dep → Type 0 = λ ds.
      (r.progress p (only (operands r (deps_at_turn r p a k)) a)).deps ≡ (r.progress p (only (operands r ds) b)).deps in
      subst P before (ap (λ (x : Progress). x.deps) here)

  pub progress_at_turn-more : (p : List ℕ) (a b : Ask) → Extends r a b → (turn : ℕ) → CameTo r p a turn →
      ((q : List ℕ) → IsAmong (operands r (deps_at_turn r p a turn)) q → a q ≡ None → ⊥) →
      progress_at_turn r p a turn ≡ progress_at_turn r p b turn
  progress_at_turn-more p a b more turn came all =
      let here = progress-more p (deps_at_turn r p a turn) a b more all in
      let P : List Dep → Type 0 = λ ds.
      r.progress p (only (operands r (deps_at_turn r p a turn)) a) ≡ r.progress p (only (operands r ds) b) in
      subst P (deps_at_turn-more p a b more turn came) here

  pub CameTo-upto : (p : List ℕ) (a : Ask) (j k : ℕ) → j ≤ k → CameTo r p a k → CameTo r p a j
  CameTo-upto p a j k h came = record {
    answered = λ i q below m. came.answered i q (omega arith) m;
    stopped = λ i below. came.stopped i (omega arith);
  }

  -- and whether it is begun stays too
  pub begins-more : (p : List ℕ) (ds : List Dep) (a b : Ask) → Extends r a b →
      ((q : List ℕ) → IsAmong (operands r ds) q → a q ≡ None → ⊥) →
      r.begins p (only (operands r ds) a) ≡ r.begins p (only (operands r ds) b)
  begins-more p ds a b more all =
      lawful.begins_local p (only (operands r ds) a) (only (operands r ds) b) (λ q m. only-alike ds a b more all q)

  pub begins_at-more : (p : List ℕ) (a b : Ask) → Extends r a b → (turn : ℕ) → CameTo r p a turn →
      ((q : List ℕ) → IsAmong (operands r (deps_at_turn r p a turn)) q → a q ≡ None → ⊥) →
      begins_at r p a turn ≡ begins_at r p b turn
  begins_at-more p a b more turn came all =
      let here = begins-more p (deps_at_turn r p a turn) a b more all in
      let P : List Dep → Type 0 = λ ds. r.begins p (only (operands r (deps_at_turn r p a turn)) a) ≡ r.begins p
      (only (operands r ds) b) in
      subst P (deps_at_turn-more p a b more turn came) here

  -- who asks for more knows more
  asks-more : (ds es : List Dep) (a : Ask) → ((q : List ℕ) → IsAmong (operands r ds) q → IsAmong (operands r es) q) →
      Extends r (only (operands r ds) a) (only (operands r es) a)
  asks-more ds es a wider x o s h = elim (cases_Bool (is_among (operands r ds) x)) [
    | inl t ↦ only-among (operands r es) a x (wider x (among-told (operands r ds) x t)) ∙ only-some (operands r ds) a x o h
    | inr f ↦ absurd (let now = rw f at h in cc)
  ]

  -- what a script asked for before it still asks for at its next turn
  pub asked-more : (p : List ℕ) (a : Ask) (turn : ℕ) → CameTo r p a turn → (q : List ℕ) →
      IsAmong (operands r (deps_at_turn r p a turn)) q → IsAmong (operands r (deps_at_turn r p a (suc turn))) q
  asked-more p a zero came q m = absurd m
  asked-more p a (suc k) came q m =
      (lawful.each p).grows q (only (operands r (deps_at_turn r p a k)) a) (only (operands r (deps_at_turn r p a (suc k))) a)
      (asks-more (deps_at_turn r p a k) (deps_at_turn r p a (suc k)) a (asked-more p a k (CameTo-before p a k came))) m

  pub turn-more : (p : List ℕ) (a : Ask) (k : ℕ) → CameTo r p a k →
      Extends r (only (operands r (deps_at_turn r p a k)) a) (only (operands r (deps_at_turn r p a (suc k))) a)
  turn-more p a k came = asks-more (deps_at_turn r p a k) (deps_at_turn r p a (suc k)) a (asked-more p a k came)

  -- whether it was begun at an earlier turn stays
  pub begins-before : (p : List ℕ) (a b : Ask) → Extends r a b → (n : ℕ) → CameTo r p a n → (k : ℕ) → k < n →
      begins_at r p a k ≡ begins_at r p b k
  begins-before p a b more n came k below =
      begins_at-more p a b more k (CameTo-upto p a k n (omega arith) came) (λ q m. came.answered k q below m)

  -- what is begun stays begun at later turns
  pub begun-later : (p : List ℕ) (a : Ask) (j k : ℕ) → j ≤ k → CameTo r p a k → begins_at r p a j ≡ true →
      begins_at r p a k ≡ true
  begun-later p a j zero h came e = let same : j ≡ 0 = omega arith in rw same at e
  begun-later p a j (suc k) h came e = elim (cases_lt k j) [
    | inl above ↦
        let same : j ≡ suc k = omega arith in (let P : ℕ → Type 0 = λ x. begins_at r p a x ≡ true in subst P same e)
    | inr below ↦
        lawful.begins_stays p (only (operands r (deps_at_turn r p a k)) a)
        (only (operands r (deps_at_turn r p a (suc k))) a)
        (turn-more p a k (CameTo-before p a k came)) (begun-later p a j k below (CameTo-before p a k came) e)
  ]

  pub CameTo-more : (p : List ℕ) (a b : Ask) → Extends r a b → (turn : ℕ) → CameTo r p a turn → CameTo r p b turn
  CameTo-more p a b more turn came = record {
    answered = λ k q below m none.
        let same = deps_at_turn-more p a b more k (CameTo-upto p a k turn (omega arith) came) in
        let P : List Dep → Type 0 = λ ds. IsAmong (operands r ds) q in
        let old = subst P (sym same) m in
        elim (cases_Option (a q)) [
          | inl no_answer ↦ came.answered k q below old no_answer
          | inr some ↦ let also = more q some.0 (operand-target r lawful (deps_at_turn r p a k) q old) some.1 in cc
        ];
    stopped = λ k below.
        let same = progress_at_turn-more p a b more k (CameTo-upto p a k turn (omega arith) came) (λ q m. came.answered k q below m) in
        ap (λ (x : Progress). x.outcome) (sym same) ∙ came.stopped k below;
  }

  -- two asks of one build lead a script to the same place
  pub turns_agree : (p : List ℕ) (a b c : Ask) → Extends r a c → Extends r b c → (turn : ℕ) → CameTo r p a turn → CameTo r p b turn →
      ((q : List ℕ) → IsAmong (operands r (deps_at_turn r p a turn)) q → a q ≡ None → ⊥) →
      ((q : List ℕ) → IsAmong (operands r (deps_at_turn r p b turn)) q → b q ≡ None → ⊥) →
      progress_at_turn r p a turn ≡ progress_at_turn r p b turn
  turns_agree p a b c ac bc turn came_a came_b all_a all_b =
      progress_at_turn-more p a c ac turn came_a all_a ∙ sym (progress_at_turn-more p b c bc turn came_b all_b)
