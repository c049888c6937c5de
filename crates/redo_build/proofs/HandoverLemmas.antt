-- What a job that is taken may rely on, and that the piece that comes back is what the schedule says.
use Rattle.std.proofs.Common.{◌≡◌, ℕ, ◌&&◌, max, inl, inr, List, Some, None, refl, sym, ap, subst, ◌∙◌, arith, ◌+◌, ◌<◌, ◌≤◌}
use Rattle.std.proofs.Common.{true, false}
use Rattle.std.proofs.lemmas.Bool.{cases_Bool, cases_lt, both_ways}
use Rattle.redo_names.proofs.PathLemmas.{among-told}
use Rattle.redo_record.specs.Paths.{IsAmong, is_among}
use Rattle.redo_record.specs.Progress.{Progress}
use Rattle.redo_record.specs.declared.deps.Dep.{Dep}
use Rattle.redo_record.specs.declared.outcome.Outcome.{Outcome}
use Rattle.redo_build.specs.Rules.{Ask, Rules, AreLawful, Extends, operands}
use Rattle.redo_build.specs.Outcomes.{outcome_at}
use Rattle.redo_build.specs.Schedule.{Entry, State, IsOutAt, entry_of, outcomes_of, only, advanced, known_to}
use Rattle.redo_build.specs.inside.Turns.{deps_at_turn, progress_at_turn, CameTo, IsPiece, IsWork, IsFact, begins_at}
use Rattle.redo_build.specs.inside.Turns.{IsBegunAt}
use Rattle.redo_build.specs.inside.Standing.{decided_count, AreStanding, rounds}
use Rattle.redo_build.proofs.DepthLemmas.{cases_Option, operand-target, deeper, ended_stays}
use Rattle.redo_build.proofs.SeenLemmas.{entry_of-path}
use Rattle.redo_build.proofs.TurnLemmas.{CameTo-more, deps_at_turn-more, turns_agree, Extends-trans', only-Extends}
use Rattle.redo_build.proofs.TurnLemmas.{CameTo-upto, begins-before, begins_at-more, begun-later}
use Rattle.redo_build.proofs.StandingLemmas.{outcomes_of-deep}
use Rattle.redo_build.proofs.SoundLemmas.{IsSound, out-parts}

-- how often a check stops is the build's, whatever is known
module _ (r : Rules) (lawful : AreLawful r) (p : List ℕ) where
  -- where a script is begun it is so with more answers
  begun-more : (a c : Ask) → Extends r a c → (looks turn : ℕ) → CameTo r p a (looks + turn) →
      ((q : List ℕ) → IsAmong (operands r (deps_at_turn r p a (looks + turn))) q → a q ≡ None → ⊥) →
      begins_at r p a looks ≡ begins_at r p c looks
  begun-more a c more looks turn came fed = begins_at-more r lawful p a c more looks
      (CameTo-upto r lawful p a looks (looks + turn) (omega arith) came) (λ q m none. elim (cases_lt 0 turn) [
        | inl later ↦ came.answered looks q (omega arith) m none
        | inr now ↦
            let same : looks ≡ looks + turn = omega arith in
            let P : ℕ → Type 0 = λ k. IsAmong (operands r (deps_at_turn r p a k)) q in
            fed q (subst P same m) none
      ])

  not-fewer : (a b c : Ask) → Extends r a c → Extends r b c → (looks looks' turn turn' : ℕ) →
      CameTo r p a (looks + turn) → CameTo r p b (looks' + turn') →
      ((q : List ℕ) → IsAmong (operands r (deps_at_turn r p a (looks + turn))) q → a q ≡ None → ⊥) →
      begins_at r p a looks ≡ true → ((k : ℕ) → k < looks' → begins_at r p b k ≡ false) → looks' ≤ looks
  not-fewer a b c ac bc looks looks' turn turn' came_a came_b fed begun in_check = elim (cases_lt looks looks') [
    | inl below ↦ absurd (
        let one = begun-more a c ac looks turn came_a fed in
        let two = begins-before r lawful p b c bc (looks' + turn') came_b looks (omega arith) in
        both_ways _ (in_check looks below) (two ∙ sym one ∙ begun))
    | inr enough ↦ enough
  ]

  pub looks_agree : (a b c : Ask) → Extends r a c → Extends r b c → (looks looks' turn turn' : ℕ) →
      CameTo r p a (looks + turn) → CameTo r p b (looks' + turn') →
      ((q : List ℕ) → IsAmong (operands r (deps_at_turn r p a (looks + turn))) q → a q ≡ None → ⊥) →
      ((q : List ℕ) → IsAmong (operands r (deps_at_turn r p b (looks' + turn'))) q → b q ≡ None → ⊥) →
      IsBegunAt r p a looks → IsBegunAt r p b looks' → looks ≡ looks'
  looks_agree a b c ac bc looks looks' turn turn' came_a came_b fed_a fed_b at_a at_b = omega (
    arith,
    not-fewer a b c ac bc looks looks' turn turn' came_a came_b fed_a at_a.begun at_b.in_check,
    not-fewer b a c bc ac looks' looks turn' turn came_b came_a fed_b at_b.begun at_a.in_check,
  )

module _ (r : Rules) (lawful : AreLawful r) (request : List (List ℕ)) (es : List Entry) (standing : AreStanding r request es)
    (p : List ℕ) (e : Entry) (at : entry_of es p ≡ Some e) (open' : e.outcome ≡ None)
    (fed : (q : List ℕ) → IsAmong (operands r e.deps) q → outcomes_of es q ≡ None → ⊥)
    (starts : r.begins e.path (known_to r es e) ≡ true) where
  begun_here : IsBegunAt r e.path (outcomes_of es) e.looks
  begun_here =
      let way = standing.under_way p e at open' in
      record {
        in_check = way.in_check;
        begun = elim (cases_lt 0 e.turn) [
          | inl later ↦ way.begun later
          | inr now ↦
              let same : rounds e ≡ e.looks = omega arith in
              let P : ℕ → Type 0 = λ k. begins_at r e.path (outcomes_of es) k ≡ true in
              let Q : List Dep → Type 0 = λ ds. r.begins e.path (only (operands r ds) (outcomes_of es)) ≡ true in
              subst P same (subst Q way.is starts)
        ];
      }

  under_way : CameTo r p (outcomes_of es) (rounds e) × (e.deps ≡ deps_at_turn r p (outcomes_of es) (rounds e)) ×
      IsBegunAt r p (outcomes_of es) e.looks
  under_way =
      let way = standing.under_way p e at open' in
      let P : List ℕ → Type 0 = λ x. CameTo r x (outcomes_of es) (rounds e) ×
      (e.deps ≡ deps_at_turn r x (outcomes_of es) (rounds e)) × IsBegunAt r x (outcomes_of es) e.looks in
      subst P (entry_of-path es p e at) (way.came, way.is, begun_here)

  deep : Extends r (outcomes_of es) (outcome_at r (decided_count es))
  deep = outcomes_of-deep r lawful request es standing

  fed_there : (q : List ℕ) → IsAmong (operands r (deps_at_turn r p (outcomes_of es) (rounds e))) q →
      outcomes_of es q ≡ None → ⊥
  fed_there q m none = let P : List Dep → Type 0 = λ ds. IsAmong (operands r ds) q in fed q (subst P (sym under_way.1) m) none

  -- what is taken is a work of its target at its turn
  pub taken-work : IsWork r p e.turn e.deps
  taken-work = record {
    depth = decided_count es;
    looks = e.looks;
    begun = record {
      in_check = λ k below. sym (begins-before r lawful p (outcomes_of es) (outcome_at r (decided_count es)) deep (rounds e)
          under_way.0 k (omega arith)) ∙ under_way.2.in_check k below;
      begun = sym (begun-more r lawful p (outcomes_of es) (outcome_at r (decided_count es)) deep e.looks e.turn
          under_way.0 fed_there) ∙ under_way.2.begun;
    };
    came = CameTo-more r lawful p (outcomes_of es) (outcome_at r (decided_count es)) deep (rounds e) under_way.0;
    is = under_way.1 ∙ deps_at_turn-more r lawful p (outcomes_of es) (outcome_at r (decided_count es)) deep (rounds e)
        under_way.0;
    fed = λ q m none. elim (cases_Option (outcomes_of es q)) [
      | inl no_answer ↦ fed q m no_answer
      | inr some ↦ let also = deep q some.0 (operand-target r lawful e.deps q m) some.1 in cc
    ];
  }

  pub taken-deep : (work : IsWork r p e.turn e.deps) × Extends r (outcomes_of es) (outcome_at r work.depth)
  unfolding taken-work
  taken-deep = (taken-work, deep)

  -- a piece of the target at its turn is what the schedule advances to
  pub piece-advanced : (now : Progress) → IsPiece r p e.turn now → now ≡ advanced r es e
  piece-advanced now piece =
      let depth = max piece.depth (decided_count es) in
      let wide = deeper r lawful piece.depth depth (omega arith) in
      let far = Extends-trans' r (outcomes_of es) (outcome_at r (decided_count es)) (outcome_at r depth) deep
      (deeper r lawful (decided_count es) depth (omega arith)) in
      let looks = looks_agree r lawful p (outcome_at r piece.depth) (outcomes_of es) (outcome_at r depth) wide far
      piece.looks e.looks e.turn e.turn piece.came under_way.0 piece.fed fed_there piece.begun under_way.2 in
      let C : ℕ → Type 0 = λ k. CameTo r p (outcome_at r piece.depth) (k + e.turn) in
      let F : ℕ → Type 0 =
      λ k. (q : List ℕ) → IsAmong (operands r (deps_at_turn r p (outcome_at r piece.depth) (k + e.turn))) q →
      outcome_at r piece.depth q ≡ None → ⊥ in
      let same : progress_at_turn r p (outcome_at r piece.depth) (piece.looks + e.turn) ≡ progress_at_turn r p
      (outcomes_of es) (rounds e) =
      ap (λ k. progress_at_turn r p (outcome_at r piece.depth) (k + e.turn)) looks
      ∙ turns_agree r lawful p (outcome_at r piece.depth) (outcomes_of es) (outcome_at r depth) wide far
      (rounds e) (subst C looks piece.came) under_way.0 (subst F looks piece.fed) fed_there in
      let P : List Dep → Type 0 = λ ds. progress_at_turn r p (outcomes_of es) (rounds e) ≡ r.progress p
      (only (operands r ds) (outcomes_of es)) in
      let Q : List ℕ → Type 0 = λ x. progress_at_turn r p (outcomes_of es) (rounds e) ≡ r.progress x
      (only (operands r e.deps) (outcomes_of es)) in
      piece.is ∙ same ∙ subst Q (sym (entry_of-path es p e at)) (subst P (sym under_way.1) refl)

module _ (r : Rules) (lawful : AreLawful r) (p : List ℕ) (turn : ℕ) where
  -- a work that is advanced with outcomes of the build for all that it asked for gives a piece
  pub work-piece : (deps : List Dep) (a : Ask) → IsWork r p turn deps →
      ((q : List ℕ) → IsAmong (operands r deps) q → (o : Outcome) × (a q ≡ Some o) × ((n : ℕ) × (outcome_at r n q ≡ Some o))) →
      IsPiece r p turn (r.progress p (only (operands r deps) a))
  work-piece deps a work holds =
      let same : r.progress p (only (operands r deps) a) ≡ r.progress p (only (operands r deps) (outcome_at r work.depth)) =
      (lawful.each p).local (only (operands r deps) a) (only (operands r deps) (outcome_at r work.depth)) (λ q m.
      elim (cases_Bool (is_among (operands r deps) q)) [
        | inl t ↦ rw t (agree q (among-told (operands r deps) q t))
        | inr f ↦ rw f refl
      ]) in
      let P : List Dep → Type 0 = λ ds. r.progress p (only (operands r deps) a) ≡ r.progress p (only (operands r ds) (outcome_at r work.depth)) in
      let Q : List Dep → Type 0 = λ ds. (q : List ℕ) → IsAmong (operands r ds) q → outcome_at r work.depth q ≡ None → ⊥ in
      record {
        depth = work.depth;
        looks = work.looks;
        begun = work.begun;
        came = work.came;
        fed = subst Q work.is work.fed;
        is = subst P work.is same;
      }
    where
      agree : (q : List ℕ) → IsAmong (operands r deps) q → a q ≡ outcome_at r work.depth q
      agree q m =
          let known = holds q m in
          let target = operand-target r lawful deps q m in
          elim (cases_Option (outcome_at r work.depth q)) [
            | inl none ↦ absurd (work.fed q m none)
            | inr some ↦
                let deep = max work.depth known.2.0 in
                let one = deeper r lawful work.depth deep (omega arith) q some.0 target some.1 in
                let two = deeper r lawful known.2.0 deep (omega arith) q known.0 target known.2.1 in
                let both : Some known.0 ≡ Some some.0 = sym two ∙ one in
                known.1 ∙ both ∙ sym some.1
          ]

  -- a piece that ended is a fact
  pub piece-fact : (deps : List Dep) (o : Outcome) (piece : IsPiece r p turn (record { outcome = Some o; deps = deps })) →
      IsFact r p o deps (r.recorded p (outcome_at r piece.depth)) (r.has_rule p && r.begins p (outcome_at r piece.depth))
  piece-fact deps o piece =
      let ended : (progress_at_turn r p (outcome_at r piece.depth) (piece.looks + turn)).outcome ≡ Some o =
      ap (λ (x : Progress). x.outcome) (sym piece.is) in
      let stays =
      ended_stays r lawful p (only (operands r (deps_at_turn r p (outcome_at r piece.depth) (piece.looks + turn)))
      (outcome_at r piece.depth))
      (outcome_at r piece.depth) o
      (only-Extends r (operands r (deps_at_turn r p (outcome_at r piece.depth) (piece.looks + turn)))
      (outcome_at r piece.depth) (outcome_at r piece.depth) (λ x v t h. h)) ended in
      record { depth = piece.depth; is = sym stays ∙ sym piece.is; recorded = refl; begun = refl }

  -- the script of a piece is begun
  pub piece-begun : (now : Progress) (piece : IsPiece r p turn now) → r.begins p (outcome_at r piece.depth) ≡ true
  piece-begun now piece =
      let known = only (operands r (deps_at_turn r p (outcome_at r piece.depth) (piece.looks + turn)))
      (outcome_at r piece.depth) in
      let more : Extends r known (outcome_at r piece.depth) = only-Extends r
      (operands r (deps_at_turn r p (outcome_at r piece.depth) (piece.looks + turn))) (outcome_at r piece.depth)
      (outcome_at r piece.depth) (λ x v t h. h) in
      let begun = begun-later r lawful p (outcome_at r piece.depth) piece.looks (piece.looks + turn) (omega arith)
      piece.came piece.begun.begun in
      lawful.begins_stays p known (outcome_at r piece.depth) more begun

module _ (r : Rules) (lawful : AreLawful r) (request : List (List ℕ)) (s : State) (sound : IsSound r request s)
    (target : List ℕ) (turn : ℕ) (out : IsOutAt s target turn) where
  -- a piece of a target that is out at its turn is what the schedule advances to
  pub out-advanced : (now : Progress) → IsPiece r target turn now → now ≡ advanced r s.entries out.entry
  out-advanced now piece =
      let parts = out-parts r lawful request s sound target out.entry out.at out.is_out in
      let P : ℕ → Type 0 = λ n. IsPiece r target n now in
      piece-advanced r lawful request s.entries sound.standing target out.entry out.at parts.0.0 parts.0.1 parts.2 now
      (subst P (sym out.at_turn) piece)

  -- and what it advances to is a piece
  pub out-piece : IsPiece r target turn (advanced r s.entries out.entry)
  out-piece =
      let e = out.entry in
      let parts = out-parts r lawful request s sound target e out.at out.is_out in
      let deep = outcomes_of-deep r lawful request s.entries sound.standing in
      let work = taken-work r lawful request s.entries sound.standing target e out.at parts.0.0 parts.0.1 parts.2 in
      let piece = work-piece r lawful target e.turn e.deps (outcomes_of s.entries) work (λ q m.
      elim (cases_Option (outcomes_of s.entries q)) [
        | inl none ↦ absurd (parts.0.1 q m none)
        | inr some ↦ (
          some.0,
          some.1,
          (decided_count s.entries, deep q some.0 (operand-target r lawful e.deps q m) some.1),
        )
      ]) in
      let P : ℕ → Type 0 = λ n. IsPiece r target n (r.progress target (known_to r s.entries e)) in
      let Q : List ℕ → Type 0 = λ x. IsPiece r target turn (r.progress x (known_to r s.entries e)) in
      subst Q (sym (entry_of-path s.entries target e out.at)) (subst P out.at_turn piece)
