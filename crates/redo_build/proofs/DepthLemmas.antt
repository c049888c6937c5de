-- Outcomes only gain members with the depth, and on a bounded set of needed targets they stand still from the limit on.
use Rattle.std.proofs.Common.{◌≡◌, ℕ, zero, suc, ◌+◌, ◌<◌, ◌≤◌, false, not, cond, ◌⊎◌, inl, inr, List, [], ◌∷◌, length}
use Rattle.std.proofs.Common.{filter, filter_map, flat_map, Option, Some, None, is_some, refl, sym, ap, subst, ◌∙◌}
use Rattle.std.proofs.Common.{arith}
use Rattle.std.proofs.lemmas.Bool.{cases_Bool, cases_lt, not-true}
use Rattle.redo_names.proofs.ListLemmas.{with_new-first, with_new-cases, with_new-length, with_new-still, with_new-distinct, flat_map-among, flat_map-from, filter-passes}
use Rattle.redo_record.specs.Paths.{IsAmong, AreDistinct}
use Rattle.redo_record.specs.Progress.{Progress}
use Rattle.redo_build.specs.Rules.{Ask, Rules, AreLawful, Extends, operands, changed}
use Rattle.redo_build.specs.Outcomes.{outcome_at, asked_at, requested_targets, reached_in, needed_at, IsSettled}
use Rattle.redo_record.specs.declared.deps.Dep.{Dep}
use Rattle.redo_record.specs.declared.outcome.Outcome.{Outcome}

-- an answer is there or not
pub cases_Option : {A : Type 0} (o : Option A) → (o ≡ None) ⊎ ((v : A) × (o ≡ Some v))
cases_Option None = inl refl
cases_Option (Some v) = inr (v, refl)

-- a number that never falls and stays below its start and the number of steps stands still at a step
pub stands_still : (f : ℕ → ℕ) → ((n : ℕ) → f n ≤ f (suc n)) → (bound : ℕ) → f bound < f 0 + bound →
    (k : ℕ) × (k < bound) × (f (suc k) ≤ f k)
stands_still f rises zero h = absurd (omega arith)
stands_still f rises (suc bound) h = elim (cases_lt (f bound) (f (suc bound))) [
  | inl rose ↦ let found = stands_still f rises bound (omega arith) in (found.0, omega (arith, found.1), found.2)
  | inr stood ↦ (bound, omega arith, stood)
]

-- how many of the paths have an answer
abbrev pub answered_count : Ask → List (List ℕ) → ℕ
answered_count a [] = 0
answered_count a (p ∷ ps) = (cond (is_some (a p)) 1 0) + answered_count a ps

answered_count-length : (a : Ask) (ps : List (List ℕ)) → answered_count a ps ≤ length ps
answered_count-length a [] = omega arith
answered_count-length a (p ∷ ps) = elim (cases_Bool (is_some (a p))) [
  | inl e ↦ rw e (omega (arith, answered_count-length a ps))
  | inr e ↦ rw e (omega (arith, answered_count-length a ps))
]

module _ (r : Rules) (lawful : AreLawful r) where
  pub operand-target : (ds : List Dep) (q : List ℕ) → IsAmong (operands r ds) q → r.is_source q ≡ false
  operand-target ds q m =
      not-true _ (filter-passes (λ p. not (r.is_source p)) (filter_map (λ d. changed d.kind d.path) ds) q m)

  pub outcome_at-step : (n : ℕ) (p : List ℕ) → r.is_source p ≡ false →
      outcome_at r (suc n) p ≡ (r.progress p (outcome_at r n)).outcome
  outcome_at-step n p s = rw s

  pub outcome_at-zero : (p : List ℕ) → r.is_source p ≡ false → outcome_at r 0 p ≡ None
  outcome_at-zero p s = rw s

  -- what has ended is where it is with more answers
  pub ended_stays : (p : List ℕ) (a b : Ask) (o : Outcome) → Extends r a b →
      (r.progress p a).outcome ≡ Some o → r.progress p a ≡ r.progress p b
  ended_stays p a b o more ended = (lawful.each p).local a b (λ q m.
      elim (cases_Option (a q)) [
        | inl none ↦ absurd ((lawful.each p).answered q a o ended m none)
        | inr some ↦ some.1 ∙ sym (more q some.0 (operand-target (r.progress p a).deps q m) some.1)
      ])

  pub deeper_once : (n : ℕ) → Extends r (outcome_at r n) (outcome_at r (suc n))
  deeper_once zero q o s e = let none = outcome_at-zero q s in cc
  deeper_once (suc n) q o s e =
      let ended : (r.progress q (outcome_at r n)).outcome ≡ Some o = sym (outcome_at-step n q s) ∙ e in
      let stays : r.progress q (outcome_at r n) ≡ r.progress q (outcome_at r (suc n)) =
      ended_stays q (outcome_at r n) (outcome_at r (suc n)) o (deeper_once n) ended in
      outcome_at-step (suc n) q s ∙ sym (ap (λ (x : Progress). x.outcome) stays) ∙ ended

  pub deeper : (n m : ℕ) → n ≤ m → Extends r (outcome_at r n) (outcome_at r m)
  deeper n zero h = let e : n ≡ 0 = omega arith in λ q o s k. rw e at k
  deeper n (suc m) h = elim (cases_lt m n) [
    | inl above ↦ let e : n ≡ suc m = omega arith in λ q o s k. rw e at k
    | inr below ↦ λ q o s k. deeper_once m q o s (deeper n m below q o s k)
  ]

  pub asked_at-grows : (n m : ℕ) (p q : List ℕ) → n ≤ m → IsAmong (asked_at r n p) q → IsAmong (asked_at r m p) q
  asked_at-grows n m p q h = (lawful.each p).grows q (outcome_at r n) (outcome_at r m) (deeper n m h)

  pub answered_count-more : (a b : Ask) → Extends r a b → (ps : List (List ℕ)) →
      ((p : List ℕ) → IsAmong ps p → r.is_source p ≡ false) → answered_count a ps ≤ answered_count b ps
  answered_count-more a b more [] targets = omega arith
  answered_count-more a b more (p ∷ ps) targets =
      let rest = answered_count-more a b more ps (λ q m. targets q (inr m)) in
      elim (cases_Option (a p)) [
        | inl none ↦ rw none (omega (arith, rest))
        | inr some ↦ let also = more p some.0 (targets p (inl refl)) some.1 in rw (some.1, also) (omega (arith, rest))
      ]

  -- where as many have an answer, the same ones have
  pub answered_count-still : (a b : Ask) → Extends r a b → (ps : List (List ℕ)) →
      ((p : List ℕ) → IsAmong ps p → r.is_source p ≡ false) → answered_count b ps ≤ answered_count a ps →
      (p : List ℕ) → IsAmong ps p → b p ≡ a p
  answered_count-still a b more [] targets still p m = absurd m
  answered_count-still a b more (x ∷ ps) targets still p m =
      let rest = answered_count-more a b more ps (λ q n. targets q (inr n)) in
      let from_first : b x ≡ a x → b p ≡ a p = λ first. elim m [
        | inl here ↦ let P : List ℕ → Type 0 = λ y. b y ≡ a y in subst P here first
        | inr later ↦
            let fewer = rw first at still in
            answered_count-still a b more ps (λ q n. targets q (inr n)) (omega (arith, fewer)) p later
      ] in
      elim (cases_Option (a x)) [
        | inl none ↦ elim (cases_Option (b x)) [
          | inl none' ↦ from_first (none' ∙ sym none)
          | inr some' ↦ absurd (let fewer = rw (none, some'.1) at still in omega (arith, rest, fewer))
        ]
        | inr some ↦ from_first (more x some.0 (targets x (inl refl)) some.1 ∙ sym some.1)
      ]

  module _ (request : List (List ℕ)) where
    pub reached-once : (n k : ℕ) (p : List ℕ) → IsAmong (reached_in r request n k) p → IsAmong (reached_in r request n (suc k)) p
    reached-once n k p m = with_new-first (reached_in r request n k) (flat_map (asked_at r n) (reached_in r request n k)) p m

    pub reached-more : (n k l : ℕ) (p : List ℕ) → k ≤ l → IsAmong (reached_in r request n k) p → IsAmong (reached_in r request n l) p
    reached-more n k zero p h m = let e : k ≡ 0 = omega arith in rw e at m
    reached-more n k (suc l) p h m = elim (cases_lt l k) [
      | inl above ↦ let e : k ≡ suc l = omega arith in rw e at m
      | inr below ↦ reached-once n l p (reached-more n k l p below m)
    ]

    -- what has the requested targets and all that its members ask for has all that is reached
    pub reached-within : (n k : ℕ) (P : List ℕ → Type 0) → ((p : List ℕ) → IsAmong (requested_targets r request) p → P p) →
        ((p q : List ℕ) → P p → IsAmong (asked_at r n p) q → P q) → (p : List ℕ) → IsAmong (reached_in r request n k) p → P p
    reached-within n zero P first next p m = first p m
    reached-within n (suc k) P first next p m =
        elim (with_new-cases (reached_in r request n k) (flat_map (asked_at r n) (reached_in r request n k)) p m) [
          | inl old ↦ reached-within n k P first next p old
          | inr new ↦
              let from = flat_map-from (asked_at r n) (reached_in r request n k) p new in
              next from.0 p (reached-within n k P first next from.0 from.1) from.2
        ]

    pub requested-target : (p : List ℕ) → IsAmong (requested_targets r request) p → r.is_source p ≡ false
    requested-target p m = elim (with_new-cases [] (filter (λ x. not (r.is_source x)) request) p m) [
      | inl none ↦ absurd none
      | inr some ↦ not-true _ (filter-passes (λ x. not (r.is_source x)) request p some)
    ]

    pub reached-target : (n k : ℕ) (p : List ℕ) → IsAmong (reached_in r request n k) p → r.is_source p ≡ false
    reached-target n k = reached-within n k (λ p. r.is_source p ≡ false) requested-target (λ p q s m. operand-target (r.progress p (outcome_at r n)).deps q m)

    pub reached-distinct : (n k : ℕ) → AreDistinct (reached_in r request n k)
    reached-distinct n zero = with_new-distinct [] (filter (λ x. not (r.is_source x)) request) tt
    reached-distinct n (suc k) = with_new-distinct (reached_in r request n k) (flat_map (asked_at r n) (reached_in r request n k)) (reached-distinct n k)

    module _ (limit : ℕ) (few : length (needed_at r request limit) ≤ limit) where
      -- some round of asking at the limit added nothing
      full_round : 0 < length (requested_targets r request) → (k : ℕ) × (k < limit) ×
          (length (reached_in r request limit (suc k)) ≤ length (reached_in r request limit k))
      full_round some = stands_still (λ k. length (reached_in r request limit k))
          (λ k. with_new-length (reached_in r request limit k) (flat_map (asked_at r limit) (reached_in r request limit k)))
          limit (omega arith)

      closed_at_limit : (p q : List ℕ) → IsAmong (needed_at r request limit) p →
          IsAmong (asked_at r limit p) q → IsAmong (needed_at r request limit) q
      closed_at_limit p q m asks = elim (cases_lt 0 (length (requested_targets r request))) [
        | inl some ↦
            let full = full_round some in
            let next : (x y : List ℕ) → IsAmong (reached_in r request limit full.0) x → IsAmong (asked_at r limit x) y →
            IsAmong (reached_in r request limit full.0) y =
            λ x y here ask. with_new-still (reached_in r request limit full.0)
            (flat_map (asked_at r limit) (reached_in r request limit full.0)) y full.2
            (flat_map-among (asked_at r limit) (reached_in r request limit full.0) x y here ask) in
            let at_round = reached-within limit limit (IsAmong (reached_in r request limit full.0))
            (λ x here. reached-more limit 0 full.0 x (omega arith) here) next p m in
            reached-more limit full.0 limit q (omega (arith, full.1)) (next p q at_round asks)
        | inr none ↦ absurd (reached-within limit limit (λ _. ⊥)
            (λ x here. nothing-among (requested_targets r request) x none here) (λ x y impossible _. impossible) p m)
      ]
        where
          nothing-among : (ps : List (List ℕ)) (x : List ℕ) → length ps ≤ 0 → IsAmong ps x → ⊥
          nothing-among [] x short here = here
          nothing-among (y ∷ ps) x short here = absurd (omega arith)

      -- at some depth within the limit no needed target ends that hadn't ended one depth before
      full_depth : (k : ℕ) × (k < suc limit) ×
          (answered_count (outcome_at r (suc k)) (needed_at r request limit) ≤ answered_count (outcome_at r k) (needed_at r request limit))
      full_depth = stands_still (λ k. answered_count (outcome_at r k) (needed_at r request limit))
          (λ k. answered_count-more (outcome_at r k) (outcome_at r (suc k)) (deeper_once k)
          (needed_at r request limit) (reached-target limit limit))
          (suc limit) (omega (arith, answered_count-length (outcome_at r (suc limit)) (needed_at r request limit)))

      stood : (p : List ℕ) → IsAmong (needed_at r request limit) p → outcome_at r (suc full_depth.0) p ≡ outcome_at r full_depth.0 p
      stood p m = answered_count-still (outcome_at r full_depth.0) (outcome_at r (suc full_depth.0)) (deeper_once full_depth.0)
          (needed_at r request limit) (reached-target limit limit) full_depth.2 p m

      -- from that depth on all outcomes stay
      stays_from : (m : ℕ) → full_depth.0 ≤ m → (p : List ℕ) → IsAmong (needed_at r request limit) p →
          (outcome_at r m p ≡ outcome_at r full_depth.0 p) × (r.progress p (outcome_at r full_depth.0) ≡ r.progress p (outcome_at r m))
      stays_from zero h p m = let e : full_depth.0 ≡ 0 = omega arith in (rw e refl, rw e refl)
      stays_from (suc n) h p m = elim (cases_lt n full_depth.0) [
        | inl above ↦ let e : full_depth.0 ≡ suc n = omega arith in (rw e refl, rw e refl)
        | inr below ↦
            let here = stays_from n below p m in (
              step_of n p m here,
              (lawful.each p).local (outcome_at r full_depth.0) (outcome_at r (suc n)) (λ q asks.
                  let member = closed_at_limit p q m (asked_at-grows full_depth.0 limit p q (omega (arith, full_depth.1)) asks) in
                  sym (step_of n q member (stays_from n below q member))),
            )
      ]
        where
          step_of : (n : ℕ) (q : List ℕ) → IsAmong (needed_at r request limit) q →
              ((outcome_at r n q ≡ outcome_at r full_depth.0 q) × (r.progress q (outcome_at r full_depth.0) ≡ r.progress q (outcome_at r n))) →
              outcome_at r (suc n) q ≡ outcome_at r full_depth.0 q
          step_of n q member before =
              let s = reached-target limit limit q member in
              outcome_at-step n q s ∙ ap (λ (x : Progress). x.outcome) (sym before.1) ∙ sym (outcome_at-step full_depth.0 q s) ∙ stood q member

      pub settled : IsSettled r request limit
      settled = record {
        closed = λ n p q m asks. elim (cases_lt n full_depth.0) [
          | inl below ↦ closed_at_limit p q m (asked_at-grows n limit p q (omega (arith, full_depth.1)) asks)
          | inr above ↦
              let e = (stays_from n above p m).1 in
              let P : Progress → Type 0 = λ x. IsAmong (operands r x.deps) q in
              closed_at_limit p q m (asked_at-grows full_depth.0 limit p q (omega (arith, full_depth.1)) (subst P (sym e) asks))
        ];
        same = λ n p h m.
            (stays_from n (omega (arith, full_depth.1)) p m).0 ∙ sym (stays_from limit (omega (arith, full_depth.1)) p m).0;
      }
