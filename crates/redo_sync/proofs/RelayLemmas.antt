-- Each step keeps the rule of the relay.
use Rattle.std.proofs.Common.{◌≡◌, ◌≢◌, ℕ, zero, suc, ◌+◌, ◌-◌, ◌<◌, Bool, true, List, [], ◌∷◌, ◌++◌, map, length}
use Rattle.std.proofs.Common.{length-append, append-nil, append_assoc, set, sym, refl, ap, ◌∙◌, ⊎_elim, subst, arith}
use Rattle.std.proofs.lemmas.List.Sums.{sum_by-append, sum_by-cons}
use Rattle.std.specs.List.{count_by, sum_by}
use Rattle.std.specs.Prelude.{cond}
use mathlib.Core.Option.{some, some-injective, some-ne-none}
use lib.ListN.{get_elem?}
use Rattle.crossbeam_deque.specs.Tasks.{Pushes, Takes, Finds, Forks, Merges}
use Rattle.crossbeam_deque.proofs.Lists.{at_set, at_snoc}
use Rattle.redo_sync.specs.declared.rule.Hand.{Hand}
use Rattle.redo_sync.specs.Relay.{Pair, SharesOut, Taker, taken_by}
use Rattle.redo_sync.specs.inside.Rule.{hand, Idle, EachIdle, pending, Balanced}

-- the sum after a change of one hand
sum_set : (f : Hand → ℕ) (hands : List Hand) (port : ℕ) (v w : Hand) → get_elem? hands port ≡ some v → sum_by f (set hands port w) + f v ≡ sum_by f hands + f w
sum_set f [] port v w at = absurd (some-ne-none v (sym at))
sum_set f (x ∷ xs) zero v w at =
    let e : f x ≡ f v = ap f (some-injective x v at) in omega (arith, sum_by-cons f x xs, sum_by-cons f w xs)
sum_set f (x ∷ xs) (suc port) v w at =
    let h = sum_set f xs port v w at in omega (arith, sum_by-cons f x xs, sum_by-cons f x (set xs port w))

-- the sum with one more hand
sum_snoc : (f : Hand → ℕ) (hands : List Hand) (w : Hand) → sum_by f (hands ++ w ∷ []) ≡ sum_by f hands + f w
sum_snoc f hands w = omega (arith, sum_by-append f hands (w ∷ []))

idle_set : (hands : List Hand) (port : ℕ) (w : Hand) → Idle w → EachIdle hands → EachIdle (set hands port w)
idle_set hands port w mine others j u e =
    ⊎_elim (λ (x : (j ≡ port) × (w ≡ u)). subst Idle x.1 mine) (λ (x : (j ≢ port) × (get_elem? hands j ≡ some u)). others j u x.1) (at_set hands port j w u e)

idle_snoc : (hands : List Hand) (w : Hand) → Idle w → EachIdle hands → EachIdle (hands ++ w ∷ [])
idle_snoc hands w mine others j u e = ⊎_elim (λ x. others j u x) (λ (is : w ≡ u). subst Idle is mine) (at_snoc hands w u j e)

pub count_by-append : {X : Type 0} (p : X → Bool) (xs ys : List X) → count_by p (xs ++ ys) ≡ count_by p xs + count_by p ys
count_by-append p xs ys = sum_by-append (λ x. cond (p x) 1 0) xs ys

pub count_by-map : {X Y : Type 0} (n : X → Y) (p : Y → Bool) (xs : List X) → count_by p (map n xs) ≡ count_by (λ x. p (n x)) xs
count_by-map n p [] = refl
count_by-map n p (x ∷ xs) =
    let h = count_by-map n p xs in omega (arith, sum_by-cons (λ y. cond (p y) 1 0) (n x) (map n xs), sum_by-cons (λ y. cond (p (n y)) 1 0) x xs)

count_by-true : {X : Type 0} (xs : List X) → count_by (λ _. true) xs ≡ length xs
count_by-true [] = refl
count_by-true (x ∷ xs) = let h = count_by-true xs in omega (arith, sum_by-cons (λ _. 1) x xs)

length-map : {X Y : Type 0} (n : X → Y) (xs : List X) → length (map n xs) ≡ length xs
length-map n [] = refl
length-map n (x ∷ xs) = let h = length-map n xs in omega arith

-- where no hand has a part, a sum of what is nothing for each idle hand is nothing
quiet : (f : Hand → ℕ) → ((v : Hand) → v.given ≡ [] → v.taken ≡ [] → v.left ≡ [] → f v ≡ 0) → (hands : List Hand) → sum_by (λ u. u.parts) hands ≡ 0 → EachIdle hands → sum_by f hands ≡ 0
quiet f none [] total idle = refl
quiet f none (x ∷ xs) total idle =
    let c = sum_by-cons (λ (u : Hand). u.parts) x xs in
    let empty = idle 0 x refl (omega arith) in
    let h = quiet f none xs (omega arith) (λ port v at. idle (suc port) v at) in
    omega (arith, sum_by-cons f x xs, none x empty.0 empty.1 empty.2)

-- where one hand has every part, such a sum is its own
sole : (f : Hand → ℕ) → ((v : Hand) → v.given ≡ [] → v.taken ≡ [] → v.left ≡ [] → f v ≡ 0) → (hands : List Hand) (port : ℕ) (v : Hand) → get_elem? hands port ≡ some v → sum_by (λ u. u.parts) hands ≡ v.parts → EachIdle hands
    → sum_by f hands ≡ f v
sole f none hands port v at all idle =
    let spent = hand 0 [] [] [] in let hs = set hands port spent in
    let s = sum_set (λ u. u.parts) hands port v spent at in
    let q = quiet f none hs (omega arith) (idle_set hands port spent (λ _. (refl, refl, refl)) idle) in
    omega (arith, sum_set f hands port v spent at, none spent refl refl refl)

pub taken_by_snoc : (ts : List Taker) (t : Taker) → taken_by (ts ++ t ∷ []) ≡ taken_by ts ++ t.taken
taken_by_snoc [] t = append-nil t.taken
taken_by_snoc (u ∷ ts) t = ap (λ l. u.taken ++ l) (taken_by_snoc ts t) ∙ sym (append_assoc u.taken (taken_by ts) t.taken)

-- what the source knows once it has taken in one more taker
pub taken_in : (parts : ℕ) (given : List Pair) (ts : List Taker) (t : Taker) (v w : Hand) → v ≡ hand (parts + length ts) given (taken_by ts) [] → w ≡ hand (v.parts + 1) v.given (v.taken ++ t.taken) v.left
    → w ≡ hand (parts + length (ts ++ t ∷ [])) given (taken_by (ts ++ t ∷ [])) []
taken_in parts given ts t v w before after =
    let more : parts + length ts + 1 ≡ parts + length (ts ++ t ∷ []) = omega (arith, length-append ts (t ∷ [])) in
    after ∙ ap (λ (u : Hand). hand (u.parts + 1) u.given (u.taken ++ t.taken) u.left) before ∙ (λ i. hand (more i) given (sym (taken_by_snoc ts t) i) [])

module _ {T : Type 0} (n : T → Pair) where
  pub begins : Balanced n [] (hand 66 [] [] [] ∷ [])
  begins = (refl, (λ p. refl), idle_snoc [] (hand 66 [] [] []) (λ none. absurd (omega arith)) (λ port v e. absurd (some-ne-none v (sym e))))

  pub gives : (port : ℕ) (v : Hand) (xs : List T) → 0 < v.parts → Pushes (Balanced n) port v xs (λ w. w ≡ hand v.parts (v.given ++ map n xs) v.taken v.left)
  gives port v xs may items hands room at =
      let w = hand v.parts (v.given ++ map n xs) v.taken v.left in (
        w,
        (
          (let s = sum_set (λ u. u.parts) hands port v w at in let b = room.0 in omega arith),
          (λ p.
              let s = sum_set (λ u. count_by p u.given) hands port v w at in
              let t = sum_set (λ u. count_by p u.taken) hands port v w at in
              let l = sum_set (λ u. count_by p u.left) hands port v w at in
              let b = room.1 p in
              omega (arith, count_by-append p v.given (map n xs), count_by-map n p xs, count_by-append (λ x. p (n x)) items xs)),
          idle_set hands port w (λ none. absurd (omega arith)) room.2,
        ),
        refl,
      )

  pub takes : (port : ℕ) (v : Hand) → 0 < v.parts → Takes (Balanced n) port v 1 (λ xs w. w ≡ hand v.parts v.given (v.taken ++ map n xs) v.left)
  takes port v may xs items hands _ _ room at =
      let w = hand v.parts v.given (v.taken ++ map n xs) v.left in (
        w,
        (
          (let s = sum_set (λ u. u.parts) hands port v w at in let b = room.0 in omega arith),
          (λ p.
              let s = sum_set (λ u. count_by p u.given) hands port v w at in
              let t = sum_set (λ u. count_by p u.taken) hands port v w at in
              let l = sum_set (λ u. count_by p u.left) hands port v w at in
              let b = room.1 p in
              omega (arith, count_by-append p v.taken (map n xs), count_by-map n p xs, count_by-append (λ x. p (n x)) xs items)),
          idle_set hands port w (λ none. absurd (omega arith)) room.2,
        ),
        refl,
      )

  pub forks : (port : ℕ) (v : Hand) → 1 < v.parts → Forks (Balanced n) port v (hand (v.parts - 1) v.given v.taken v.left) (hand 1 [] [] [])
  forks port v may items hands room at =
      let less = hand (v.parts - 1) v.given v.taken v.left in let r = hand 1 [] [] [] in let hs = set hands port less in (
        (let s = sum_set (λ u. u.parts) hands port v less at in let b = room.0 in omega (arith, sum_snoc (λ u. u.parts) hs r)),
        (λ p.
            let s = sum_set (λ u. count_by p u.given) hands port v less at in
            let t = sum_set (λ u. count_by p u.taken) hands port v less at in
            let l = sum_set (λ u. count_by p u.left) hands port v less at in
            let b = room.1 p in
            omega (arith, sum_snoc (λ u. count_by p u.given) hs r, sum_snoc (λ u. count_by p u.taken) hs r, sum_snoc (λ u. count_by p u.left) hs r)),
        idle_snoc hs r (λ none. absurd (omega arith)) (idle_set hands port less (λ none. absurd (omega arith)) room.2),
      )

  pub merges : (port : ℕ) (v : Hand) (other : ℕ) (u : Hand) → 0 < v.parts
      → Merges (Balanced n) port v other u (hand (v.parts + u.parts) (v.given ++ u.given) (v.taken ++ u.taken) (v.left ++ u.left)) (hand 0 [] [] [])
  merges port v other u may items hands room at apart at' =
      let both = hand (v.parts + u.parts) (v.given ++ u.given) (v.taken ++ u.taken) (v.left ++ u.left) in let spent = hand 0 [] [] [] in let hs = set hands port both in (
        (let s = sum_set (λ h. h.parts) hands port v both at in let s' = sum_set (λ h. h.parts) hs other u spent at' in let b = room.0 in omega arith),
        (λ p.
            let s = sum_set (λ h. count_by p h.given) hands port v both at in
            let s' = sum_set (λ h. count_by p h.given) hs other u spent at' in
            let t = sum_set (λ h. count_by p h.taken) hands port v both at in
            let t' = sum_set (λ h. count_by p h.taken) hs other u spent at' in
            let l = sum_set (λ h. count_by p h.left) hands port v both at in
            let l' = sum_set (λ h. count_by p h.left) hs other u spent at' in
            let b = room.1 p in
            omega (arith, count_by-append p v.given u.given, count_by-append p v.taken u.taken, count_by-append p v.left u.left)),
        idle_set hs other spent (λ _. (refl, refl, refl)) (idle_set hands port both (λ none. absurd (omega arith)) room.2),
      )

  -- who has every part and finds the deque empty knows that what was given was taken
  pub finds : (port : ℕ) (v : Hand) → v.parts ≡ 66 → Finds (Balanced n) port v (SharesOut v.given v.taken v.left)
  finds port v all hands room at p =
      let same : sum_by (λ (u : Hand). u.parts) hands ≡ v.parts = room.0 ∙ sym all in
      let g = sole (λ u. count_by p u.given) (λ u e _ _. ap (count_by p) e) hands port v at same room.2 in
      let t = sole (λ u. count_by p u.taken) (λ u _ e _. ap (count_by p) e) hands port v at same room.2 in
      let l = sole (λ u. count_by p u.left) (λ u _ _ e. ap (count_by p) e) hands port v at same room.2 in
      let b = room.1 p in
      omega arith

  fewer : (port : ℕ) (v : Hand) (xs items : List T) (hands : List Hand) → 0 < length xs → Balanced n (xs ++ items) hands → get_elem? hands port ≡ some v → v.parts ≡ 66
      → pending (hand v.parts v.given v.taken (v.left ++ map n xs)) < pending v
  fewer port v xs items hands some_job room at all =
      let same : sum_by (λ (u : Hand). u.parts) hands ≡ v.parts = room.0 ∙ sym all in
      let p : Pair → Bool = λ _. true in
      let g = sole (λ u. count_by p u.given) (λ u e _ _. ap (count_by p) e) hands port v at same room.2 in
      let t = sole (λ u. count_by p u.taken) (λ u _ e _. ap (count_by p) e) hands port v at same room.2 in
      let l = sole (λ u. count_by p u.left) (λ u _ _ e. ap (count_by p) e) hands port v at same room.2 in
      let b = room.1 p in
      omega
      (arith, count_by-true v.given, count_by-true v.taken, count_by-true v.left, count_by-true (xs ++ items), length-append xs items, length-append v.left (map n xs), length-map n xs)

  pub drains : (port : ℕ) (v : Hand) → 0 < v.parts → Takes (Balanced n) port v 1 (λ xs w. (w ≡ hand v.parts v.given v.taken (v.left ++ map n xs)) × (v.parts ≡ 66 → pending w < pending v))
  drains port v may xs items hands some_job _ room at =
      let w = hand v.parts v.given v.taken (v.left ++ map n xs) in (
        w,
        (
          (let s = sum_set (λ u. u.parts) hands port v w at in let b = room.0 in omega arith),
          (λ p.
              let s = sum_set (λ u. count_by p u.given) hands port v w at in
              let t = sum_set (λ u. count_by p u.taken) hands port v w at in
              let l = sum_set (λ u. count_by p u.left) hands port v w at in
              let b = room.1 p in
              omega (arith, count_by-append p v.left (map n xs), count_by-map n p xs, count_by-append (λ x. p (n x)) xs items)),
          idle_set hands port w (λ none. absurd (omega arith)) room.2,
        ),
        (refl, λ all. fewer port v xs items hands some_job room at all),
      )

-- where a job is still pending, not all that was given was taken
pub not_all_taken : (v w : Hand) → pending w < pending v → SharesOut v.given v.taken [] → ⊥
not_all_taken v w fewer out =
    let all = out (λ _. true) in
    omega (arith, count_by-true v.given, count_by-true v.taken)
