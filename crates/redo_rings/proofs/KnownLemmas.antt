-- What is known after one walk more.
use Rattle.std.proofs.Common.{◌≡◌, ◌≢◌, ◌∙◌, ◌<◌, ◌≤◌, inl, inr, ℕ, Bool, true, List, ◌∷◌, ◌++◌, Option, Some, None, sym, subst, arith, length, slice_get, take, drop, get_or, ap, true≢false}
use Rattle.std.proofs.lemmas.Bool.{cases_eq}
use Rattle.std.proofs.lemmas.List.{get_or-set_same, get_or-set_other, length-set, take_at}
use Rattle.redo_rings.specs.declared.walks.Circle.{Circle}
use Rattle.redo_rings.specs.inside.Walks.{Goes, IsCircle, IsClosed, IsEnd, IsIn, IsKnown, IsSettled, IsWay, circle_at, place_at, seen_at}
use Rattle.redo_rings.proofs.WalkLemmas.{goes-from, goes-join}
use Rattle.redo_rings.proofs.CircleLemmas.{turned-begins, turned-first, turned-in, turned-at-least, turned-once, turned-goes, turned-leads, goes-drop, once-drop, in-drop}

module _ (next : List (Option ℕ)) (seen after : List Bool) (start : ℕ) (ns : List ℕ) (end : Option ℕ)
    (way : IsWay next seen after (Some start) ns end)
    (stops : (n : ℕ) → end ≡ Some n → seen_at after n ≡ true)
    (places then : List (Option ℕ)) (place : Option ℕ) (table new : List (Option Circle))
    (known : IsKnown next seen places table)
    (is_end : IsEnd ns end places table place new)
    (many : length then ≡ length places)
    (here : (n : ℕ) → IsIn ns n → place_at then n ≡ place)
    (others : (n : ℕ) → (IsIn ns n → ⊥) → place_at then n ≡ place_at places n) where
  abbrev Grows : List (Option Circle) → Type 0
  Grows later = (n : ℕ) → circle_at table n ≢ None → circle_at later n ≢ None

  not-new : (n : ℕ) → seen_at seen n ≡ true → IsIn ns n → ⊥
  not-new n was is = true≢false (sym was ∙ way.fresh n is)

  settled-later : (at o : Option ℕ) → Grows new → IsSettled next table at o → IsSettled next new at o
  settled-later at None grows is = is
  settled-later at (Some first) grows is = (is.0, grows first is.1)

  settled-behind : (from at o : Option ℕ) (ms : List ℕ) → Goes next from ms at → Grows new → IsSettled next table at o → IsSettled next new from o
  settled-behind from at None ms goes grows is = (ms ++ is.0, goes-join next from at None ms is.0 goes is.1)
  settled-behind from at (Some first) ms goes grows is =
      ((ms ++ is.0.0, goes-join next from at (Some first) ms is.0.0 goes is.0.1), grows first is.1)

  -- what holds of the numbers of the walk is what is left to show
  settled-all : Grows new → ((n : ℕ) → IsIn ns n → IsSettled next new (Some n) place) →
      (n : ℕ) → seen_at after n ≡ true → IsSettled next new (Some n) (place_at then n)
  settled-all grows now n is = elim (way.no_more n is) [
    | inl was ↦
        subst (λ o. IsSettled next new (Some n) o) (sym (others n (not-new n was)))
        (settled-later (Some n) (place_at places n) grows (known.settled n was))
    | inr there ↦ subst (λ o. IsSettled next new (Some n) o) (sym (here n there)) (now n there)
  ]

  circle-later : (n : ℕ) (ms : List ℕ) → IsCircle next seen places n ms → IsCircle next after then n ms
  circle-later n ms c = record {
    begins = c.begins;
    goes = c.goes;
    once = c.once;
    least = c.least;
    within = c.within;
    seen = λ m is. way.kept m (c.seen m is);
    placed = λ m is. others m (not-new m (c.seen m is)) ∙ c.placed m is;
  }

  known-with : length new ≡ length table → ((n : ℕ) → seen_at after n ≡ true → IsSettled next new (Some n) (place_at then n)) →
      ((n : ℕ) (c : Circle) → circle_at new n ≡ Some c → IsCircle next after then n c.members.items) →
      IsKnown next after then new
  known-with size settled circles = record {
    seen_size = way.size ∙ known.seen_size;
    places_size = many ∙ known.places_size;
    circles_size = size ∙ known.circles_size;
    settled = settled;
    circles = circles;
  }

  same-table : new ≡ table → Grows new
  same-table same n some none = some (ap (λ t. circle_at t n) (sym same) ∙ none)

  known-same : new ≡ table → ((n : ℕ) → IsIn ns n → IsSettled next new (Some n) place) → IsKnown next after then new
  known-same same now =
      known-with (ap length same) (settled-all (same-table same) now)
      (λ n c is. circle-later n c.members.items (known.circles n c (ap (λ t. circle_at t n) (sym same) ∙ is)))

  known-ended : end ≡ None → place ≡ None → new ≡ table → IsKnown next after then new
  known-ended stopped none same = known-same same (λ n is.
      let from = goes-from next (Some start) end ns n way.goes is in
      subst (λ o. IsSettled next new (Some n) o) (sym none) (from.0, subst (λ e. Goes next (Some n) from.0 e) stopped from.1))

  known-old : (e : ℕ) → end ≡ Some e → (IsIn ns e → ⊥) → place ≡ place_at places e → new ≡ table → IsKnown next after then new
  known-old e is_e apart told same =
      let was : seen_at seen e ≡ true = elim (way.no_more e (stops e is_e)) [
        | inl w ↦ w
        | inr there ↦ absurd (apart there)
      ] in
      known-same same (λ n is.
      let from = goes-from next (Some start) end ns n way.goes is in
      subst (λ o. IsSettled next new (Some n) o) (sym told)
      (settled-behind (Some n) (Some e) (place_at places e) from.0 (subst (λ x. Goes next (Some n) from.0 x) is_e from.1)
      (same-table same) (known.settled e was)))

  module _ (e i first : ℕ) (is_e : end ≡ Some e) (at : slice_get ns i ≡ Some e) (told : place ≡ Some first)
      (closed : IsClosed (drop i ns) table new first) where
    abbrev c : Circle
    c = closed.0

    abbrev ms : List ℕ
    ms = c.members.items

    around : Goes next (Some e) (drop i ns) (Some e)
    around = subst (λ x. Goes next (Some e) (drop i ns) x) is_e (goes-drop next (Some start) end ns i e way.goes at)

    first-in : IsIn ns first
    first-in = subst (IsIn ns) (sym closed.2) (in-drop ns i (get_or ms 0 0) (turned-first (drop i ns) ms closed.1))

    first-within : first < length table
    first-within = let h = way.within first first-in in omega (arith, h, known.circles_size)

    new-there : circle_at new first ≡ Some c
    new-there = ap (λ t. circle_at t first) closed.3 ∙ get_or-set_same table first (Some c) None first-within

    new-other : (n : ℕ) → n ≢ first → circle_at new n ≡ circle_at table n
    new-other n other = ap (λ t. circle_at t n) closed.3 ∙ get_or-set_other table first n (Some c) None other

    grows : Grows new
    grows n some none = elim (cases_eq n first) [
      | inl same ↦
          let there = subst (λ k. circle_at new k ≡ Some c) (sym same) new-there in
          let bad : None ≡ Some c = sym none ∙ there in cc
      | inr other ↦ some (sym (new-other n other) ∙ none)
    ]

    member-in : (n : ℕ) → IsIn ms n → IsIn ns n
    member-in n is = in-drop ns i n (turned-in (drop i ns) ms closed.1 n is)

    new-circle : IsCircle next after then first ms
    new-circle =
        let start = turned-begins (drop i ns) ms closed.1 in
        let begins : (rest : List ℕ) × (ms ≡ first ∷ rest) = (start.0, start.1 ∙ ap (λ n. n ∷ start.0) (sym closed.2)) in
        record {
          begins = begins;
          goes = subst (λ n. Goes next (Some n) ms (Some n)) (sym closed.2) (turned-goes (drop i ns) ms closed.1 next (Some e) around);
          once = turned-once (drop i ns) ms closed.1 (once-drop ns i way.once);
          least = λ n is. subst (λ k. k ≤ n) (sym closed.2) (turned-at-least (drop i ns) ms closed.1 n is);
          within = λ n is. way.within n (member-in n is);
          seen = λ n is. way.marked n (member-in n is);
          placed = λ n is. here n (member-in n is) ∙ told;
        }

    pub known-closed : IsKnown next after then new
    known-closed =
        known-with (ap length closed.3 ∙ length-set table first (Some c))
        (settled-all grows (λ n is.
        let from = goes-from next (Some start) end ns n way.goes is in
        let some : circle_at new first ≢ None = λ none. let bad : None ≡ Some c = sym none ∙ new-there in cc in
        let leads = turned-leads (drop i ns) ms closed.1 next (Some e) around from.0 (Some n)
        (subst (λ x. Goes next (Some n) from.0 x) is_e from.1) in
        subst (λ o. IsSettled next new (Some n) o) (sym told)
        ((from.0 ++ take closed.1.0 (drop i ns), subst (λ k. Goes next (Some n) (from.0 ++ take closed.1.0 (drop i ns)) (Some k)) (sym closed.2) leads), some)))
        (λ n d is. elim (cases_eq n first) [
          | inl same ↦
              let there = subst (λ k. circle_at new k ≡ Some c) (sym same) new-there in
              let both : Some c ≡ Some d = sym there ∙ is in
              let one : c ≡ d = cc in
              subst (λ k. IsCircle next after then k d.members.items) (sym same)
              (subst (λ x. IsCircle next after then first x.members.items) one new-circle)
          | inr other ↦ circle-later n d.members.items (known.circles n d (sym (new-other n other) ∙ is))
        ])

  pub known-more : IsKnown next after then new
  known-more = elim is_end [
    | inl is ↦ known-ended is.0 is.1 is.2
    | inr more ↦ elim more [
      | inl is ↦ known-old is.0 is.1 is.2 is.3 is.4
      | inr is ↦ known-closed is.0 is.1 is.2 is.3 is.4 is.5 is.6
    ]
  ]

-- the same of what is written back to a vector
pub known-written : (next : List (Option ℕ)) (seen : List Bool) (places : List (Option ℕ)) (table : List (Option Circle))
    (seen_rest : List Bool) (places_rest : List (Option ℕ)) (table_rest : List (Option Circle)) (k m n : ℕ) →
    length seen ≡ k → length places ≡ m → length table ≡ n → IsKnown next seen places table →
    IsKnown next (take k (seen ++ seen_rest)) (take m (places ++ places_rest)) (take n (table ++ table_rest))
known-written next seen places table seen_rest places_rest table_rest k m n a b d known =
    subst (λ l. IsKnown next l (take m (places ++ places_rest)) (take n (table ++ table_rest))) (sym (take_at seen seen_rest k a))
    (subst (λ l. IsKnown next seen l (take n (table ++ table_rest))) (sym (take_at places places_rest m b))
    (subst (λ l. IsKnown next seen places l) (sym (take_at table table_rest n d)) known))
