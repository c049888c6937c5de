-- Walks in depth, one step on.
use Rattle.std.proofs.Common.{◌≡◌, ◌∙◌, ◌<◌, ◌+◌, ◌⊎◌, inl, inr, ℕ, zero, suc, Bool, true, false, List, [], ◌∷◌, ◌++◌, Some, refl, sym, subst, ap, arith, length, set, get_or, replicate, slice_get, Contains, true≢false}
use Rattle.std.proofs.lemmas.Bool.{cases_eq, cases_lt}
use Rattle.std.proofs.lemmas.List.{get_or-set_same, get_or-set_other, length-set, length_push, length-replicate, take-append-le, take_at}
use Rattle.std.proofs.lemmas.List.Elements.{Contains-append_left, Contains-push, Contains-push_cases}
use Rattle.std.proofs.lemmas.Option.{slice_get_within, slice_get-get_or, get_or_from_slice_get}
use Rattle.redo_alike.specs.Alike.{IsGraph, IsOrder, IsWay, LeadsTo, Needs, needs_of}
use Rattle.redo_alike.specs.declared.graph.Node.{Node}
use Rattle.redo_alike.specs.inside.Walks.{AreSeen, IsWalk, seen_at, unseen_count}
use Rattle.redo_alike.proofs.ListLemmas.{get-in, in-get, get-kept, get-last, get-push, once-push, once-front, once-last}

-- ---- what is seen
pub marked-here : (seen : List Bool) (n : ℕ) → n < length seen → seen_at (set seen n true) n ≡ true
marked-here seen n under = get_or-set_same seen n true false under

pub marked-still : (seen : List Bool) (n m : ℕ) → n < length seen → seen_at seen m ≡ true → seen_at (set seen n true) m ≡ true
marked-still seen n m under is = elim (cases_eq m n) [
  | inl same ↦ subst (λ k. seen_at (set seen n true) k ≡ true) (sym same) (marked-here seen n under)
  | inr other ↦ get_or-set_other seen n m true false other ∙ is
]

pub marked-before : (seen : List Bool) (n m : ℕ) → seen_at (set seen n true) m ≡ true → (n ≡ m) ⊎ (seen_at seen m ≡ true)
marked-before seen n m is = elim (cases_eq m n) [
  | inl same ↦ inl (sym same)
  | inr other ↦ inr (sym (get_or-set_other seen n m true false other) ∙ is)
]

pub unseen-one : (seen : List Bool) (n : ℕ) → n < length seen → seen_at seen n ≡ false → suc (unseen_count (set seen n true)) ≡ unseen_count seen
unseen-one [] n under not = absurd (omega (arith, under))
unseen-one (true ∷ seen) zero under not = absurd (true≢false not)
unseen-one (false ∷ seen) zero under not = refl
unseen-one (true ∷ seen) (suc n) under not = unseen-one seen n (omega (arith, under)) not
unseen-one (false ∷ seen) (suc n) under not = ap suc (unseen-one seen n (omega (arith, under)) not)

pub seen-within : (seen : List Bool) (n : ℕ) → seen_at seen n ≡ true → n < length seen
seen-within [] n is = absurd (true≢false (sym is))
seen-within (b ∷ seen) zero is = omega arith
seen-within (b ∷ seen) (suc n) is = let under = seen-within seen n is in omega (arith, under)

unseen-all : (n : ℕ) → unseen_count (replicate n false) ≡ n
unseen-all zero = refl
unseen-all (suc n) = ap suc (unseen-all n)

none-seen : (n m : ℕ) → seen_at (replicate n false) m ≡ false
none-seen zero m = refl
none-seen (suc n) zero = refl
none-seen (suc n) (suc m) = none-seen n m

none-next : (n m : ℕ) → ◌≡◌ {A = ℕ} (get_or (replicate n 0) m 0) 0
none-next zero m = refl
none-next (suc n) zero = refl
none-next (suc n) (suc m) = none-next n m

-- the needs up to a place, and those from it on
pub seen-all : (needs : List ℕ) (seen : List Bool) (from : ℕ) → AreSeen needs seen 0 from →
    AreSeen needs seen from (length needs) → AreSeen needs seen 0 (length needs)
seen-all needs seen from before after k m low high is = elim (cases_lt k from) [
  | inl below ↦ before k m low below is
  | inr above ↦ after k m above high is
]

-- the needs up to a place, and the one at it
pub seen-more : (needs : List ℕ) (seen : List Bool) (from place x : ℕ) → x < length seen → AreSeen needs seen 0 from →
    AreSeen needs seen from place → slice_get needs place ≡ Some x → AreSeen needs (set seen x true) 0 (place + 1)
seen-more needs seen from place x under before after at k m low high is = elim (cases_eq k place) [
  | inl same ↦
      let e : Some x ≡ Some m = sym at ∙ ap (slice_get needs) (sym same) ∙ is in
      let at_x : x ≡ m = cc in
      subst (λ y. seen_at (set seen x true) y ≡ true) at_x (marked-here seen x under)
  | inr other ↦ marked-still seen x m under (elim (cases_lt k from) [
    | inl below ↦ before k m low below is
    | inr above ↦ after k m above (omega (arith, high, other)) is
  ])
]

-- what a node needs
pub needs-there : (nodes : List Node) (n : ℕ) (d : Node) → n < length nodes → needs_of (slice_get nodes n) ≡ (get_or nodes n d).needs.items
needs-there nodes n d under = ap needs_of (slice_get-get_or nodes n d under)

-- what is read at a place
pub read-is : (xs : List ℕ) (k x m : ℕ) → x ≡ get_or xs k x → slice_get xs k ≡ Some m → x ≡ m
read-is xs k x m is at = is ∙ get_or_from_slice_get xs k m x at

module _ (nodes : List Node) where
  -- ---- ways
  way-more : (a b c : ℕ) (ns : List ℕ) → IsWay nodes a ns b → Needs nodes b c → IsWay nodes a (ns ++ c ∷ []) c
  way-more a b c [] is need = (subst (λ k. Needs nodes k c) (sym is) need, refl)
  way-more a b c (n ∷ ns) is need = (is.0, way-more n b c ns is.1 need)

  pub leads-more : (a b c : ℕ) → LeadsTo nodes a b → Needs nodes b c → LeadsTo nodes a c
  leads-more a b c is need = (is.0 ++ c ∷ [], way-more a b c is.0 is.1 need)

  -- ---- walks
  pub walk-same : (seen seen' : List Bool) (next next' way way' left left' : List ℕ) → seen' ≡ seen → next' ≡ next → way' ≡ way → left' ≡ left →
      IsWalk nodes seen next way left → IsWalk nodes seen' next' way' left'
  walk-same seen seen' next next' way way' left left' a b c d w =
      subst (λ l. IsWalk nodes seen' next' way' l) (sym d) (
      subst (λ l. IsWalk nodes seen' next' l left) (sym c) (
      subst (λ l. IsWalk nodes seen' l way left) (sym b) (subst (λ l. IsWalk nodes l next way left) (sym a) w)))

  pub walk-begun : IsWalk nodes (replicate (length nodes) false) (replicate (length nodes) 0) [] []
  walk-begun =
      let size = length nodes in
      let dark = λ (n : ℕ) (is : seen_at (replicate size false) n ≡ true). true≢false (sym is ∙ none-seen size n) in
      record {
        seen_size = length-replicate size false;
        next_size = length-replicate size 0;
        count = omega (arith, unseen-all size);
        either = λ n is. absurd (dark n is);
        way_seen = λ n is. absurd (omega (arith, is.1));
        left_seen = λ n is. absurd (omega (arith, is.1));
        apart = λ n is there. absurd (omega (arith, is.1));
        way_once = λ i j n is there. let none : i < 0 = slice_get_within [] i n is in absurd (omega (arith, none));
        left_once = λ i j n is there. let none : i < 0 = slice_get_within [] i n is in absurd (omega (arith, none));
        leads = λ i j a b lt is there. let none : i < 0 = slice_get_within [] i a is in absurd (omega (arith, none));
        looked = λ n k m low high at. absurd (omega (arith, high, none-next size n));
        closes = λ i n m is need. let none : i < 0 = slice_get_within [] i n is in absurd (omega (arith, none));
      }

  -- a node that wasn't seen is the last of the way
  pub walk-enter : (seen : List Bool) (next way left : List ℕ) (x : ℕ) → IsWalk nodes seen next way left → seen_at seen x ≡ false → x < length nodes →
      ((a : ℕ) → Contains way a → LeadsTo nodes a x) → IsWalk nodes (set seen x true) next (way ++ x ∷ []) left
  walk-enter seen next way left x w new within leads_to =
      let under : x < length seen = omega (arith, w.seen_size, within) in
      record {
        seen_size = length-set seen x true ∙ w.seen_size;
        next_size = w.next_size;
        count = omega (arith, unseen-one seen x under new, length_push way x, w.count);
        either = λ n is. elim (marked-before seen x n is) [
          | inl same ↦ inl (subst (λ k. Contains (way ++ x ∷ []) k) same (Contains-push way x))
          | inr old ↦ elim (w.either n old) [
            | inl on ↦ inl (Contains-append_left way (x ∷ []) n on)
            | inr off ↦ inr off
          ]
        ];
        way_seen = λ n is. elim (Contains-push_cases way x n is) [
          | inl old ↦ marked-still seen x n under (w.way_seen n old)
          | inr same ↦ subst (λ k. seen_at (set seen x true) k ≡ true) same (marked-here seen x under)
        ];
        left_seen = λ n is. marked-still seen x n under (w.left_seen n is);
        apart = λ n is there. elim (Contains-push_cases way x n is) [
          | inl old ↦ w.apart n old there
          | inr same ↦ true≢false (sym (w.left_seen n there) ∙ subst (λ k. seen_at seen k ≡ false) same new)
        ];
        way_once = once-push way x w.way_once (λ is. true≢false (sym (w.way_seen x is) ∙ new));
        left_once = w.left_once;
        leads = λ i j a b lt p q. elim (get-push way x j b q) [
          | inl old ↦ elim (get-push way x i a p) [
            | inl first ↦ w.leads i j a b lt first old
            | inr last ↦ let low : j < length way = slice_get_within way j b old in absurd (omega (arith, low, lt, last.0))
          ]
          | inr here ↦ elim (get-push way x i a p) [
            | inl first ↦ subst (λ k. LeadsTo nodes a k) here.1 (leads_to a (get-in way i a first))
            | inr last ↦ absurd (omega (arith, lt, last.0, here.0))
          ]
        ];
        looked = λ n k m low high at. marked-still seen x m under (w.looked n k m low high at);
        closes = w.closes;
      }

  -- more needs of a node were looked at
  pub walk-next : (seen : List Bool) (next way left : List ℕ) (here place : ℕ) → IsWalk nodes seen next way left → here < length nodes →
      AreSeen (needs_of (slice_get nodes here)) seen 0 place → IsWalk nodes seen (set next here place) way left
  walk-next seen next way left here place w within are = record {
    seen_size = w.seen_size;
    next_size = length-set next here place ∙ w.next_size;
    count = w.count;
    either = w.either;
    way_seen = w.way_seen;
    left_seen = w.left_seen;
    apart = w.apart;
    way_once = w.way_once;
    left_once = w.left_once;
    leads = w.leads;
    looked = λ n. elim (cases_eq n here) [
      | inl same ↦
          let e : get_or (set next here place) n 0 ≡ place =
          ap (λ k. get_or (set next here place) k 0) same ∙ get_or-set_same next here place 0 (omega (arith, w.next_size, within)) in
          subst (λ k. AreSeen (needs_of (slice_get nodes n)) seen 0 k) (sym e) (subst (λ k. AreSeen (needs_of (slice_get nodes k)) seen 0 place) (sym same) are)
      | inr other ↦ subst (λ k. AreSeen (needs_of (slice_get nodes n)) seen 0 k) (sym (get_or-set_other next here n place 0 other)) (w.looked n)
    ];
    closes = w.closes;
  }

  -- a way that is empty
  pub walk-done : (seen : List Bool) (next left : List ℕ) → IsWalk nodes seen next [] left → ((n : ℕ) → n < length nodes → seen_at seen n ≡ true) → IsOrder nodes left
  walk-done seen next left w all = record {
    all = λ n under. elim (w.either n (all n under)) [
      | inl none ↦ absurd (omega (arith, none.1))
      | inr is ↦ is
    ];
    within = λ n is. let under : n < length seen = seen-within seen n (w.left_seen n is) in omega (arith, under, w.seen_size);
    once = w.left_once;
    closes = w.closes;
  }

  module _ (seen : List Bool) (next way left : List ℕ) where
    -- each of the way leads to its last
    pub leads-last : (here m : ℕ) → IsWalk nodes seen next (way ++ here ∷ []) left → Contains (way ++ here ∷ []) m → LeadsTo nodes m here
    leads-last here m w is = elim (Contains-push_cases way here m is) [
      | inl old ↦
          let at = in-get way m old in
          let low : at.0 < length way = slice_get_within way at.0 m at.1 in
          w.leads at.0 (length way) m here low (get-kept way (here ∷ []) at.0 m at.1) (get-last way here)
      | inr same ↦ ([], sym same)
    ]

    -- the last of the way is a node
    pub last-within : (here : ℕ) → IsWalk nodes seen next (way ++ here ∷ []) left → here < length nodes
    last-within here w =
        let under : here < length seen = seen-within seen here (w.way_seen here (Contains-push way here)) in
        omega (arith, under, w.seen_size)

    -- a need of the last of the way, the first that wasn't seen, is the last of the way
    pub walk-follow : (here place x : ℕ) → IsWalk nodes seen next (way ++ here ∷ []) left → IsGraph nodes →
        AreSeen (needs_of (slice_get nodes here)) seen (get_or next here 0) place → slice_get (needs_of (slice_get nodes here)) place ≡ Some x →
        seen_at seen x ≡ false → IsWalk nodes (set seen x true) (set next here (place + 1)) ((way ++ here ∷ []) ++ x ∷ []) left
    walk-follow here place x w graph are at new =
        let need : Needs nodes here x = get-in (needs_of (slice_get nodes here)) place x at in
        let within : x < length nodes = graph here x need in
        let under : x < length seen = omega (arith, w.seen_size, within) in
        let more = walk-enter seen next (way ++ here ∷ []) left x w new within (λ a on. leads-more a here x (leads-last here a w on) need) in
        walk-next (set seen x true) next ((way ++ here ∷ []) ++ x ∷ []) left here (place + 1) more (last-within here w)
        (seen-more (needs_of (slice_get nodes here)) seen (get_or next here 0) place x under (w.looked here) are at)

    -- the last of the way, all of whose needs are seen, is left
    pub walk-leave : (here : ℕ) → IsWalk nodes seen next (way ++ here ∷ []) left →
        AreSeen (needs_of (slice_get nodes here)) seen 0 (length (needs_of (slice_get nodes here))) →
        IsWalk nodes seen next way (left ++ here ∷ [])
    walk-leave here w all = record {
      seen_size = w.seen_size;
      next_size = w.next_size;
      count = omega (arith, length_push way here, length_push left here, w.count);
      either = λ n is. elim (w.either n is) [
        | inl on ↦ elim (Contains-push_cases way here n on) [
          | inl old ↦ inl old
          | inr same ↦ inr (subst (λ k. Contains (left ++ here ∷ []) k) same (Contains-push left here))
        ]
        | inr off ↦ inr (Contains-append_left left (here ∷ []) n off)
      ];
      way_seen = λ n is. w.way_seen n (Contains-append_left way (here ∷ []) n is);
      left_seen = λ n is. elim (Contains-push_cases left here n is) [
        | inl old ↦ w.left_seen n old
        | inr same ↦ subst (λ k. seen_at seen k ≡ true) same (w.way_seen here (Contains-push way here))
      ];
      apart = λ n is there. elim (Contains-push_cases left here n there) [
        | inl old ↦ w.apart n (Contains-append_left way (here ∷ []) n is) old
        | inr same ↦ once-last way here w.way_once (subst (λ k. Contains way k) (sym same) is)
      ];
      way_once = once-front way (here ∷ []) w.way_once;
      left_once = once-push left here w.left_once (λ is. w.apart here (Contains-push way here) is);
      leads = λ i j a b lt p q. w.leads i j a b lt (get-kept way (here ∷ []) i a p) (get-kept way (here ∷ []) j b q);
      looked = w.looked;
      closes = λ i n m at need. elim (get-push left here i n at) [
        | inl old ↦
            let low : i < length left = slice_get_within left i n old in
            subst (λ l. Contains l m ⊎ LeadsTo nodes m n) (sym (take-append-le i left (here ∷ []) (omega (arith, low)))) (w.closes i n m old need)
        | inr new ↦
            let of_here : Needs nodes here m = subst (λ k. Needs nodes k m) (sym new.1) need in
            let place = in-get (needs_of (slice_get nodes here)) m of_here in
            let low : place.0 < length (needs_of (slice_get nodes here)) = slice_get_within (needs_of (slice_get nodes here)) place.0 m place.1 in
            let is = all place.0 m (omega arith) low place.1 in
            elim (w.either m is) [
              | inl on ↦ inr (subst (λ k. LeadsTo nodes m k) new.1 (leads-last here m w on))
              | inr off ↦ inl (subst (λ l. Contains l m) (sym (take_at left (here ∷ []) i (sym new.0))) off)
            ]
      ];
    }
