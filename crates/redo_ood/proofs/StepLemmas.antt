-- A verdict that follows from sound ones may be noted.
use Rattle.std.proofs.Common.{◌≡◌, ℕ, zero, suc, ◌+◌, ◌<◌, ◌≤◌, Bool, true, false, inl, inr, List, [], ◌∷◌, length}
use Rattle.std.proofs.Common.{Option, Some, None, is_some, slice_get, slice_set, get_or, refl, sym, ap, subst, ◌∙◌, arith}
use Rattle.std.proofs.lemmas.Bool.{cases_lt, cases_eq}
use Rattle.std.proofs.lemmas.List.{get_or-set_same, get_or-set_other, get_or_past, length-set}
use Rattle.std.proofs.lemmas.Option.{slice_get_past, slice_get-get_or}
use Rattle.redo_build.proofs.DepthLemmas.{cases_Option}
use Rattle.redo_ood.specs.declared.verdicts.RowItem.{RowItem}
use Rattle.redo_ood.specs.declared.verdicts.RowItem.TheVariants as items
use Rattle.redo_ood.specs.declared.verdicts.Verdict.{Verdict}
use Rattle.redo_ood.specs.declared.verdicts.Verdict.TheVariants.{Keeps, Begins, Either}
use Rattle.redo_ood.specs.declared.verdicts.Row.{Row}
use Rattle.redo_ood.specs.inside.Verdicts.{Known, in_table, by_verdict, by_item, of_items, of_row, known_at, AreReached}
use Rattle.redo_ood.specs.inside.Verdicts.{IsSound, IsFixedAt, AreVerdicts, known_count}

-- each verdict of the first is one of the second
abbrev Grows : Option Verdict → Option Verdict → Type 0
Grows a b = (x : Verdict) → a ≡ Some x → b ≡ Some x

by_verdict-grows : (same : Bool) (a b rest more : Option Verdict) → Grows a b → Grows rest more →
    Grows (by_verdict same a rest) (by_verdict same b more)
by_verdict-grows same None b rest more grows after x is = absurd (let bad : None ≡ Some x = is in cc)
by_verdict-grows true (Some Keeps) b rest more grows after x is = rw (grows Keeps refl) (after x is)
by_verdict-grows false (Some Keeps) b rest more grows after x is = rw (grows Keeps refl) is
by_verdict-grows true (Some Begins) b rest more grows after x is = rw (grows Begins refl) is
by_verdict-grows false (Some Begins) b rest more grows after x is = rw (grows Begins refl) is
by_verdict-grows true (Some Either) b rest more grows after x is = rw (grows Either refl) is
by_verdict-grows false (Some Either) b rest more grows after x is = rw (grows Either refl) is

module _ (v w : Known) (grows : (i : ℕ) → Grows (v i) (w i)) where
  item-grows : (i : RowItem) (rest more : Option Verdict) → Grows rest more → Grows (by_item v i rest) (by_item w i more)
  item-grows items.Holds rest more after x is = after x is
  item-grows items.Drops rest more after x is = is
  item-grows items.Unsure rest more after x is = is
  item-grows (items.On n same) rest more after x is = by_verdict-grows same (v n) (w n) rest more (grows n) after x is

  items-grow : (is : List RowItem) → Grows (of_items v is) (of_items w is)
  items-grow [] x e = e
  items-grow (i ∷ is) x e = item-grows i (of_items v is) (of_items w is) (items-grow is) x e

  pub row-grows : (r : Option Row) → Grows (of_row v r) (of_row w r)
  row-grows None x e = e
  row-grows (Some r) x e = items-grow r.items.items x e

known-once : (book : List Row) (n i : ℕ) → Grows (known_at book n i) (known_at book (suc n) i)
known-once book zero i x e = absurd (let bad : None ≡ Some x = e in cc)
known-once book (suc n) i x e =
    row-grows (known_at book n) (known_at book (suc n)) (λ j. known-once book n j) (slice_get book i) x e

known-more : (book : List Row) (n m : ℕ) → n ≤ m → (i : ℕ) → Grows (known_at book n i) (known_at book m i)
known-more book n zero h i x e = let same : n ≡ 0 = omega arith in rw same at e
known-more book n (suc m) h i x e = elim (cases_lt m n) [
  | inl above ↦ let same : n ≡ suc m = omega arith in rw same at e
  | inr below ↦ known-once book m i x (known-more book n m below i x e)
]

-- What follows from what is reached is reached

module _ (book : List Row) (v : Known) (reached : AreReached book v) where
  -- from some depth on an item is as by the verdicts
  abbrev IsAsFrom : RowItem → ℕ → Type 0
  IsAsFrom i n = (m : ℕ) → n ≤ m → (rest more : Option Verdict) → Grows rest more →
      Grows (by_item v i rest) (by_item (known_at book m) i more)

  reach-item : (i : RowItem) → (n : ℕ) × IsAsFrom i n
  reach-item items.Holds = (0, λ m h rest more after x is. after x is)
  reach-item items.Drops = (0, λ m h rest more after x is. is)
  reach-item items.Unsure = (0, λ m h rest more after x is. is)
  reach-item (items.On j same) = elim (cases_Option (v j)) [
    | inl none ↦ (
      0,
      λ m h rest more after x is. by_verdict-grows same (v j) (known_at book m j) rest more
          (λ z e. absurd (let bad : None ≡ Some z = sym none ∙ e in cc)) after x is,
    )
    | inr some ↦
        let at = reached j some.0 some.1 in (
          at.0,
          λ m h rest more after x is. by_verdict-grows same (v j) (known_at book m j) rest more
              (λ z e.
              let one : Some some.0 ≡ Some z = sym some.1 ∙ e in
              known-more book at.0 m h j z (at.1 ∙ one)) after x is,
        )
  ]

  reach-items : (is : List RowItem) (x : Verdict) → of_items v is ≡ Some x →
      (n : ℕ) × (of_items (known_at book n) is ≡ Some x)
  reach-items [] x e = (0, e)
  reach-items (i ∷ is) x e =
      let first = reach-item i in
      elim (cases_Option (of_items v is)) [
        | inl none ↦ (
          first.0,
          first.1 first.0 (omega arith) (of_items v is) (of_items (known_at book first.0) is)
              (λ z e'. absurd (let bad : None ≡ Some z = sym none ∙ e' in cc)) x e,
        )
        | inr some ↦
            let later = reach-items is some.0 some.1 in
            let n : ℕ = first.0 + later.0 in (
              n,
              first.1 n (omega arith) (of_items v is) (of_items (known_at book n) is)
                  (λ z e'.
                  let one : Some some.0 ≡ Some z = sym some.1 ∙ e' in
                  items-grow (known_at book later.0) (known_at book n)
                  (λ j. known-more book later.0 n (omega arith) j) is z (later.1 ∙ one)) x e,
            )
      ]

  reach-row : (r : Option Row) (x : Verdict) → of_row v r ≡ Some x →
      (n : ℕ) × (of_row (known_at book n) r ≡ Some x)
  reach-row None x e = absurd (let bad : None ≡ Some x = e in cc)
  reach-row (Some r) x e = reach-items r.items.items x e

-- A table with one more

module _ (book : List Row) (table : List (Option Verdict)) (sound : IsSound book table) (i : ℕ)
    (within : i < length book) (x : Verdict) (none : in_table table i ≡ None)
    (follows : of_row (in_table table) (slice_get book i) ≡ Some x) where
  abbrev next : List (Option Verdict)
  next = slice_set table i (Some x)

  inside : i < length table
  inside = let e = sound.size in omega arith

  here : in_table next i ≡ Some x
  here = get_or-set_same table i (Some x) None inside

  away : (j : ℕ) → (j ≡ i → ⊥) → in_table next j ≡ in_table table j
  away j other = get_or-set_other table i j (Some x) None other

  grows : (j : ℕ) → Grows (in_table table j) (in_table next j)
  grows j y e = elim (cases_eq j i) [
    | inl same ↦ absurd (
        let bad : None ≡ Some y = sym none ∙ ap (in_table table) (sym same) ∙ e in cc)
    | inr other ↦ away j other ∙ e
  ]

  pub next-sound : IsSound book next
  next-sound = record {
    size = length-set table i (Some x) ∙ sound.size;
    reached = λ j y e. elim (cases_eq j i) [
      | inl same ↦
          let one : Some x ≡ Some y = sym here ∙ ap (in_table next) (sym same) ∙ e in
          let at = reach-row book (in_table table) sound.reached (slice_get book i) x follows in
          (suc at.0, ap (λ k. known_at book (suc at.0) k) same ∙ at.1 ∙ one)
      | inr other ↦ sound.reached j y (sym (away j other) ∙ e)
    ];
    founded = λ j y e. elim (cases_eq j i) [
      | inl same ↦
          let one : Some x ≡ Some y = sym here ∙ ap (in_table next) (sym same) ∙ e in
          ap (λ k. of_row (in_table next) (slice_get book k)) same
          ∙ row-grows (in_table table) (in_table next) grows (slice_get book i) x follows ∙ one
      | inr other ↦
          row-grows (in_table table) (in_table next) grows (slice_get book j) y
          (sound.founded j y (sym (away j other) ∙ e))
    ];
  }

count-set : (table : List (Option Verdict)) (i : ℕ) (x : Verdict) → i < length table → get_or table i None ≡ None →
    known_count (slice_set table i (Some x)) ≡ suc (known_count table)
count-set [] i x h none = absurd (omega arith)
count-set (None ∷ os) zero x h none = refl
count-set (Some y ∷ os) zero x h none = absurd (let bad : Some y ≡ None = none in cc)
count-set (None ∷ os) (suc i) x h none = count-set os i x (omega arith) none
count-set (Some y ∷ os) (suc i) x h none = ap suc (count-set os i x (omega arith) none)

pub count-more : (table : List (Option Verdict)) (i : ℕ) (x : Verdict) → i < length table → in_table table i ≡ None →
    known_count table < known_count (slice_set table i (Some x))
count-more table i x h none = omega (arith, count-set table i x h none)

pub count-length : (table : List (Option Verdict)) → known_count table ≤ length table
count-length [] = omega arith
count-length (None ∷ os) = omega (arith, count-length os)
count-length (Some y ∷ os) = omega (arith, count-length os)

-- A record that keeps what it has is fixed

pub known-fixed : (book : List Row) (table : List (Option Verdict)) → IsSound book table → (i : ℕ) (x : Verdict) →
    in_table table i ≡ Some x → IsFixedAt book (in_table table) i
known-fixed book table sound i x e = e ∙ sym (sound.founded i x e)

pub past-fixed : (book : List Row) (table : List (Option Verdict)) → IsSound book table → (i : ℕ) → length book ≤ i →
    IsFixedAt book (in_table table) i
past-fixed book table sound i h =
    get_or_past table i None (let e = sound.size in omega arith)
    ∙ sym (ap (of_row (in_table table)) (slice_get_past book i h))

-- What a step does

module _ (book : List Row) (table : List (Option Verdict)) (sound : IsSound book table) (i : ℕ)
    (within : i < length book) (was found : Option Verdict) (at : was ≡ in_table table i) (none : is_some was ≡ false)
    (follows : found ≡ of_row (in_table table) (slice_get book i)) (some : is_some found ≡ true) where
  nothing-there : in_table table i ≡ None
  nothing-there = elim (cases_Option was) [
    | inl lacks ↦ sym at ∙ lacks
    | inr there ↦ absurd (let bad : true ≡ false = sym (ap is_some there.1) ∙ none in cc)
  ]

  found-some : (x : Verdict) × (found ≡ Some x)
  found-some = elim (cases_Option found) [
    | inl lacks ↦ absurd (let bad : false ≡ true = sym (ap is_some lacks) ∙ some in cc)
    | inr there ↦ there
  ]

  pub step-sound : IsSound book (slice_set table i found)
  step-sound =
      let x = found-some in
      subst (λ o. IsSound book (slice_set table i o)) (sym x.1)
      (next-sound book table sound i within x.0 nothing-there (sym follows ∙ x.1))

  pub step-more : known_count table < known_count (slice_set table i found)
  step-more =
      let x = found-some in
      let e = sound.size in
      subst (λ o. known_count table < known_count (slice_set table i o)) (sym x.1)
      (count-more table i x.0 (omega arith) nothing-there)

-- the items of a record are its row's
pub row-items : (book : List Row) (v : Known) (i : ℕ) (r : Row) (is : List RowItem) → i < length book →
    is ≡ (get_or book i r).items.items → of_items v is ≡ of_row v (slice_get book i)
row-items book v i r is within same =
    ap (of_items v) same ∙ sym (ap (of_row v) (slice_get-get_or book i r within))

-- where as many have a verdict as there are, each has one

count-full : (table : List (Option Verdict)) → length table ≤ known_count table → (i : ℕ) → i < length table →
    in_table table i ≡ None → ⊥
count-full [] h i within none = absurd (omega arith)
count-full (None ∷ os) h i within none = absurd (omega (arith, count-length os))
count-full (Some y ∷ os) h zero within none = let bad : Some y ≡ None = none in cc
count-full (Some y ∷ os) h (suc i) within none = count-full os (omega arith) i (omega arith) none

pub full-verdicts : (book : List Row) (table : List (Option Verdict)) → IsSound book table →
    length book ≤ known_count table → AreVerdicts book table
full-verdicts book table sound full = record {
  size = sound.size;
  reached = sound.reached;
  fixed = λ i. elim (cases_lt i (length book)) [
    | inl below ↦ elim (cases_Option (in_table table i)) [
      | inl none ↦ absurd (let e = sound.size in
          count-full table (omega arith) i (omega arith) none)
      | inr some ↦ known-fixed book table sound i some.0 some.1
    ]
    | inr past ↦ past-fixed book table sound i past
  ];
}
