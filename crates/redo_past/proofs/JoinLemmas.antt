-- Records that were built and old ones that are kept, in one order.
use Rattle.std.proofs.Common.{◌≡◌, ℕ, Bool, true, false, not, ◌⊎◌, inl, inr, List, [], ◌∷◌, ◌++◌, ◌+◌, suc, drop, filter}
use Rattle.std.proofs.Common.{append_assoc, arith, refl, sym, ap, subst, take, ◌∙◌}
use Rattle.std.proofs.lemmas.Bool.{cases_Bool}
use Rattle.std.specs.Cmp.Lexicographic.{nat_list_cmp_total, slice_cmp}
use Rattle.std.specs.List.{AllByRecursion, prefix_len}
use Rattle.std.specs.List.Sorted.{IsStrictlySortedBy}
use Rattle.std.specs.Ordering.{is_lt, nat_cmp}
use Rattle.std.specs.Str.{bytes_eq}
use Rattle.std.specs.declared.cmp.Ordering.TheVariants.{Less, Equal, Greater}
use Rattle.redo_path.proofs.ApartLemmas.{apart}
use Rattle.redo_path.proofs.PartLemmas.{AllByRecursion-append}
use Rattle.redo_book.specs.Book.{IsBook, IsRecord, Record, targets_of}
use Rattle.redo_past.specs.inside.Books.{is_before, is_behind, joined}
use Rattle.redo_past.proofs.CarryLemmas.{was-not}
use Rattle.redo_past.proofs.ItemLemmas.{IsItem, item-back, item-cases, item-front, item-kept, item-mapped, kept-item}
use Rattle.redo_past.proofs.LoopLemmas.{all-more}
use Rattle.redo_past.proofs.OrderLemmas.{IsBefore, before-all, kept-sorted, least, order, same_path}

abbrev pub AreSorted : List Record → Type 0
AreSorted rs = IsStrictlySortedBy (slice_cmp nat_cmp) (targets_of rs)

-- ---- old records before a path, and behind it

-- what stands behind one that isn't before a path isn't either
still-behind : (x y p : List ℕ) → order x y ≡ Less → is_lt (order x p) ≡ false → is_lt (order y p) ≡ false
still-behind x y p e h =
    (elim (order y p) as (λ o. order y p ≡ o → is_lt o ≡ false) [
      | Less ↦ λ f.
          let less : order x p ≡ Less = nat_list_cmp_total.trans x y p e f in
          let bad : true ≡ false = sym (ap is_lt less) ∙ h in
          apart cc
      | Equal ↦ λ f. refl
      | Greater ↦ λ f. refl
    ]) refl

module _ (path : List ℕ) where
  none-before : (x : Record) (ys : List Record) → IsBefore x.target (targets_of ys) → is_before path x ≡ false → filter (is_before path) ys ≡ []
  none-before x [] h e = refl
  none-before x (y ∷ ys) h e = rw (still-behind x.target y.target path h.0 e) (none-before x ys h.1 e)

  all-behind : (x : Record) (ys : List Record) → IsBefore x.target (targets_of ys) → is_before path x ≡ false → filter (is_behind path) ys ≡ ys
  all-behind x [] h e = refl
  all-behind x (y ∷ ys) h e = rw (still-behind x.target y.target path h.0 e) (ap (λ t. y ∷ t) (all-behind x ys h.1 e))

  -- in order, those before the path stand in front
  pub front-kept : (xs : List Record) → AreSorted xs → take (prefix_len (is_before path) xs) xs ≡ filter (is_before path) xs
  unfolding IsStrictlySortedBy
  front-kept [] s = refl
  front-kept (x ∷ xs) s = elim (cases_Bool (is_before path x)) [
    | inl t ↦
        let more : 1 + prefix_len (is_before path) xs ≡ suc (prefix_len (is_before path) xs) = omega arith in
        rw (t, more) (ap (λ rs. x ∷ rs) (front-kept xs s.1))
    | inr f ↦ rw f (sym (none-before x xs s.0 f))
  ]

  -- and the others behind them
  pub back-left : (xs : List Record) → AreSorted xs → drop (prefix_len (is_before path) xs) xs ≡ filter (is_behind path) xs
  unfolding IsStrictlySortedBy
  back-left [] s = refl
  back-left (x ∷ xs) s = elim (cases_Bool (is_before path x)) [
    | inl t ↦
        let more : 1 + prefix_len (is_before path) xs ≡ suc (prefix_len (is_before path) xs) = omega arith in
        rw (t, more) (back-left xs s.1)
    | inr f ↦ rw f (ap (λ rs. x ∷ rs) (sym (all-behind x xs s.0 f)))
  ]

-- ---- which records there are

module _ (keeps : Record → Bool) where
  pub joined-item : (built old : List Record) (r : Record) → IsItem (joined keeps built old) r → IsItem built r ⊎ (IsItem old r × (keeps r ≡ true))
  joined-item [] old r m = inr (kept-item keeps old r m)
  joined-item (b ∷ bs) old r m =
      elim (item-cases (filter keeps (filter (is_before b.target) old)) (b ∷ joined keeps bs (filter (is_behind b.target) old)) r m) [
        | inl front ↦
            let k = kept-item keeps (filter (is_before b.target) old) r front in
            inr ((kept-item (is_before b.target) old r k.0).0, k.1)
        | inr back ↦ elim back [
          | inl here ↦ inl (inl here)
          | inr later ↦ elim (joined-item bs (filter (is_behind b.target) old) r later) [
            | inl of ↦ inl (inr of)
            | inr kept ↦ inr ((kept-item (is_behind b.target) old r kept.0).0, kept.1)
          ]
        ]
      ]

  pub item-of-built : (built old : List Record) (r : Record) → IsItem built r → IsItem (joined keeps built old) r
  item-of-built [] old r m = absurd m
  item-of-built (b ∷ bs) old r m =
      item-back (filter keeps (filter (is_before b.target) old)) (b ∷ joined keeps bs (filter (is_behind b.target) old)) r (elim m [
        | inl here ↦ inl here
        | inr later ↦ inr (item-of-built bs (filter (is_behind b.target) old) r later)
      ])

  pub item-of-old : (built old : List Record) (r : Record) → IsItem old r → keeps r ≡ true → IsItem (joined keeps built old) r
  item-of-old [] old r m k = item-kept keeps old r m k
  item-of-old (b ∷ bs) old r m k = elim (cases_Bool (is_before b.target r)) [
    | inl t ↦
        item-front (filter keeps (filter (is_before b.target) old)) (b ∷ joined keeps bs (filter (is_behind b.target) old)) r
        (item-kept keeps (filter (is_before b.target) old) r (item-kept (is_before b.target) old r m t) k)
    | inr f ↦
        item-back (filter keeps (filter (is_before b.target) old)) (b ∷ joined keeps bs (filter (is_behind b.target) old)) r
        (inr (item-of-old bs (filter (is_behind b.target) old) r (item-kept (is_behind b.target) old r m (ap not f)) k))
  ]

-- ---- their order

-- what holds of each target holds of all
before-items : (p : List ℕ) (rs : List Record) → ((r : Record) → IsItem rs r → order p r.target ≡ Less) → IsBefore p (targets_of rs)
before-items p [] h = tt
before-items p (r ∷ rs) h = (h r (inl refl), before-items p rs (λ q m. h q (inr m)))

-- lists in order, of which one stands before the other
sorted-both : (xs ys : List Record) → AreSorted xs → AreSorted ys → ((x y : Record) → IsItem xs x → IsItem ys y → order x.target y.target ≡ Less) → AreSorted (xs ++ ys)
unfolding IsStrictlySortedBy
sorted-both [] ys s t h = t
sorted-both (x ∷ xs) ys s t h = (
  before-items x.target (xs ++ ys) (λ r m. elim (item-cases xs ys r m) [
    | inl front ↦ before-all x.target r.target (targets_of xs) s.0 (item-mapped (λ (q : Record). q.target) xs r front)
    | inr back ↦ h x r (inl refl) back
  ]),
  sorted-both xs ys s.1 t (λ a b m n. h a b (inr m) n),
)

is-less : (p q : List ℕ) → is_lt (order p q) ≡ true → order p q ≡ Less
is-less p q h =
    (elim (order p q) as (λ o. is_lt o ≡ true → o ≡ Less) [
      | Less ↦ λ e. refl
      | Equal ↦ λ e. apart cc
      | Greater ↦ λ e. apart cc
    ]) h

other : (p q : List ℕ) → (p ≡ q → ⊥) → bytes_eq p q ≡ false
other p q n = elim (cases_Bool (bytes_eq p q)) [
  | inl t ↦ absurd (n (same_path p q t))
  | inr f ↦ f
]

module _ (keeps : Record → Bool) where
  -- no old record that is kept has the target of one that was built
  abbrev pub AreApart : List Record → List Record → Type 0
  AreApart built old = (b r : Record) → IsItem built b → IsItem old r → keeps r ≡ true → r.target ≡ b.target → ⊥

  pub joined-sorted : (built old : List Record) → AreSorted built → AreSorted old → AreApart built old → AreSorted (joined keeps built old)
  unfolding IsStrictlySortedBy
  joined-sorted [] old s t n = kept-sorted (λ (r : Record). r.target) keeps old t
  joined-sorted (b ∷ bs) old s t n =
      let front = filter keeps (filter (is_before b.target) old) in
      let others = filter (is_behind b.target) old in
      let rest = joined keeps bs others in
      let key : Record → List ℕ = λ r. r.target in
      let fewer : AreApart bs others = λ a r m k. n a r (inr m) (kept-item (is_behind b.target) old r k).0 in
      let behind : (r : Record) → IsItem rest r → order b.target r.target ≡ Less = λ r m. elim (joined-item keeps bs others r m) [
        | inl of ↦ before-all b.target r.target (targets_of bs) s.0 (item-mapped key bs r of)
        | inr kept ↦
            let k = kept-item (is_behind b.target) old r kept.0 in
            least b.target r.target (was-not (is_before b.target r) k.1) (other r.target b.target (n b r (inl refl) k.0 kept.1))
      ] in
      let less : (r : Record) → IsItem front r → order r.target b.target ≡ Less = λ r m.
      let k = kept-item keeps (filter (is_before b.target) old) r m in
      is-less r.target b.target (kept-item (is_before b.target) old r k.0).1 in
      sorted-both front (b ∷ rest) (kept-sorted key keeps (filter (is_before b.target) old) (kept-sorted key (is_before b.target) old t))
      (before-items b.target rest behind, joined-sorted bs others s.1 (kept-sorted key (is_behind b.target) old t) fewer)
      (λ x y m k. elim k [
        | inl here ↦ subst (λ (q : Record). order x.target q.target ≡ Less) here (less x m)
        | inr later ↦ nat_list_cmp_total.trans x.target b.target y.target (less x m) (behind y later)
      ])

-- ---- one step of the loop

pub all-kept : {X : Type 0} (P : X → Type 0) (p : X → Bool) (xs : List X) → AllByRecursion P xs → AllByRecursion P (filter p xs)
all-kept P p [] h = tt
all-kept P p (x ∷ xs) h = elim (cases_Bool (p x)) [
  | inl t ↦ rw t (h.0, all-kept P p xs h.1)
  | inr f ↦ rw f (all-kept P p xs h.1)
]

-- a part of a book is one
pub kept-book : (p : Record → Bool) (rs : List Record) → IsBook rs → IsBook (filter p rs)
kept-book p rs h = record {
  records = all-kept IsRecord p rs h.records;
  sorted = kept-sorted (λ (r : Record). r.target) p rs h.sorted;
}

-- and so is what stands behind its first record
pub rest-book : (r : Record) (rs : List Record) → IsBook (r ∷ rs) → IsBook rs
unfolding IsStrictlySortedBy
rest-book r rs h = record { records = h.records.1; sorted = h.sorted.1 }

module _ (keeps : Record → Bool) where
  -- an old record that isn't kept may be passed over
  pub joined-skip : (built : List Record) (r : Record) (old : List Record) → keeps r ≡ false → joined keeps built old ≡ joined keeps built (r ∷ old)
  joined-skip [] r old k = rw k refl
  joined-skip (b ∷ bs) r old k = elim (cases_Bool (is_before b.target r)) [
    | inl t ↦ rw (t, k) refl
    | inr f ↦
        let rest : joined keeps bs (filter (is_behind b.target) old) ≡ joined keeps bs (r ∷ filter (is_behind b.target) old) = joined-skip bs r (filter (is_behind b.target) old) k in
        rw f (ap (λ l. filter keeps (filter (is_before b.target) old) ++ b ∷ l) rest)
  ]

  -- what was written, with the old records before the next target and its own, and what is left then
  pub join-step : (done : List Record) (r : Record) (rest built old left all : List Record) → built ≡ r ∷ rest → left ≡ filter (is_behind r.target) old → done ++ joined keeps built old ≡ all → ((done ++ filter keeps (filter (is_before r.target) old)) ++ r ∷ []) ++ joined keeps rest left ≡ all
  join-step done r rest built old left all split behind was =
      let front = filter keeps (filter (is_before r.target) old) in
      append_assoc (done ++ front) (r ∷ []) (joined keeps rest left) ∙ append_assoc done front (r ∷ joined keeps rest left)
      ∙ ap (λ o. done ++ (front ++ r ∷ joined keeps rest o)) behind ∙ ap (λ b. done ++ joined keeps b old) (sym split) ∙ was

  -- where nothing that was built is left
  pub join-end : (done built old all : List Record) → built ≡ [] → done ++ joined keeps built old ≡ all → done ++ filter keeps old ≡ all
  join-end done built old all none was = ap (λ b. done ++ joined keeps b old) (sym none) ∙ was

  -- each of them is a record
  pub step-records : (done : List Record) (r : Record) (old : List Record) → AllByRecursion IsRecord done → IsBook old → IsRecord r → AllByRecursion IsRecord ((done ++ filter keeps (filter (is_before r.target) old)) ++ r ∷ [])
  step-records done r old each book is =
      all-more IsRecord (done ++ filter keeps (filter (is_before r.target) old)) r
      (AllByRecursion-append IsRecord done (filter keeps (filter (is_before r.target) old)) each
      (kept-book keeps (filter (is_before r.target) old) (kept-book (is_before r.target) old book)).records) is

  -- and so at the end
  pub last-records : (done old : List Record) → AllByRecursion IsRecord done → IsBook old → AllByRecursion IsRecord (done ++ filter keeps old)
  last-records done old each book = AllByRecursion-append IsRecord done (filter keeps old) each (kept-book keeps old book).records
