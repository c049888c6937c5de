-- Keys of groups, and a list of keys that is added to.
use Rattle.std.proofs.Common.{◌≡◌, ◌∙◌, ◌<◌, ◌≤◌, ◌+◌, ◌&&◌, ◌⊎◌, inl, inr, ℕ, Bool, true, false, List, [], ◌∷◌, ◌++◌, Some, nat_eq, if◌then◌else◌, refl, sym, ap, subst, arith, length, get_or, slice_get, true≢false}
use Rattle.std.specs.Cmp.Lexicographic.{nat_list_eq_equiv, pointwise, same_text}
use Rattle.std.specs.List.{IsDistinct, list_any}
use Rattle.std.proofs.lemmas.Bool.{cases_Bool, cases_lt, cases_order, eq-eqb, eqb-true}
use Rattle.std.proofs.lemmas.List.{length_push}
use Rattle.std.proofs.lemmas.Map.Keys.{any_passes_from_place, apart_from_distinct}
use Rattle.std.proofs.lemmas.Option.{get_or_from_slice_get, slice_get_within}
use Rattle.indexmap.specs.IndexSet.{insert_key}
use Rattle.redo_alike.specs.contracts.graph.KindPartialEq.TheImpl.{ghosts as kinds}
use Rattle.redo_alike.specs.contracts.groups.KeyPartialEq.TheImpl.{ghosts}
use Rattle.redo_alike.specs.declared.graph.Kind.{Kind}
use Rattle.redo_alike.specs.declared.groups.Key.{Key}
use Rattle.redo_alike.specs.declared.groups.Key.TheVariants.{Own, Shared}
use Rattle.redo_alike.specs.inside.Groups.{IsSame}
use Rattle.redo_alike.proofs.ListLemmas.{get-kept, get-push}

-- ---- `==` of keys
both : (a b : Bool) → (a && b) ≡ true → (a ≡ true) × (b ≡ true)
both true b h = (refl, h)
both false b h = cc

and-true : (a b : Bool) → a ≡ true → b ≡ true → (a && b) ≡ true
and-true true b p q = q
and-true false b p q = cc

same-kind : (k l : Kind) → kinds.eq k l ≡ true → k ≡ l
same-kind k l e =
    let first = both (nat_eq k.rule l.rule) (nat_eq k.directory l.directory && nat_eq k.outcome l.outcome) e in
    let rest = both (nat_eq k.directory l.directory) (nat_eq k.outcome l.outcome) first.1 in
    let a = eqb-true k.rule l.rule first.0 in
    let b = eqb-true k.directory l.directory rest.0 in
    let c = eqb-true k.outcome l.outcome rest.1 in
    λ i. record { rule = a i; directory = b i; outcome = c i }

kind-itself : (k : Kind) → kinds.eq k k ≡ true
kind-itself k =
    and-true (nat_eq k.rule k.rule) (nat_eq k.directory k.directory && nat_eq k.outcome k.outcome) (eq-eqb k.rule k.rule refl) (
    and-true (nat_eq k.directory k.directory) (nat_eq k.outcome k.outcome) (eq-eqb k.directory k.directory refl) (eq-eqb k.outcome k.outcome refl))

pub same-key : (k l : Key) → ghosts.eq k l ≡ true → IsSame k l
same-key (Own m) (Own n) e = eqb-true m n e
same-key (Own m) (Shared kind groups) e = cc
same-key (Shared kind groups) (Own n) e = cc
same-key (Shared kind groups) (Shared other others) e =
    let parts = both (kinds.eq kind other) (pointwise nat_eq groups.items others.items) e in
    (same-kind kind other parts.0, same_text groups.items others.items (sym parts.1))

pub key-same : (k l : Key) → IsSame k l → ghosts.eq k l ≡ true
key-same (Own m) (Own n) same = eq-eqb m n same
key-same (Own m) (Shared kind groups) none = absurd none
key-same (Shared kind groups) (Own n) none = absurd none
key-same (Shared kind groups) (Shared other others) same =
    and-true (kinds.eq kind other) (pointwise nat_eq groups.items others.items)
    (subst (λ k. kinds.eq kind k ≡ true) same.0 (kind-itself kind))
    (subst (λ l. pointwise nat_eq groups.items l ≡ true) same.1 (nat_list_eq_equiv.refl groups.items))

same-back : (k l : Key) → IsSame k l → IsSame l k
same-back (Own m) (Own n) same = sym same
same-back (Own m) (Shared kind groups) none = none
same-back (Shared kind groups) (Own n) none = none
same-back (Shared kind groups) (Shared other others) same = (sym same.0, sym same.1)

-- ---- a list of keys
-- no two of distinct keys are the same
pub keys-apart : (keys : List Key) → IsDistinct ghosts.eq keys → (g h : ℕ) (key other : Key) → slice_get keys g ≡ Some key →
    slice_get keys h ≡ Some other → IsSame key other → g ≡ h
keys-apart keys distinct g h key other p q same = elim (cases_order g h) [
  | inl equal ↦ equal
  | inr rest ↦ elim rest [
    | inl below ↦ absurd (clash g h key other p q below same)
    | inr above ↦ absurd (clash h g other key q p above (same-back key other same))
  ]
]
  where
    clash : (i j : ℕ) (k l : Key) → slice_get keys i ≡ Some k → slice_get keys j ≡ Some l → i < j → IsSame k l → ⊥
    clash i j k l a b low is =
        let under : j < length keys = slice_get_within keys j l b in
        let not = apart_from_distinct ghosts.eq keys i j k distinct low under in
        let k_is : get_or keys i k ≡ k = get_or_from_slice_get keys i k k a in
        let l_is : get_or keys j k ≡ l = get_or_from_slice_get keys j l k b in
        true≢false (sym (key-same k l is) ∙ sym (ap (λ y. ghosts.eq k y) l_is) ∙ sym (ap (λ x. ghosts.eq x (get_or keys j k)) k_is) ∙ not)

-- what an insertion leaves: the keys that were there, and perhaps one behind them
pub record IsInserted (old new : List Key) (g : ℕ) : Type 0 where
  pub kept : (j : ℕ) (key : Key) → slice_get old j ≡ Some key → slice_get new j ≡ Some key
  pub one : length new ≤ length old + 1
  pub each : (j : ℕ) → j < length new → (j < length old) ⊎ (j ≡ g)

pub inserted : (old new : List Key) (value k : Key) (g : ℕ) → new ≡ insert_key ghosts.eq old value → slice_get new g ≡ Some k →
    ghosts.eq value k ≡ true → IsInserted old new g
inserted old new value k g is at same = elim (cases_Bool (list_any (ghosts.eq value) old)) [
  | inl there ↦
      let e : new ≡ old = is ∙ ap (λ b. if b then old else old ++ value ∷ []) there in
      record {
        kept = λ j key p. ap (λ l. slice_get l j) e ∙ p;
        one = let long = ap length e in omega (arith, long);
        each = λ j low. let long = ap length e in inl (omega (arith, long, low));
      }
  | inr none ↦
      let e : new ≡ old ++ value ∷ [] = is ∙ ap (λ b. if b then old else old ++ value ∷ []) none in
      let long : length new ≡ length old + 1 = ap length e ∙ length_push old value in
      record {
        kept = λ j key p. ap (λ l. slice_get l j) e ∙ get-kept old (value ∷ []) j key p;
        one = omega (arith, long);
        each = λ j low. elim (cases_lt j (length old)) [
          | inl below ↦ inl below
          | inr above ↦ elim (cases_lt g (length old)) [
            | inl in' ↦
                let old_at : slice_get old g ≡ Some k = before g in' (sym (ap (λ l. slice_get l g) e) ∙ at) in
                absurd (true≢false (sym (any_passes_from_place (ghosts.eq value) old g k old_at same) ∙ none))
            | inr out ↦
                let top : g < length new = slice_get_within new g k at in
                inr (omega (arith, long, low, above, out, top))
          ]
        ];
      }
]
  where
    before : (j : ℕ) → j < length old → slice_get (old ++ value ∷ []) j ≡ Some k → slice_get old j ≡ Some k
    before j low p = elim (get-push old value j k p) [
      | inl q ↦ q
      | inr q ↦ absurd (omega (arith, low, q.0))
    ]
