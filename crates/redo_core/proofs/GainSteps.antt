-- Facts that are taken over from the table.
use Rattle.std.proofs.Common.{◌≡◌, ℕ, ◌+◌, List, Bool, Some, None, true, false, cond, inl, inr, slice_get, refl, sym}
use Rattle.std.proofs.Common.{ap, subst, ◌∙◌, arith, bytes_eq, Global, [], ◌∷◌, ◌++◌, Option}
use Rattle.std.specs.Map.{lookup}
use Rattle.std.proofs.lemmas.List.{append_assoc}
use Rattle.std.proofs.lemmas.Bool.{cases_Bool, cases_lt}
use Rattle.std.proofs.lemmas.Slice.Eq.{bytes_eq-Decides}
use Rattle.redo_sync.specs.Shown.{Shown}
use Rattle.redo_core.specs.Views.{FactView}
use Rattle.redo_record.specs.declared.outcome.Outcome.{Outcome}
use Rattle.redo_core.specs.inside.Works.{told_in, few_known, entries_known, more_known, AddsFact}
use Rattle.std.specs.declared.vec.Vec.{Vec}
use Rattle.redo_core.specs.inside.Slots.{is_stage_decided, is_stage_out, IsFactAt, GainsOne, GainsBelow, Table, Slot}
use Rattle.redo_core.specs.inside.Slots.{Stage, Out, Decided}
use Rattle.redo_core.specs.declared.facts.Facts.{Facts}
use Rattle.redo_core.proofs.FactLemmas.{insert-told, first_of, lookup-append, map-push, either-way}
use Rattle.redo_build.proofs.DepthLemmas.{cases_Option}
use Rattle.redo_core.proofs.NumberLemmas.{same-some}

pub decided-fact : (stage : Stage) → is_stage_decided stage ≡ true → (fact : Shown FactView) × (stage ≡ Decided fact)
decided-fact (Decided f) h = (f, refl)
decided-fact _ h = cc

-- a fact that was put to the others, behind some of them
pub adds-fact : (fact : FactView) (old new : Facts) (ks ms : List (List ℕ × Outcome)) → new.asked ≡ old.asked →
    ((q : List ℕ) → told_in old q ≡ first_of (lookup (bytes_eq q) ks) (lookup (bytes_eq q) ms)) →
    ((q : List ℕ) → told_in new q ≡ first_of (lookup (bytes_eq q) ks) (cond (bytes_eq fact.target q) (Some fact.outcome) (lookup (bytes_eq q) ms))) →
    AddsFact fact old new
adds-fact fact old new ks ms asked was now = record {
  asked = asked;
  kept = λ q none. elim (cases_Option (lookup (bytes_eq q) ks)) [
    | inl no_few ↦ elim (cases_Bool (bytes_eq fact.target q)) [
      | inl yes' ↦ absurd (let known = now q in let bad = sym (rw (no_few, yes') at known) ∙ none in cc)
      | inr no' ↦ let known = now q in let before = was q in rw no_few at before ∙ sym (rw (no_few, no') at known) ∙ none
    ]
    | inr some ↦ absurd (let known = now q in let bad = sym (rw some.1 at known) ∙ none in cc)
  ];
  origin = λ q o h. elim (cases_Option (lookup (bytes_eq q) ks)) [
    | inl no_few ↦ elim (cases_Bool (bytes_eq fact.target q)) [
      | inl yes' ↦
          let known = now q in
          let both : Some fact.outcome ≡ Some o = sym (rw (no_few, yes') at known) ∙ h in
          inr ((bytes_eq-Decides fact.target q).0 yes', (cc))
      | inr no' ↦ let known = now q in let before = was q in inl (rw no_few at before ∙ sym (rw (no_few, no') at known) ∙ h)
    ]
    | inr some ↦ let known = now q in let before = was q in inl (rw some.1 at before ∙ sym (rw some.1 at known) ∙ h)
  ];
  known = λ none.
      let yes' : bytes_eq fact.target fact.target ≡ true = (bytes_eq-Decides fact.target fact.target).1 refl in
      let known = now fact.target in
      elim (cases_Option (lookup (bytes_eq fact.target) ks)) [
        | inl no_few ↦ let bad = sym (rw (no_few, yes') at known) ∙ none in cc
        | inr some ↦ let bad = sym (rw some.1 at known) ∙ none in cc
      ];
}

first-alone : (a : Option Outcome) → first_of a None ≡ a
first-alone None = refl
first-alone (Some o) = refl

put-first : (b : Bool) (o : Outcome) (x y : Option Outcome) → first_of (cond b (Some o) x) y ≡ cond b (Some o) (first_of x y)
put-first true o x y = refl
put-first false o x y = refl

pub adds-few : (fact : Shown FactView) (old new : Facts) → new.asked ≡ old.asked → more_known new.more ≡ more_known old.more → new.few.items ≡ old.few.items ++ fact ∷ [] →
    AddsFact fact.value old new
adds-few fact old new asked more few =
    let key = fact.value.target in
    let outcome = fact.value.outcome in
    let ks = few_known old.few.items in
    let ms = more_known old.more in
    let both = ap few_known few ∙ map-push old.few.items fact in
    adds-fact fact.value old new (ms ++ ks) [] asked
    (λ q. sym (first-alone (lookup (bytes_eq q) (ms ++ ks))))
    (λ q. ap (λ xs. lookup (bytes_eq q) (more_known new.more ++ xs)) both ∙ ap (λ xs. lookup (bytes_eq q) (xs ++ (ks ++ (key, outcome) ∷ []))) more ∙
    ap (lookup (bytes_eq q)) (sym (append_assoc ms ks ((key, outcome) ∷ []))) ∙ lookup-append (bytes_eq q) (ms ++ ks) ((key, outcome) ∷ []) ∙
    ap (λ b. first_of (lookup (bytes_eq q) (ms ++ ks)) (cond b (Some outcome) None)) (either-way key q))

pub adds-more : (fact : Shown FactView) (old new : Facts) → new.asked ≡ old.asked → new.few ≡ old.few →
    ((q : List ℕ) → lookup (bytes_eq q) (more_known new.more) ≡ cond (bytes_eq fact.value.target q) (Some fact.value.outcome) (lookup (bytes_eq q) (more_known old.more))) →
    AddsFact fact.value old new
adds-more fact old new asked few more =
    let key = fact.value.target in
    let outcome = fact.value.outcome in
    let ks = few_known old.few.items in
    let ms = more_known old.more in
    adds-fact fact.value old new [] (ms ++ ks) asked (λ q. refl)
    (λ q. ap (λ (v : Vec (Shown FactView) Global). lookup (bytes_eq q) (more_known new.more ++ few_known v.items)) few ∙ lookup-append (bytes_eq q) (more_known new.more) ks ∙
    ap (λ a. first_of a (lookup (bytes_eq q) ks)) (more q) ∙ put-first (bytes_eq key q) outcome (lookup (bytes_eq q) ms) (lookup (bytes_eq q) ks) ∙
    ap (cond (bytes_eq key q) (Some outcome)) (sym (lookup-append (bytes_eq q) ms ks)))

pub more-told : (fact : Shown FactView) (key : List ℕ) → key ≡ fact.value.target → (ms : List (List ℕ × Outcome)) (old new : List (List ℕ × Shown FactView)) →
    ms ≡ entries_known old → ((q : List ℕ) → lookup (bytes_eq q) new ≡ cond (bytes_eq key q) (Some fact) (lookup (bytes_eq q) old)) →
    (q : List ℕ) → lookup (bytes_eq q) (entries_known new) ≡ cond (bytes_eq fact.value.target q) (Some fact.value.outcome) (lookup (bytes_eq q) ms)
more-told fact key same ms old new is updates q =
    let out : Option Outcome = Some fact.value.outcome in
    insert-told old new key fact updates q ∙ ap (λ k. cond (bytes_eq k q) out (lookup (bytes_eq q) (entries_known old))) same ∙
    ap (λ xs. cond (bytes_eq fact.value.target q) out (lookup (bytes_eq q) xs)) (sym is)

pub same-fact : (t : Table) (n : ℕ) (f g : Shown FactView) → IsFactAt t n f → IsFactAt t n g → f ≡ g
same-fact t n f g a b =
    let slot : a.0 ≡ b.0 = same-some _ _ _ a.1 b.1 in
    let stages : Decided f ≡ Decided g = sym a.2 ∙ ap (λ (y : Slot). y.stage) slot ∙ b.2 in
    cc

-- one number more
pub gains-step : (t : Table) (ns : List ℕ) (old mid new : Facts) (i n : ℕ) → slice_get ns i ≡ Some n →
    GainsBelow t ns old mid i → GainsOne t n mid new → GainsBelow t ns old new (i + 1)
gains-step t ns old mid new i n get before one = record {
  asked = one.2.asked ∙ before.asked;
  kept = λ q none. before.kept q (one.2.kept q none);
  origin = λ q o h. elim (one.2.origin q o h) [
    | inl m ↦ before.origin q o m
    | inr d ↦ inr (record { k = i; n = n; fact = one.0; number = get; there = one.1; target = d.0; outcome = d.1 })
  ];
  known = λ k m fact below at there none. elim (cases_lt k i) [
    | inl earlier ↦ before.known k m fact earlier at there (one.2.kept fact.value.target none)
    | inr now ↦
        let same : k ≡ i = omega (arith, below, now) in
        let P : ℕ → Type 0 = λ j. slice_get ns j ≡ Some m in
        let is : m ≡ n = same-some _ _ _ (subst P same at) get in
        let Q : ℕ → Type 0 = λ j. IsFactAt t j fact in
        let it = same-fact t n fact one.0 (subst Q is there) one.1 in
        let N : Shown FactView → Type 0 = λ f. told_in new f.value.target ≡ None in
        one.2.known (subst N it none)
  ];
}

pub out-stage : (stage : Stage) → is_stage_out stage ≡ true → stage ≡ Out
out-stage Out h = refl
out-stage _ h = cc
