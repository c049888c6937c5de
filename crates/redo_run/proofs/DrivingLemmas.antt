-- What a list of picks leads to, as they are performed one after another.
use Rattle.std.proofs.Common.{◌≡◌, ℕ, zero, suc, ◌+◌, ◌<◌, ◌≤◌, Bool, true, false, List, [], ◌∷◌, Some, None}
use Rattle.std.proofs.Common.{Option, drop, length, refl, sym, ap, subst, arith}
use Rattle.std.specs.Prelude.{IsNone, MatchOption, slice_index_or}
use Rattle.redo_rules.specs.Build.{GivenView, rules_for}
use Rattle.redo_build.specs.Rules.{Rules}
use Rattle.redo_core.specs.Views.{BoardView, WorkView, IsFirstBoard}
use Rattle.redo_run.specs.inside.Driving.{IsPicked}
use Rattle.redo_run.specs.Picks.{Driven, IsBehind, IsDrivenOver, IsDrivenTo, driven_on, picked}
use Rattle.redo_run.specs.declared.picks.Pick.{Pick}
use Rattle.redo_run.proofs.RefusalLemmas.{running}

drop-item : (picks : List Pick) (i : ℕ) (pick : Pick) → i < length picks → pick ≡ slice_index_or picks i pick → drop i picks ≡ pick ∷ drop (i + 1) picks
drop-item [] i pick below is = absurd (omega (arith, below))
drop-item (x ∷ picks) zero pick below is = ap (λ p. p ∷ picks) (sym is)
drop-item (x ∷ picks) (suc i) pick below is = let e : suc i + 1 ≡ suc (i + 1) = omega arith in rw e (drop-item picks i pick (omega (arith, below)) is)

drop-all : (picks : List Pick) (i : ℕ) → length picks ≤ i → drop i picks ≡ []
drop-all [] zero h = refl
drop-all [] (suc i) h = refl
drop-all (x ∷ picks) zero h = absurd (omega (arith, h))
drop-all (x ∷ picks) (suc i) h = drop-all picks i (omega (arith, h))

-- a pick that was done was open
match-done : (o : Option Driven) (A : Type 0) (B C : Driven → Type 0) → ((at : Driven) → B at → C at) → MatchOption o ⊥ B → MatchOption o A C
match-done None A B C turn h = absurd h
match-done (Some at) A B C turn h = turn at h

module _ (given : GivenView) (picks : List Pick) (first : Driven) where
  -- where the picks that are left lead, all of them lead
  abbrev pub Leads : BoardView → List WorkView → ℕ → Type 0
  Leads b works i = (end : Driven) (n : ℕ) → IsDrivenTo (rules_for given) (drop i picks) (driven_on b works) end n →
      IsDrivenTo (rules_for given) picks first end (n + i)

  pub begins : (b : BoardView) (works : List WorkView) → driven_on b works ≡ first → Leads b works 0
  begins b works is end n h =
      let P : Driven → Type 0 = λ d. IsDrivenTo (rules_for given) picks d end n in
      let Q : ℕ → Type 0 = IsDrivenTo (rules_for given) picks first end in
      let e : n ≡ n + 0 = omega arith in
      subst Q e (subst P is h)

  module _ (b : BoardView) (works : List WorkView) (i : ℕ) (build : b.given ≡ given) (leads : Leads b works i) where
    module _ (c : BoardView) (more : List WorkView) (pick : Pick) (below : i < length picks) (is : pick ≡ slice_index_or picks i pick) where
      -- the next pick was done
      pub goes-on : (open_yet : Bool) → IsPicked pick b works c more open_yet → open_yet ≡ true → Leads c more (i + 1)
      goes-on open_yet was_done is_open end n h =
          let D : Bool → Type 0 = IsPicked pick b works c more in
          let done : IsPicked pick b works c more true = subst D is_open was_done in
          let r = rules_for given in
          let R : Rules → Type 0 = λ x. MatchOption (picked x (driven_on b works) pick) ⊥ (λ at. IsBehind x pick at (driven_on c more)) in
          let done' = subst R (ap rules_for build) done in
          let d = driven_on b works in let rest = drop (i + 1) picks in
          let step : IsDrivenTo r (pick ∷ rest) d end (n + 1) =
          match-done (picked r d pick) ((end ≡ d) × (n + 1 ≡ 0)) (λ at. IsBehind r pick at (driven_on c more))
          (λ at. (next : Driven) × IsBehind r pick at next × ((left : ℕ) × IsDrivenTo r rest next end left × (n + 1 ≡ left + 1)))
          (λ at behind. (driven_on c more, behind, (n, h, refl))) done' in
          let L : List Pick → Type 0 = λ ps. IsDrivenTo r ps d end (n + 1) in
          let N : ℕ → Type 0 = IsDrivenTo r picks first end in
          let e : n + 1 + i ≡ n + (i + 1) = omega arith in
          subst N e (leads end (n + 1) (subst L (sym (drop-item picks i pick below is)) step))

      -- the next pick isn't open
      stopped : IsPicked pick b works c more false → IsDrivenTo (rules_for given) picks first (driven_on b works) i
      stopped shut =
          let r = rules_for given in let d = driven_on b works in let rest = drop (i + 1) picks in
          let R : Rules → Type 0 = λ x. picked x d pick ≡ None in
          let none = subst R (ap rules_for build) shut.0 in
          let P : Option Driven → Type 0 = λ o. MatchOption o ((d ≡ d) × (◌≡◌ {A = ℕ} 0 0)) (λ at.
          (next : Driven) × IsBehind r pick at next × ((left : ℕ) × IsDrivenTo r rest next d left × (◌≡◌ {A = ℕ} 0 (left + 1)))) in
          let step : IsDrivenTo r (pick ∷ rest) d d 0 = subst P (sym none) (refl, refl) in
          let L : List Pick → Type 0 = λ ps. IsDrivenTo r ps d d 0 in
          let N : ℕ → Type 0 = IsDrivenTo r picks first d in
          let e : 0 + i ≡ i = omega arith in
          subst N e (leads d 0 (subst L (sym (drop-item picks i pick below is)) step))

    -- all picks were done
    ended : length picks ≤ i → IsDrivenTo (rules_for given) picks first (driven_on b works) i
    ended h =
        let d = driven_on b works in
        let L : List Pick → Type 0 = λ ps. IsDrivenTo (rules_for given) ps d d 0 in
        let N : ℕ → Type 0 = IsDrivenTo (rules_for given) picks first d in
        let e : 0 + i ≡ i = omega arith in
        subst N e (leads d 0 (subst L (sym (drop-all picks i h)) (refl, refl)))

-- the board of a build that was opened, and one that the picks lead to
module _ (given : GivenView) (picks : List Pick) (begun : BoardView) (opened_so : IsFirstBoard given begun) (b : BoardView) (works : List WorkView) (i : ℕ)
    (on : IsNone b.stopped) (build : b.given ≡ given) (leads : Leads given picks (driven_on begun []) b works i) where
  driven-over : IsDrivenTo (rules_for given) picks (driven_on begun []) (driven_on b works) i → IsDrivenOver given picks b i
  driven-over led = record {
    first = driven_on begun [];
    opened = record { looked = opened_so.looked; out = refl };
    end = driven_on b works;
    led = led;
    is = let none = running b.stopped on in λ j. record { given = build j; state = b.state; stopped = none j };
  }

  -- all picks were done
  pub ends : length picks ≤ i → IsDrivenOver given picks b i
  ends h = driven-over (ended given picks (driven_on begun []) b works i build leads h)

  -- the next pick isn't open
  pub stops : (c : BoardView) (more : List WorkView) (pick : Pick) (open_yet : Bool) → i < length picks → pick ≡ slice_index_or picks i pick →
      IsPicked pick b works c more open_yet → open_yet ≡ false → IsDrivenOver given picks c i
  stops c more pick open_yet below is was_done is_shut =
      let D : Bool → Type 0 = IsPicked pick b works c more in
      let shut : IsPicked pick b works c more false = subst D is_shut was_done in
      let C : BoardView → Type 0 = λ v. IsDrivenOver given picks v i in
      subst C (sym shut.1) (driven-over (stopped given picks (driven_on begun []) b works i build leads c more pick below is shut))
