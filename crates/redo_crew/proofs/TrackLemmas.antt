-- Each look and each step keeps the rule of the word.
use Rattle.std.proofs.Common.{◌≡◌, ℕ, ◌+◌, zero, suc, eqb, true, false, true≢false, List, [], ◌∷◌, ◌++◌, get_or, set, length-set, get_or-set_same, eq-eqb, ne_eqb, sym, refl, ap, ◌∙◌, subst, arith}
use mathlib.Core.Logic.{dite}
use mathlib.Core.Option.{some, some-injective, some-ne-none}
use lib.ListN.{get_elem?}
use native.Mathlib.Decide.{ℕ_discrete}
use prog.Atomic.{either}
use Rattle.atomic_table.specs.Table.{State, Me, step, stepped, keeps, Allows, Splits, opening}
use Rattle.redo_crew.specs.declared.counts.Counts.{Counts}
use Rattle.redo_crew.specs.declared.counts.Step.{Step}
use Rattle.redo_crew.specs.declared.counts.Step.TheVariants.{Spare, Call, Hire, Claim, Take, Rest, Wake, Return, End}
use Rattle.redo_crew.specs.declared.word.Steps.{Steps}
use Rattle.redo_crew.specs.declared.word.Track.{Track}
use Rattle.redo_crew.specs.Word.{IsKept, IsOpen, after, counts_of}
use Rattle.redo_crew.specs.Word as word
use Rattle.redo_crew.specs.Tracks.{IsRecorded, IsMadeBy, HasSeen, HasTried, all, fresh, no_steps, plus, took}

one_left : (a b : ℕ) → a + 1 + b ≡ a + b + 1
one_left a b = omega arith

one_right : (a b : ℕ) → a + (b + 1) ≡ a + b + 1
one_right a b = omega arith

pub plus_took : (by : Step) (a b : Steps) → plus (took by a) b ≡ took by (plus a b)
plus_took Spare a b = ap (λ (n : ℕ). record (plus a b) { spare = n }) (one_left a.spare b.spare)
plus_took Call a b = ap (λ (n : ℕ). record (plus a b) { call = n }) (one_left a.call b.call)
plus_took Hire a b = ap (λ (n : ℕ). record (plus a b) { hire = n }) (one_left a.hire b.hire)
plus_took Claim a b = ap (λ (n : ℕ). record (plus a b) { claim = n }) (one_left a.claim b.claim)
plus_took Take a b = ap (λ (n : ℕ). record (plus a b) { take = n }) (one_left a.take b.take)
plus_took Rest a b = ap (λ (n : ℕ). record (plus a b) { rest = n }) (one_left a.rest b.rest)
plus_took Wake a b = ap (λ (n : ℕ). record (plus a b) { wake = n }) (one_left a.wake b.wake)
plus_took Return a b = ap (λ (n : ℕ). record (plus a b) { back = n }) (one_left a.back b.back)
plus_took End a b = ap (λ (n : ℕ). record (plus a b) { end = n }) (one_left a.end b.end)

plus_took_right : (by : Step) (a b : Steps) → plus a (took by b) ≡ took by (plus a b)
plus_took_right Spare a b = ap (λ (n : ℕ). record (plus a b) { spare = n }) (one_right a.spare b.spare)
plus_took_right Call a b = ap (λ (n : ℕ). record (plus a b) { call = n }) (one_right a.call b.call)
plus_took_right Hire a b = ap (λ (n : ℕ). record (plus a b) { hire = n }) (one_right a.hire b.hire)
plus_took_right Claim a b = ap (λ (n : ℕ). record (plus a b) { claim = n }) (one_right a.claim b.claim)
plus_took_right Take a b = ap (λ (n : ℕ). record (plus a b) { take = n }) (one_right a.take b.take)
plus_took_right Rest a b = ap (λ (n : ℕ). record (plus a b) { rest = n }) (one_right a.rest b.rest)
plus_took_right Wake a b = ap (λ (n : ℕ). record (plus a b) { wake = n }) (one_right a.wake b.wake)
plus_took_right Return a b = ap (λ (n : ℕ). record (plus a b) { back = n }) (one_right a.back b.back)
plus_took_right End a b = ap (λ (n : ℕ). record (plus a b) { end = n }) (one_right a.end b.end)

-- a thread that took no step changes nothing
same_set : (views : List Track) (id : ℕ) (v w : Track) → get_elem? views id ≡ some v → w.steps ≡ v.steps → all (set views id w) ≡ all views
same_set [] id v w at e = refl
same_set (x ∷ xs) zero v w at e =
    ap (λ (s : Steps). plus s (all xs)) (e ∙ ap (λ (t : Track). t.steps) (sym (some-injective x v at)))
same_set (x ∷ xs) (suc id) v w at e = ap (plus x.steps) (same_set xs id v w at e)

-- a thread that took a step is one step more
took_set : (by : Step) (views : List Track) (id : ℕ) (v w : Track) → get_elem? views id ≡ some v → w.steps ≡ took by v.steps →
    all (set views id w) ≡ took by (all views)
took_set by [] id v w at e = absurd (some-ne-none v (sym at))
took_set by (x ∷ xs) zero v w at e =
    ap (λ (s : Steps). plus s (all xs)) (e ∙ ap (λ (t : Track). took by t.steps) (sym (some-injective x v at)))
    ∙ plus_took by x.steps (all xs)
took_set by (x ∷ xs) (suc id) v w at e =
    ap (plus x.steps) (took_set by xs id v w at e) ∙ plus_took_right by x.steps (all xs)

-- a thread that has done nothing adds nothing
all_snoc : (views : List Track) → all (views ++ fresh ∷ []) ≡ all views
all_snoc [] = refl
all_snoc (x ∷ xs) = ap (plus x.steps) (all_snoc xs)

-- each step changes the word as it changes what is made of the steps
pub made_by : (by : Step) (workers : ℕ) (c : Counts) (s : Steps) → IsOpen by c → IsKept c → IsMadeBy workers c s →
    IsMadeBy workers (after by c) (took by s)
made_by Spare workers c s o k m = record { waiting = omega (arith, m.waiting); looking = m.looking; asleep = m.asleep; calls = m.calls; holding = m.holding; unborn = m.unborn; over = m.over; going = m.going }
made_by Call workers c s o k m = record { waiting = omega (arith, m.waiting); looking = m.looking; asleep = m.asleep; calls = omega (arith, m.calls); holding = m.holding; unborn = m.unborn; over = m.over; going = m.going }
made_by Hire workers c s o k m = let some = o.1.3 in record { waiting = omega (arith, m.waiting); looking = omega (arith, m.looking); asleep = m.asleep; calls = m.calls; holding = m.holding; unborn = omega (arith, m.unborn, some); over = m.over; going = m.going }
made_by Claim workers c s o k m = let some = o.1 in record { waiting = omega (arith, m.waiting, some); looking = m.looking; asleep = m.asleep; calls = m.calls; holding = m.holding; unborn = m.unborn; over = m.over; going = m.going }
made_by Take workers c s o k m = let waits = o.1.0 in let looks = o.1.1 in record { waiting = omega (arith, m.waiting, waits); looking = omega (arith, m.looking, looks); asleep = m.asleep; calls = m.calls; holding = omega (arith, m.holding); unborn = m.unborn; over = m.over; going = m.going }
made_by Rest workers c s o k m = let looks = o.1.1 in record { waiting = m.waiting; looking = omega (arith, m.looking, looks); asleep = omega (arith, m.asleep); calls = m.calls; holding = m.holding; unborn = m.unborn; over = m.over; going = m.going }
made_by Wake workers c s o k m = let called = o.1 in let few = k.calls in record { waiting = m.waiting; looking = omega (arith, m.looking); asleep = omega (arith, m.asleep, called, few); calls = omega (arith, m.calls, called); holding = m.holding; unborn = m.unborn; over = m.over; going = m.going }
made_by Return workers c s o k m = let some = o.1 in record { waiting = m.waiting; looking = omega (arith, m.looking); asleep = m.asleep; calls = m.calls; holding = omega (arith, m.holding, some); unborn = m.unborn; over = m.over; going = m.going }
made_by End workers c s o k m = record { waiting = m.waiting; looking = m.looking; asleep = m.asleep; calls = m.calls; holding = m.holding; unborn = m.unborn; over = (λ e. omega arith); going = (λ e. absurd (true≢false e)) }

-- the first word
pub begins : (workers w : ℕ) → counts_of w ≡ word.first workers → IsKept (word.first workers) →
    IsRecorded workers (opening (w ∷ []) [] fresh)
begins workers w e k = (
  refl,
  subst IsKept (sym e) k,
  subst (λ (c : Counts). IsMadeBy workers c no_steps) (sym e)
      record { waiting = refl; looking = refl; asleep = refl; calls = refl; holding = refl; unborn = omega arith; over = (λ x. absurd (true≢false (sym x))); going = (λ x. refl) },
)

abbrev at_word : ℕ → State Step Track → ℕ → List Track → Type 0
at_word workers s n views = IsKept (counts_of n) × IsMadeBy workers (counts_of n) (all views)

placed : (workers : ℕ) (s : State Step Track) → IsRecorded workers s → (n id : ℕ) (me : Me Step Track) (w : Track) →
    at_word workers s n (set s.views id w) → IsRecorded workers (stepped s 0 n id me.1 w keeps)
placed workers s r n id me w h =
    let one = r.0 in
    let there : get_or (set s.words 0 n) 0 0 ≡ n = get_or-set_same s.words 0 n 0 (omega (arith, one)) in (
      length-set s.words 0 n ∙ one,
      subst (λ (z : ℕ). IsKept (counts_of z)) (sym there) h.0,
      subst (λ (z : ℕ). IsMadeBy workers (counts_of z) (all (set s.views id w))) (sym there) h.1,
    )

unmoved : (workers : ℕ) (s : State Step Track) → IsRecorded workers s → (id : ℕ) (me : Me Step Track) (w : Track) →
    get_elem? s.views id ≡ some me.0 → w.steps ≡ me.0.steps →
    IsRecorded workers (stepped s 0 (get_or s.words 0 0) id me.1 w keeps)
unmoved workers s r id me w at e =
    placed workers s r (get_or s.words 0 0) id me w
    (r.1, subst (IsMadeBy workers (counts_of (get_or s.words 0 0))) (sym (same_set s.views id me.0 w at e)) r.2)

pub looks : (workers slots id : ℕ) (me : Me Step Track) →
    Allows (IsRecorded workers) slots id me 0 (λ n. n) (HasSeen (step slots 0 0 0 mathlib.Core.Option.none) me)
looks workers slots id me s r len at bound =
    let w : Track = record { steps = me.0.steps; looks = me.0.looks + 1; last = get_or s.words 0 0 } in
    (w, keeps, tt, unmoved workers s r id me w at refl, (refl, r.1))

pub tries : (by : Step) (workers slots id seen new : ℕ) (me : Me Step Track) → IsKept (counts_of seen) → IsOpen by (counts_of seen) →
    counts_of new ≡ after by (counts_of seen) → IsKept (after by (counts_of seen)) →
    Allows (IsRecorded workers) slots id me 0 (λ n. either (eqb n seen) new n) (HasTried (step slots 0 seen new (some by)) me)
tries by workers slots id seen new me k o e kept s r len at bound =
    let x : ℕ = get_or s.words 0 0 in
    dite (ℕ_discrete x seen)
    (λ hit.
    let w : Track = record { steps = took by me.0.steps; looks = me.0.looks; last = x } in
    let made : IsMadeBy workers (counts_of seen) (all s.views) = subst (λ (z : ℕ). IsMadeBy workers (counts_of z) (all s.views)) hit r.2 in
    let next : IsMadeBy workers (counts_of new) (all (set s.views id w)) =
    subst (IsMadeBy workers (counts_of new)) (sym (took_set by s.views id me.0 w at refl))
    (subst (λ (c : Counts). IsMadeBy workers c (took by (all s.views))) (sym e) (made_by by workers (counts_of seen) (all s.views) o k made)) in (
      w,
      keeps,
      tt,
      subst (λ b. IsRecorded workers (stepped s 0 (either b new x) id me.1 w keeps)) (sym (eq-eqb x seen hit))
          (placed workers s r new id me w (subst IsKept (sym e) kept, next)),
      ((λ found. refl), λ miss. absurd (miss hit)),
    ))
    (λ miss. (
      me.0,
      keeps,
      tt,
      subst (λ b. IsRecorded workers (stepped s 0 (either b new x) id me.1 me.0 keeps)) (sym (ne_eqb x seen miss))
          (unmoved workers s r id me me.0 at refl),
      ((λ found. absurd (miss found)), λ not. refl),
    ))

pub joins : (workers id : ℕ) (v : Track) → Splits (IsRecorded workers) id v v fresh
joins workers id v s r at = (
  r.0,
  r.1,
  subst (IsMadeBy workers (counts_of (get_or s.words 0 0))) (sym (all_snoc (set s.views id v) ∙ same_set s.views id v v at refl)) r.2,
)
