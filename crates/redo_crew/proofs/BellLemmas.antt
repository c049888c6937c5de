-- The machine with its bell: each call is one ring, the end is one for each other sleeper, and no ring is lost.
use Rattle.std.proofs.Common.{◌≡◌, ℕ, Bool, ◌+◌, ◌*◌, ◌-◌, ◌<◌, ◌≤◌, ◌⊎◌, inl, inr, true, false, true≢false, List, [], ◌∷◌, length, ap, refl, subst, ◌∙◌, sym, arith}
use Rattle.redo_crew.specs.Word.{IsKept, most_workers}
use Rattle.redo_crew.specs.Runs.{Stage, State, Move, IsAt, CanMove, Leads, IsOwn, moved}
use Rattle.redo_crew.specs.Runs.Stage.{Decides, Gave, Hires, Claims, Advances, Stops, Ended}
use Rattle.redo_crew.specs.Runs.Move.{Give, Spare, Call, Hire, Start, Keep, Claim, Pick_up, Hand_in, Receive, Stop, Break, Close, Take, Steal, Send, Return, Rest, Wake, Leave}
use Rattle.redo_crew.specs.Bell.{Belled, Act, Asks, CanAct, owed_after, acted, Brings, moves_of, opened, IsOwnAct, bell_cost, unrung}
use Rattle.redo_crew.specs.Bell.Act.{Own, Ring, Hear, Part}
use Rattle.redo_crew.proofs.RunLemmas.{at, zero_or}
use Rattle.redo_crew.proofs.BoundLemmas.{less}
use Rattle.redo_crew.proofs.CountLemmas.{few_called}
use Rattle.redo_crew.proofs.KeptLemmas.{word_keeps}
use Rattle.redo_crew.proofs.OverLemmas.{is_over, told}
use Rattle.redo_crew.proofs.StuckLemmas.{stuck}

pub leads : (most : ℕ) (acts : List Act) (b c : Belled) → Brings most acts b c → Leads most (moves_of acts) b.state c.state
leads most [] b c l = ap (λ x. x.state) l
leads most (Own move ∷ acts) b c l = (l.0.0, leads most acts (acted (Own move) b) c l.1)
leads most (Ring ∷ acts) b c l = leads most acts (acted Ring b) c l.1
leads most (Hear ∷ acts) b c l = leads most acts (acted Hear b) c l.1
leads most (Part ∷ acts) b c l = (l.0.0, leads most acts (acted Part b) c l.1)

leaves_at_end : (most : ℕ) (stage : Stage) (s : State) → IsAt most Leave stage s → is_over stage ≡ true
leaves_at_end most Stops s h = refl
leaves_at_end most _ s h = absurd h

-- the owner ends a run once
not_over : (most : ℕ) (stage : Stage) (s : State) → IsAt most Break stage s → is_over stage ≡ false
not_over most Decides s h = refl
not_over most Gave s h = refl
not_over most Hires s h = refl
not_over most Claims s h = refl
not_over most Advances s h = refl
not_over most Stops s h = absurd h
not_over most Ended s h = absurd h

not_over_yet : (most : ℕ) (stage : Stage) (s : State) → IsAt most Stop stage s → is_over stage ≡ false
not_over_yet most Decides s h = refl
not_over_yet most _ s h = absurd h

calls_on : (most : ℕ) (stage : Stage) (s : State) → IsAt most Call stage (at stage s) → s.word.over ≡ false
calls_on most Gave s h = h.1.0
calls_on most _ s h = absurd h

-- The rings that are owed, in the channel and heard: until the end one for each call, and then one for each sleeper that
-- hasn't left.
abbrev Matches : Belled → Type 0
Matches b =
    (b.state.word.over ≡ is_over b.state.stage)
    × (b.state.word.calls ≤ b.state.word.asleep)
    × (b.state.word.over ≡ false → (b.state.word.calls ≡ b.owed + b.rings + b.heard) × (b.gone ≡ 0))
    × (b.state.word.over ≡ true → b.state.word.asleep ≡ b.owed + b.rings + b.heard + b.gone)

abbrev Going : Belled → Type 0
Going b = b.state.word.over ≡ false → (b.state.word.calls ≡ b.owed + b.rings + b.heard) × (b.gone ≡ 0)

abbrev Over : Belled → Type 0
Over b = b.state.word.over ≡ true → b.state.word.asleep ≡ b.owed + b.rings + b.heard + b.gone

both : (x : Bool) → x ≡ true → x ≡ false → ⊥
both x t f = true≢false (sym t ∙ f)

at_end : (asleep calls owed rings heard gone : ℕ) → calls ≤ asleep → (calls ≡ owed + rings + heard) × (gone ≡ 0) →
    asleep ≡ owed + (asleep - calls) + rings + heard + gone
at_end asleep calls owed rings heard gone few m = omega (arith, few, m.0, m.1)

going : (most : ℕ) (move : Move) (b : Belled) → CanMove most move b.state × Asks move b → Matches b → Going (acted (Own move) b)
going most (Give left) b h m = m.2
going most Spare b h m = m.2
going most Call b h m = λ e. let had = m.2 e in let calls = had.0 in (omega (arith, calls), had.1)
going most Hire b h m = m.2
going most Start b h m = m.2
going most Keep b h m = m.2
going most Claim b h m = m.2
going most Pick_up b h m = m.2
going most (Hand_in ready left) b h m = m.2
going most (Receive ready left) b h m = m.2
going most Stop b h m = λ e. absurd (true≢false e)
going most Break b h m = λ e. absurd (true≢false e)
going most Close b h m = m.2
going most Take b h m = m.2
going most Steal b h m = m.2
going most Send b h m = m.2
going most Return b h m = m.2
going most Rest b h m = m.2
going most Wake b h m = λ e. let had = m.2 e in let calls = had.0 in let some = h.1 in (omega (arith, calls, some), had.1)
going most Leave b h m = m.2

over : (most : ℕ) (move : Move) (b : Belled) → CanMove most move b.state × Asks move b → Matches b → Over (acted (Own move) b)
over most (Give left) b h m = m.3
over most Spare b h m = m.3
over most Call b h m = λ e. absurd (both b.state.word.over e (calls_on most b.state.stage b.state h.0))
over most Hire b h m = m.3
over most Start b h m = m.3
over most Keep b h m = m.3
over most Claim b h m = m.3
over most Pick_up b h m = m.3
over most (Hand_in ready left) b h m = m.3
over most (Receive ready left) b h m = m.3
over most Stop b h m = λ e. at_end b.state.word.asleep b.state.word.calls b.owed b.rings b.heard b.gone m.1
    (m.2 (m.0 ∙ not_over_yet most b.state.stage b.state h.0))
over most Break b h m = λ e. at_end b.state.word.asleep b.state.word.calls b.owed b.rings b.heard b.gone m.1
    (m.2 (m.0 ∙ not_over most b.state.stage b.state h.0))
over most Close b h m = m.3
over most Take b h m = m.3
over most Steal b h m = m.3
over most Send b h m = m.3
over most Return b h m = m.3
over most Rest b h m = λ e. absurd (both b.state.word.over e h.0.0)
over most Wake b h m = λ e. absurd (both b.state.word.over e h.0.0)
over most Leave b h m = m.3

matches : (most : ℕ) (act : Act) (b : Belled) → CanAct most act b → Matches b → Matches (acted act b)
matches most (Own move) b h m = (
  told most move b.state.stage b.state h.0 m.0,
  few_called most move b.state.stage b.state h.0 m.1,
  going most move b h m,
  over most move b h m,
)
matches most Ring b h m = (
  m.0,
  m.1,
  (λ e. let had = m.2 e in let calls = had.0 in (omega (arith, calls, h), had.1)),
  (λ e. let all = m.3 e in omega (arith, all, h)),
)
matches most Hear b h m = (
  m.0,
  m.1,
  (λ e. let had = m.2 e in let calls = had.0 in (omega (arith, calls, h), had.1)),
  (λ e. let all = m.3 e in omega (arith, all, h)),
)
matches most Part b h m = (
  told most Leave b.state.stage b.state h.0 m.0,
  m.1,
  (λ e. absurd (both b.state.word.over (m.0 ∙ leaves_at_end most b.state.stage b.state h.0) e)),
  (λ e. let all = m.3 e in let some = h.1 in omega (arith, all, some)),
)

match_along : (most : ℕ) (acts : List Act) (b c : Belled) → Brings most acts b c → Matches b → Matches c
match_along most [] b c l m = subst Matches l m
match_along most (act ∷ acts) b c l m = match_along most acts (acted act b) c l.1 (matches most act b l.0 m)

match_first : (workers ready left : ℕ) → Matches (opened workers ready left)
match_first workers ready left = (refl, omega arith, (λ e. (refl, refl)), (λ e. absurd (true≢false (sym e))))

pub all_match : (most workers ready left : ℕ) (acts : List Act) (b : Belled) → Brings most acts (opened workers ready left) b →
    Matches b
all_match most workers ready left acts b l =
    match_along most acts (opened workers ready left) b l (match_first workers ready left)

pub may_wake : (most workers ready left : ℕ) (acts : List Act) (b : Belled) → Brings most acts (opened workers ready left) b →
    b.state.word.over ≡ false → 0 < b.heard → CanMove most Wake b.state
may_wake most workers ready left acts b l going some =
    let m = ((all_match most workers ready left acts b l).2 going).0 in (going, omega (arith, m, some))

either_way : (x : Bool) → (x ≡ true) ⊎ (x ≡ false)
either_way true = inl refl
either_way false = inr refl

kept : (most workers ready left : ℕ) (acts : List Act) (b : Belled) → workers ≤ most_workers →
    Brings most acts (opened workers ready left) b → IsKept b.state.word
kept most workers ready left acts b few l =
    word_keeps most workers ready left (moves_of acts) b.state few (leads most acts (opened workers ready left) b l)

pub has_place : (most workers ready left : ℕ) (acts : List Act) (b : Belled) → workers ≤ most_workers →
    Brings most acts (opened workers ready left) b → 0 < b.owed → b.rings < most_workers
has_place most workers ready left acts b few l some =
    let m = all_match most workers ready left acts b l in
    let k = kept most workers ready left acts b few l in
    let calls = k.calls in let all = k.few in
    elim (either_way b.state.word.over) [
      | inl e ↦ let n = m.3 e in omega (arith, n, some, all)
      | inr e ↦ let n = (m.2 e).0 in omega (arith, n, some, calls, all)
    ]

pub finds_a_sleeper : (most workers ready left : ℕ) (acts : List Act) (b : Belled) →
    Brings most acts (opened workers ready left) b → 0 < b.rings → b.heard + b.gone < b.state.word.asleep
finds_a_sleeper most workers ready left acts b l some =
    let m = all_match most workers ready left acts b l in
    let calls = m.1 in
    elim (either_way b.state.word.over) [
      | inl e ↦ let n = m.3 e in omega (arith, n, some)
      | inr e ↦ let n = (m.2 e).0 in let g = (m.2 e).1 in omega (arith, n, g, some, calls)
    ]

-- who leaves when each ring was heard and each sleeper has left doesn't sleep
last_leave : (here at_work asleep owed rings heard gone : ℕ) → at_work < here → asleep ≡ owed + rings + heard + gone → owed ≡ 0 →
    rings ≡ 0 → heard ≡ 0 → at_work + (asleep - gone) < here
last_leave here at_work asleep owed rings heard gone h m o r n = omega (arith, h, m, o, r, n)

may_leave : (most : ℕ) (stage : Stage) (s : State) → IsAt most Leave stage s → s.claiming + s.busy < s.present
may_leave most Stops s h = h
may_leave most _ s h = absurd h

-- where nothing is owed, a move of the machine may be made, or a ring be heard first
may : (most : ℕ) (move : Move) (b : Belled) → Matches b → b.owed ≡ 0 → IsOwn move → CanMove most move b.state →
    (act : Act) × IsOwnAct act × CanAct most act b
may most Wake b m z o can = elim (zero_or b.heard) [
  | inr some ↦ (Own Wake, tt, (can, some))
  | inl none ↦ let calls = (m.2 can.0).0 in let called = can.1 in (Hear, tt, omega (arith, calls, z, none, called))
]
may most Leave b m z o can = elim (zero_or b.heard) [
  | inr some ↦ (Part, tt, (can, some))
  | inl none ↦ elim (zero_or b.rings) [
    | inr some ↦ (Hear, tt, some)
    | inl quiet ↦ (
      Own Leave,
      tt,
      (
        can,
        last_leave b.state.present (b.state.claiming + b.state.busy) b.state.word.asleep b.owed b.rings b.heard b.gone
            (may_leave most b.state.stage b.state can) (m.3 (m.0 ∙ leaves_at_end most b.state.stage b.state can)) z quiet none,
      ),
    )
  ]
]
may most Break b m z o can = absurd o
may most Take b m z o can = (Own Take, tt, (can, tt))
may most Steal b m z o can = (Own Steal, tt, (can, tt))
may most Send b m z o can = (Own Send, tt, (can, tt))
may most Return b m z o can = (Own Return, tt, (can, tt))
may most Rest b m z o can = (Own Rest, tt, (can, tt))
may most (Give left) b m z o can = (Own (Give left), tt, (can, z))
may most Spare b m z o can = (Own Spare, tt, (can, z))
may most Call b m z o can = (Own Call, tt, (can, z))
may most Hire b m z o can = (Own Hire, tt, (can, z))
may most Start b m z o can = (Own Start, tt, (can, z))
may most Keep b m z o can = (Own Keep, tt, (can, z))
may most Claim b m z o can = (Own Claim, tt, (can, z))
may most Pick_up b m z o can = (Own Pick_up, tt, (can, z))
may most (Hand_in ready left) b m z o can = (Own (Hand_in ready left), tt, (can, z))
may most (Receive ready left) b m z o can = (Own (Receive ready left), tt, (can, z))
may most Stop b m z o can = (Own Stop, tt, (can, z))
may most Close b m z o can = (Own Close, tt, (can, z))

pub goes_on : (most workers ready left : ℕ) (acts : List Act) (b : Belled) → ready ≤ left →
    Brings most acts (opened workers ready left) b → (b.state.stage ≡ Ended → ⊥) →
    (act : Act) × IsOwnAct act × CanAct most act b
goes_on most workers ready left acts b fit l n =
    let run = leads most acts (opened workers ready left) b l in
    let next = stuck most workers ready left (moves_of acts) b.state fit run n in
    elim (zero_or b.owed) [
      | inr some ↦ (Ring, tt, some)
      | inl none ↦ may most next.0 b (all_match most workers ready left acts b l) none next.1 next.2
    ]

one_call : (o : Bool) (a c : ℕ) → unrung o a (c + 1) ≤ unrung o a c
one_call true a c = omega arith
one_call false a c = omega arith

one_rest : (o : Bool) (a c : ℕ) → unrung o (a + 1) c ≤ unrung o a c + 1
one_rest true a c = omega arith
one_rest false a c = omega arith

one_wake : (o : Bool) (a c : ℕ) → unrung o (a - 1) (c - 1) ≤ unrung o a c
one_wake true a c = omega arith
one_wake false a c = omega arith

one_end : (o : Bool) (n a c : ℕ) → o ≡ false → n + (a - c) + 0 ≤ n + unrung o a c + 1
one_end o n a c e = subst (λ (x : Bool). n + (a - c) + 0 ≤ n + unrung x a c + 1) (sym e) (omega arith)

-- a move makes at most one sleeper more that has no ring, or for which one is owed
abbrev unsent : State → ℕ
unsent s = unrung s.word.over s.word.asleep s.word.calls

one_more : (most : ℕ) (move : Move) (s : State) (n : ℕ) → IsAt most move s.stage s → s.word.over ≡ is_over s.stage →
    owed_after move s n + unsent (moved move s) ≤ n + unsent s + 1
one_more most (Give left) s n h e = omega arith
one_more most Spare s n h e = omega arith
one_more most Call s n h e = let u = one_call s.word.over s.word.asleep s.word.calls in omega (arith, u)
one_more most Hire s n h e = omega arith
one_more most Start s n h e = omega arith
one_more most Keep s n h e = omega arith
one_more most Claim s n h e = omega arith
one_more most Pick_up s n h e = omega arith
one_more most (Hand_in ready left) s n h e = omega arith
one_more most (Receive ready left) s n h e = omega arith
one_more most Stop s n h e = one_end s.word.over n s.word.asleep s.word.calls (e ∙ not_over_yet most s.stage s h)
one_more most Break s n h e = one_end s.word.over n s.word.asleep s.word.calls (e ∙ not_over most s.stage s h)
one_more most Close s n h e = omega arith
one_more most Take s n h e = omega arith
one_more most Steal s n h e = omega arith
one_more most Send s n h e = omega arith
one_more most Return s n h e = omega arith
one_more most Rest s n h e = let u = one_rest s.word.over s.word.asleep s.word.calls in omega (arith, u)
one_more most Wake s n h e = let u = one_wake s.word.over s.word.asleep s.word.calls in omega (arith, u)
one_more most Leave s n h e = omega arith

falls : (most : ℕ) (act : Act) (b : Belled) → CanAct most act b → Matches b → bell_cost (acted act b) < bell_cost b
falls most (Own move) b h m =
    let one = less most move b.state.stage b.state h.0 in
    let two = one_more most move b.state b.owed h.0 m.0 in
    omega (arith, one, two)
falls most Ring b h m = omega (arith, h)
falls most Hear b h m = omega (arith, h)
falls most Part b h m = let one = less most Leave b.state.stage b.state h.0 in omega (arith, one)

bounded : (most : ℕ) (acts : List Act) (b c : Belled) → Brings most acts b c → Matches b → length acts + bell_cost c ≤ bell_cost b
bounded most [] b c l m = let e : bell_cost b ≡ bell_cost c = ap bell_cost l in omega (arith, e)
bounded most (act ∷ acts) b c l m =
    let rest = bounded most acts (acted act b) c l.1 (matches most act b l.0 m) in
    let one = falls most act b l.0 m in
    omega (arith, rest, one)

pub few_acts : (most workers ready left : ℕ) (acts : List Act) (b : Belled) → Brings most acts (opened workers ready left) b →
    length acts ≤ 3 * (9 * left + workers + 2)
few_acts most workers ready left acts b l =
    let all = bounded most acts (opened workers ready left) b l (match_first workers ready left) in omega (arith, all)
