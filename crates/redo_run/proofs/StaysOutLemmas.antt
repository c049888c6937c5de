-- What is out stays out while others are taken and handed in.
use Rattle.std.proofs.Common.{◌≡◌, ℕ, zero, suc, ◌+◌, ◌⊎◌, inl, inr, List, [], ◌∷◌, ◌++◌, Option, Some, None, true, false, ◌<◌, ◌≤◌, ◌↔◌}
use Rattle.std.proofs.Common.{length, filter, option_and_then, remove, slice_get, refl, sym, ap, subst, ◌∙◌, arith}
use Rattle.std.proofs.Common.{bytes_eq}
use Rattle.std.specs.Prelude.{IsNone, MatchOption, option_map, slice_index_or}
use Rattle.std.proofs.lemmas.Bool.{cases_Bool, both_ways}
use Rattle.std.proofs.lemmas.Slice.Eq.{bytes_eq-Decides}
use Rattle.redo_record.specs.Paths.{IsAmong}
use Rattle.redo_build.specs.Looking.{IsLookedOut, looked}
use Rattle.redo_build.specs.Rules.{AreLawful, Rules, operands}
use Rattle.redo_build.specs.Schedule.{Entry, State, entry_of, advanced, moved_on, entered, handed_in, happens, put}
use Rattle.redo_build.specs.Schedule.{opening, run, sent_out, taken, AllOpen, Event, IsOpen, IsOutAt, IsReached}
use Rattle.redo_build.specs.Schedule.Event.{Take, Hand_in}
use Rattle.redo_build.specs.Schedule.Phase.{Script}
use Rattle.redo_core.specs.Views.{BoardView, PieceView, WorkView, IsHandedIn, IsWorkTaken, after, jobs_out}
use Rattle.redo_core.specs.Views.{ready_count, request_on, rules_on}
use Rattle.redo_build.proofs.DepthLemmas.{cases_Option}
use Rattle.redo_build.proofs.SeenLemmas.{entry_of-path, entry_of-among, entry_of-put_same, entry_of-put_other}
use Rattle.redo_build.proofs.SeenLemmas.{entry_of-entered_old}
use Rattle.redo_run.proofs.RefusalLemmas.{running}
use Rattle.redo_build.proofs.StillLemmas.{AllOpen-behind, run-behind}
use Rattle.redo_run.specs.inside.Driving.{AreOut, HasCome, IsOutOn, IsPicked}
use Rattle.redo_run.specs.Picks.{IsLookedAt, driven_on, targets_of, with_handed_in, with_taken}
use Rattle.redo_run.specs.declared.picks.Pick.TheVariants as Pick

stays-sent : (es : List Entry) (p q : List ℕ) (e old : Entry) → entry_of es p ≡ Some e → entry_of es q ≡ Some old → old.is_out ≡ true →
    (new : Entry) × (entry_of (put es (sent_out e)) q ≡ Some new) × (new.is_out ≡ true) × (new.turn ≡ old.turn)
stays-sent es p q e old at there out = elim (cases_Bool (bytes_eq e.path q)) [
  | inl t ↦
      let own : e.path ≡ p = entry_of-path es p e at in
      let is : e.path ≡ q = (bytes_eq-Decides e.path q).0 t in
      let E : List ℕ → Type 0 = λ x. entry_of es x ≡ Some e in
      let here : entry_of es q ≡ Some e = subst E (sym own ∙ is) at in
      let same : e ≡ old = let both : Some e ≡ Some old = sym here ∙ there in cc in
      let P : List ℕ → Type 0 = λ x. entry_of (put es (sent_out e)) x ≡ Some (sent_out e) in
      let among = entry_of-among es e.path e (subst E (sym own) at) in
      (sent_out e, subst P is (entry_of-put_same es (sent_out e) among), refl, ap (λ (x : Entry). x.turn) same)
  | inr f ↦ (old, entry_of-put_other es (sent_out e) q (λ h. both_ways _ f ((bytes_eq-Decides e.path q).1 h)) ∙ there, out, refl)
]

-- as something is taken
pub stays-taken : (r : Rules) (s : State) (which : ℕ) (q : List ℕ) (turn : ℕ) → IsOutAt s q turn → IsOutAt (happens r s (Take which)) q turn
stays-taken r s which q turn out = elim (cases_Option (slice_get s.ready which)) [
  | inl none ↦ rw none out
  | inr some ↦ elim (cases_Option (entry_of s.entries some.0)) [
    | inl none ↦ rw (some.1, none) out
    | inr found ↦
        let sent = stays-sent s.entries some.0 q found.0 out.entry found.1 out.at out.is_out in
        rw (some.1, found.1) (record { entry = sent.0; at = sent.1; is_out = sent.2; at_turn = sent.3 ∙ out.at_turn })
  ]
]

-- what the law of looks says: they leave jobs out
abbrev pub LooksLeave : Type 0
LooksLeave = (r : Rules) → AreLawful r → (request : List (List ℕ)) (events : List Event) (looks : ℕ) (target : List ℕ) (turn : ℕ) →
    AllOpen r (opening r request) events →
    IsOutAt (run r events (opening r request)) target turn ↔ IsOutAt (looked r looks (run r events (opening r request))) target turn

-- while the board looks behind an event
stays-looked : LooksLeave → (r : Rules) → AreLawful r → (request : List (List ℕ)) (s t : State) (event : Event) (q : List ℕ) (turn : ℕ) →
    IsReached r request s → IsOpen r s event → IsLookedOut r (happens r s event) t → IsOutAt (happens r s event) q turn → IsOutAt t q turn
stays-looked leave r lawful request s t event q turn reached is_open looked_out out =
    let events = reached.events ++ event ∷ [] in
    let start = opening r request in
    let Open : State → Type 0 = λ x. IsOpen r x event in
    let all_open : AllOpen r start events = AllOpen-behind r reached.events (event ∷ []) start reached.all_open (subst Open reached.ends is_open, tt) in
    let there : run r events start ≡ happens r s event = run-behind r reached.events (event ∷ []) start ∙ ap (λ x. happens r x event) (sym reached.ends) in
    let Out : State → Type 0 = λ x. IsOutAt x q turn in
    let Looked : State → Type 0 = λ x. IsOutAt (looked r looked_out.looks x) q turn in
    let still = (leave r lawful request events looked_out.looks q turn all_open).0 (subst Out (sym there) out) in
    subst Out (sym looked_out.is) (subst Looked there still)

-- as another is handed in
pub stays-handed : (r : Rules) (s : State) (target q : List ℕ) (turn : ℕ) → (target ≡ q → ⊥) → IsOutAt s q turn →
    IsOutAt (handed_in r Script s (entry_of s.entries target)) q turn
stays-handed r s target q turn other out = elim (cases_Option (entry_of s.entries target)) [
  | inl none ↦ rw none out
  | inr found ↦
      let e = found.0 in
      let now = advanced r s.entries e in
      let own = entry_of-path s.entries target e found.1 in
      let old = entry_of-entered_old r s.entries (operands r now.deps) q out.entry out.at in
      rw found.1 (record {
        entry = out.entry;
        at = entry_of-put_other (entered r s.entries (operands r now.deps)) (moved_on Script e now) q (λ h. other (sym own ∙ h)) ∙ old;
        is_out = out.is_out;
        at_turn = out.at_turn;
      })
]

module _ (b c : BoardView) (given : c.given ≡ b.given) where
  -- those that stay out on the same build's board
  pub out-moved : (works : List WorkView) → ((work : WorkView) → IsAmong (targets_of works) work.target → IsOutAt b.state work.target work.turn → IsOutAt c.state work.target work.turn) →
      AreOut b works → AreOut c works
  out-moved [] stays out = tt
  out-moved (x ∷ works) stays out = (
    record { given = out.0.given ∙ sym given; is_out = stays x (inl refl) out.0.is_out },
    out.1,
    out-moved works (λ work m. stays work (inr m)) out.2,
  )

targets-push : (works : List WorkView) (w : WorkView) → targets_of (works ++ w ∷ []) ≡ targets_of works ++ w.target ∷ []
targets-push [] w = refl
targets-push (x ∷ works) w = ap (λ ps. x.target ∷ ps) (targets-push works w)

among-push : (works : List WorkView) (w : WorkView) (q : List ℕ) → IsAmong (targets_of (works ++ w ∷ [])) q → IsAmong (targets_of works) q ⊎ (w.target ≡ q)
among-push [] w q m = elim m [ inl here ↦ inr here | inr none ↦ absurd none ]
among-push (x ∷ works) w q m = elim m [
  | inl here ↦ inl (inl here)
  | inr later ↦ elim (among-push works w q later) [ inl old ↦ inl (inr old) | inr new ↦ inr new ]
]

-- one more, of another target
pub out-push : (b : BoardView) (works : List WorkView) (w : WorkView) → AreOut b works → IsOutOn b w → (IsAmong (targets_of works) w.target → ⊥) →
    AreOut b (works ++ w ∷ [])
out-push b [] w out on new = (on, λ m. m, tt)
out-push b (x ∷ works) w out on new = (
  out.0,
  λ m. elim (among-push works w x.target m) [ inl old ↦ out.1 old | inr same ↦ new (inl (sym same)) ],
  out-push b works w out.2 on (λ m. new (inr m)),
)

-- a listed target is out
pub out-among : (b : BoardView) (works : List WorkView) (q : List ℕ) → AreOut b works → IsAmong (targets_of works) q → (turn : ℕ) × IsOutAt b.state q turn
out-among b [] q out m = absurd m
out-among b (x ∷ works) q out m = elim m [
  | inl here ↦ let P : List ℕ → Type 0 = λ p. IsOutAt b.state p x.turn in (x.turn, subst P here out.0.is_out)
  | inr later ↦ out-among b works q out.2 later
]

-- the work at a place is out
pub out-at : (b : BoardView) (works : List WorkView) (i : ℕ) (w : WorkView) → AreOut b works → slice_get works i ≡ Some w → IsOutOn b w
out-at b [] i w out h = cc
out-at b (x ∷ works) zero w out h = let same : x ≡ w = cc in let P : WorkView → Type 0 = IsOutOn b in subst P same out.0
out-at b (x ∷ works) (suc i) w out h = out-at b works i w out.2 h

removed-from : (works : List WorkView) (i : ℕ) (q : List ℕ) → IsAmong (targets_of (remove works i)) q → IsAmong (targets_of works) q
removed-from [] zero q m = m
removed-from [] (suc i) q m = m
removed-from (x ∷ works) zero q m = inr m
removed-from (x ∷ works) (suc i) q m = elim m [ inl here ↦ inl here | inr later ↦ inr (removed-from works i q later) ]

target-at : (works : List WorkView) (i : ℕ) (w : WorkView) → slice_get works i ≡ Some w → IsAmong (targets_of works) w.target
target-at [] i w h = cc
target-at (x ∷ works) zero w h = let same : x ≡ w = cc in inl (ap (λ (v : WorkView). v.target) same)
target-at (x ∷ works) (suc i) w h = inr (target-at works i w h)

-- without the work at a place
pub out-removed : (b : BoardView) (works : List WorkView) (i : ℕ) → AreOut b works → AreOut b (remove works i)
out-removed b [] zero out = tt
out-removed b [] (suc i) out = tt
out-removed b (x ∷ works) zero out = out.2
out-removed b (x ∷ works) (suc i) out = (out.0, λ m. out.1 (removed-from works i x.target m), out-removed b works i out.2)

-- its target is no other's
pub out-gone : (b : BoardView) (works : List WorkView) (i : ℕ) (w : WorkView) → AreOut b works → slice_get works i ≡ Some w → IsAmong (targets_of (remove works i)) w.target → ⊥
out-gone b [] i w out h m = cc
out-gone b (x ∷ works) zero w out h m =
    let same : x ≡ w = cc in
    let P : WorkView → Type 0 = λ v. IsAmong (targets_of works) v.target → ⊥ in
    (subst P same out.1) m
out-gone b (x ∷ works) (suc i) w out h m = elim m [
  | inl here ↦
      let P : List ℕ → Type 0 = λ p. IsAmong (targets_of works) p in
      out.1 (subst P (sym here) (target-at works i w h))
  | inr later ↦ out-gone b works i w out.2 h later
]

pub targets-remove : (works : List WorkView) (i : ℕ) → targets_of (remove works i) ≡ remove (targets_of works) i
targets-remove [] zero = refl
targets-remove [] (suc i) = refl
targets-remove (x ∷ works) zero = refl
targets-remove (x ∷ works) (suc i) = ap (λ ps. x.target ∷ ps) (targets-remove works i)

pub targets-get : (works : List WorkView) (i : ℕ) (w : WorkView) → slice_get works i ≡ Some w → slice_get (targets_of works) i ≡ Some w.target
targets-get [] i w h = cc
targets-get (x ∷ works) zero w h = let same : x ≡ w = cc in ap (λ (v : WorkView). Some v.target) same
targets-get (x ∷ works) (suc i) w h = targets-get works i w h

put-same : (es : List Entry) (e : Entry) → entry_of es e.path ≡ Some e → put es e ≡ es
put-same [] e h = refl
put-same (x ∷ es) e h = elim (cases_Bool (bytes_eq x.path e.path)) [
  | inl t ↦ let same : x ≡ e = let now = rw t at h in cc in rw t (ap (λ y. y ∷ es) (sym same))
  | inr f ↦ rw f (ap (λ xs. x ∷ xs) (put-same es e (rw f at h)))
]

-- what is taken was not out: one more job is out after it
pub taken-new : (b : BoardView) (which : ℕ) (w : WorkView) (turn : ℕ) → IsNone b.stopped → IsWorkTaken b which w →
    jobs_out (after b (Take which)) ≡ jobs_out b + 1 → IsOutAt b.state w.target turn → ⊥
taken-new b which w turn on work more out =
    let e = out.entry in
    let s = b.state in
    let E : List ℕ → Type 0 = λ x. entry_of s.entries x ≡ Some e in
    let own : entry_of s.entries e.path ≡ Some e = subst E (sym (entry_of-path s.entries w.target e out.at)) out.at in
    let same : sent_out e ≡ e = ap (λ f. record e { is_out = f }) (sym out.is_out) in
    let kept : put s.entries (sent_out e) ≡ s.entries = ap (put s.entries) same ∙ put-same s.entries e own in
    let P : Option (List ℕ) → Type 0 = λ x. (taken s (option_and_then (entry_of s.entries) x) which).entries ≡ put s.entries (sent_out e) in
    let Q : Option Entry → Type 0 = λ x. (taken s x which).entries ≡ put s.entries (sent_out e) in
    let entries : (happens (rules_on b) s (Take which)).entries ≡ s.entries = subst P (sym work.target) (subst Q (sym out.at) refl) ∙ kept in
    let count = ap (λ es. length (filter (λ (x : Entry). x.is_out) es)) entries in
    let on' = running b.stopped on in
    let more' = rw on' at more in
    omega (arith, count, more')

item-at : (works : List WorkView) (i : ℕ) (w : WorkView) → i < length works → w ≡ slice_index_or works i w → slice_get works i ≡ Some w
item-at [] i w below is = absurd (omega (arith, below))
item-at (x ∷ works) zero w below is = ap (λ v. Some v) (sym is)
item-at (x ∷ works) (suc i) w below is = item-at works i w (omega (arith, below)) is

none-there : {X : Type 0} (xs : List X) (i : ℕ) → length xs ≤ i → slice_get xs i ≡ None
none-there [] i h = refl
none-there (x ∷ xs) zero h = absurd (omega (arith, h))
none-there (x ∷ xs) (suc i) h = none-there xs i (omega (arith, h))

none-out : (works : List WorkView) (i : ℕ) → length works ≤ i → slice_get (targets_of works) i ≡ None
none-out [] i h = refl
none-out (x ∷ works) zero h = absurd (omega (arith, h))
none-out (x ∷ works) (suc i) h = none-out works i (omega (arith, h))

-- where nothing is ready at the place, nothing is taken
pub shut-take : (b : BoardView) (works : List WorkView) (which : ℕ) → IsNone b.stopped → ready_count b ≤ which → IsPicked (Pick.Take which) b works b works false
shut-take b works which on above =
    let above' = rw (running b.stopped on) at above in (
      ap (option_map (with_taken (rules_on b) (driven_on b works) which)) (none-there b.state.ready which above'),
      refl,
      refl,
    )

-- where nothing is out at the place, nothing is handed in
pub shut-piece : (b : BoardView) (works : List WorkView) (which : ℕ) → length works ≤ which → IsPicked (Pick.HandIn which) b works b works false
shut-piece b works which above = (
  ap (option_map (with_handed_in (rules_on b) (driven_on b works) which)) (none-out works which above),
  refl,
  refl,
)

-- what a take leads to
pub taken-picked : (b c : BoardView) (works more : List WorkView) (which : ℕ) (w : WorkView) → c ≡ after b (Take which) → IsWorkTaken b which w →
    more ≡ works ++ w ∷ [] → IsPicked (Pick.Take which) b works c more true
taken-picked b c works more which w next work all =
    let d = driven_on b works in
    let At : Option (List ℕ) → Type 0 = λ o. MatchOption (option_map (with_taken (rules_on b) d which) o) ⊥ (λ at. driven_on c more ≡ at) in
    let state : c.state ≡ happens (rules_on b) b.state (Take which) = ap (λ (v : BoardView). v.state) next in
    let outs : targets_of more ≡ targets_of works ++ w.target ∷ [] = ap targets_of all ∙ targets-push works w in
    subst At (sym work.target) (λ i. record { state = state i; out = outs i })

-- a work is taken
pub out-taken : (b c : BoardView) (works more : List WorkView) (which : ℕ) (w : WorkView) → IsNone b.stopped → AreOut b works →
    c ≡ after b (Take which) → IsWorkTaken b which w → IsOutAt c.state w.target w.turn → jobs_out c ≡ jobs_out b + 1 → more ≡ works ++ w ∷ [] → AreOut c more
out-taken b c works more which w on out next work is_out counted all =
    let given = ap (λ (v : BoardView). v.given) next in
    let moved : AreOut c works = out-moved b c given works
    (λ x m at. let P : BoardView → Type 0 = λ v. IsOutAt v.state x.target x.turn in subst P (sym next) (stays-taken (rules_on b) b.state which x.target x.turn at)) out in
    let new : IsAmong (targets_of works) w.target → ⊥ = λ m.
    let there = out-among b works w.target out m in
    let P : BoardView → Type 0 = λ v. jobs_out v ≡ jobs_out b + 1 in
    taken-new b which w there.0 on work (subst P next counted) there.1 in
    let P : List WorkView → Type 0 = AreOut c in
    subst P (sym all) (out-push c works w moved (record { given = work.given ∙ sym given; is_out = is_out }) new)

-- the work at a place, advanced to a piece, is handed in
module _ (b : BoardView) (works : List WorkView) (which : ℕ) (w : WorkView) (out : AreOut b works) (below : which < length works) (is : w ≡ slice_index_or works which w)
    (piece : PieceView) (same : (piece.given ≡ w.given) × (piece.target ≡ w.target) × (piece.turn ≡ w.turn)) where
  there : slice_get works which ≡ Some w
  there = item-at works which w below is

  pub piece-belongs : piece.given ≡ b.given
  piece-belongs = let on = out-at b works which w out there in same.0 ∙ on.given

  pub piece-out : IsOutAt b.state piece.target piece.turn
  piece-out =
      let on = out-at b works which w out there in
      let P : List ℕ → Type 0 = λ p. IsOutAt b.state p piece.turn in
      let Q : ℕ → Type 0 = λ n. IsOutAt b.state w.target n in
      subst P (sym same.1) (subst Q (sym same.2) on.is_out)

  module _ (c : BoardView) (rest : List WorkView) (left : rest ≡ remove works which) (next : IsHandedIn b piece.target piece.turn c) where
    -- what comes behind the piece of that work
    looked-out : IsLookedOut (rules_on b) (handed_in (rules_on b) Script b.state (entry_of b.state.entries w.target)) c.state
    looked-out =
        let P : List ℕ → Type 0 = λ p. IsLookedOut (rules_on b) (handed_in (rules_on b) Script b.state (entry_of b.state.entries p)) c.state in
        subst P same.1 next.looked

    pub handed-picked : IsPicked (Pick.HandIn which) b works c rest true
    handed-picked =
        let d = driven_on b works in
        let At : Option (List ℕ) → Type 0 = λ o. MatchOption (option_map (with_handed_in (rules_on b) d which) o) ⊥ (λ at. IsLookedAt (rules_on b) at (driven_on c rest)) in
        let outs : targets_of rest ≡ remove (targets_of works) which = ap targets_of left ∙ targets-remove works which in
        subst At (sym (targets-get works which w there)) (record { looked = looked-out; out = outs })

    pub handed-out : LooksLeave → AreLawful (rules_on b) → HasCome b → AreOut c rest
    handed-out leave lawful come =
        let event = Hand_in w.target piece.turn in
        let P : List ℕ → Type 0 = λ p. IsOutAt b.state p piece.turn in
        let is_open : IsOpen (rules_on b) b.state event = subst P same.1 piece-out in
        let moved : AreOut c (remove works which) = out-moved b c next.given (remove works which)
        (λ x m at.
        let other : w.target ≡ x.target → ⊥ = λ h.
        let P : List ℕ → Type 0 = λ p. IsAmong (targets_of (remove works which)) p in
        out-gone b works which w out there (subst P (sym h) m) in
        stays-looked leave (rules_on b) lawful (request_on b) b.state c.state event x.target x.turn come.1.reached is_open looked-out
        (stays-handed (rules_on b) b.state w.target x.target x.turn other at))
        (out-removed b works which out) in
        let P : List WorkView → Type 0 = AreOut c in
        subst P (sym left) moved
