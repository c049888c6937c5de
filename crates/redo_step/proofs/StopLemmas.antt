-- A run that stops for want of answers names those that its entries lack, in the order of the entries.
use Rattle.std.proofs.Common.{◌≡◌, ℕ, Bool, true, false, ◌&&◌, cond, ◌⊎◌, inl, inr, List, [], ◌∷◌, ◌++◌, append-nil}
use Rattle.std.proofs.Common.{filter, bytes_eq, Result, Ok, Err, refl, sym, ap, subst, ◌∙◌}
use Rattle.std.proofs.lemmas.Bool.{cases_Bool, both_ways}
use Rattle.std.proofs.lemmas.List.Elements.{filter_map-append, filter-append}
use Rattle.std.proofs.lemmas.Slice.Eq.{bytes_eq-Decides}
use Rattle.std.specs.Cmp.Lexicographic.{nat_list_eq_equiv}
use Rattle.redo_script.specs.Syntax.{Command, write, test, change, create}
use Rattle.redo_script.specs.Syntax.{Condition, Script, finish, simple, choice, loop}
use Rattle.redo_record.specs.declared.deps.Dep.{Dep}
use Rattle.redo_record.specs.declared.deps.DepKind.{DepKind}
use Rattle.redo_record.specs.declared.deps.DepKind.TheVariants.{Change}
use Rattle.redo_record.specs.declared.outcome.Why.TheVariants as why
use Rattle.redo_record.specs.Answers.{Ask}
use Rattle.redo_record.specs.Entries.{is_entered, with_entries}
use Rattle.redo_record.specs.Paths.{Path, is_among, with_new, with_path}
use Rattle.redo_record.specs.Progress.{changed as change_of, changes}
use Rattle.redo_step.specs.Begins.{AreKnown, Begins}
use Rattle.redo_step.specs.Declaring.{any_failed, changed, created, declaring, lacking, lacks, waited}
use Rattle.redo_step.specs.Reach.{Keeps}
use Rattle.redo_step.specs.Runs.{State, End, faulted, stopped, Run, goes, ends, end_state, start}
use Rattle.redo_step.specs.Setting.{Setting, with_value}
use Rattle.redo_step.specs.Statements.{chosen, command_run, condition_result, looped, meaning, run, then_run, turns}
use Rattle.redo_step.specs.Statements.{with_state, with_status}
use Rattle.redo_step.specs.Words.{texts_of}
use Rattle.redo_step.proofs.BeginsLemmas.{run_begins}

-- an ask keeps its own answers
keeps-itself : (setting : Setting) (es : List Dep) (ask : Ask) → Keeps setting es ask ask
keeps-itself setting es ask = record { same = λ p o source asked is. is }

-- what these entries ask for that lacks an answer, in their order
abbrev pub lacked : Setting → Ask → List Dep → List Path
lacked setting ask es = filter (lacks setting ask) (changes es)

-- Lists

module _ (f : Path → Bool) where
  in-entry : (k : DepKind) (q : Path) (es : List Dep) (p : Path) → is_among (filter f (changes es)) p ≡ (f p && is_entered es Change p) →
      is_among (filter f (changes (record { kind = k; path = q } ∷ es))) p ≡ (f p && is_entered (record { kind = k; path = q } ∷ es) Change p)
  in-entry Change q es p h = elim (cases_Bool (bytes_eq p q)) [
    | inl same ↦
        let is : p ≡ q = (bytes_eq-Decides p q).0 same in
        let back : bytes_eq q p ≡ true = nat_list_eq_equiv.symm q p ∙ same in
        elim (cases_Bool (f q)) [
          | inl t ↦ let own : f p ≡ true = ap f is ∙ t in rw (t, own, same, back) refl
          | inr n ↦ let own : f p ≡ false = ap f is ∙ n in rw (n, own) (rw own at h)
        ]
    | inr other ↦
        let back : bytes_eq q p ≡ false = nat_list_eq_equiv.symm q p ∙ other in
        elim (cases_Bool (f q)) [ inl t ↦ rw (t, other, back) h | inr n ↦ rw (n, other) h ]
  ]
  in-entry _ q es p h = h

  nothing-in : (b : Bool) → false ≡ (b && false)
  nothing-in true = refl
  nothing-in false = refl

  -- what passes of the change entries
  pub in-passed : (es : List Dep) (p : Path) → is_among (filter f (changes es)) p ≡ (f p && is_entered es Change p)
  in-passed [] p = nothing-in (f p)
  in-passed (e ∷ es) p = in-entry e.kind e.path es p (in-passed es p)

  -- a new entry passes last, if it passes
  pub passed-last : (es : List Dep) (p : Path) → filter f (changes (es ++ record { kind = Change; path = p } ∷ [])) ≡ filter f (changes es) ++ cond (f p) (p ∷ []) []
  passed-last es p =
      ap (filter f) (filter_map-append (λ d. change_of d.kind d.path) es (record { kind = Change; path = p } ∷ [])) ∙
      filter-append f (changes es) (p ∷ [])

path-kept : (found : List Path) (p : Path) → is_among found p ≡ true → with_path found p ≡ found
path-kept found p h = ap (λ b. cond b found (found ++ p ∷ [])) h

path-new : (found : List Path) (p : Path) → is_among found p ≡ false → with_path found p ≡ found ++ p ∷ []
path-new found p h = ap (λ b. cond b found (found ++ p ∷ [])) h

none-in : (xs : List Path) → ((p : Path) → is_among xs p ≡ true → ⊥) → xs ≡ []
none-in [] h = refl
none-in (x ∷ xs) h = let here : bytes_eq x x ≡ true = (bytes_eq-Decides x x).1 refl in absurd (h x (rw here refl))

module _ (setting : Setting) (ask : Ask) where
  -- entries whose operands have answers lack none
  known-lacked : (es : List Dep) → AreKnown setting ask es → lacked setting ask es ≡ []
  known-lacked es known = none-in (lacked setting ask es) (λ p h.
      let f : Path → Bool = lacks setting ask in
      let both : (f p && is_entered es Change p) ≡ true = sym (in-passed f es p) ∙ h in
      elim (cases_Bool (is_entered es Change p)) [
        | inl there ↦ let none : f p ≡ false = known.known p there in let bad = rw none at both in cc
        | inr absent ↦ elim (cases_Bool (f p)) [
          | inl t ↦ let bad = rw (t, absent) at both in cc
          | inr n ↦ let bad = rw n at both in cc
        ]
      ])

  lacking-first : (found ps : List Path) (p : Path) → lacks setting ask p ≡ true → lacking setting ask found (p ∷ ps) ≡ lacking setting ask (with_path found p) ps
  lacking-first found ps p t = ap (λ b. with_new found (cond b (p ∷ filter (lacks setting ask) ps) (filter (lacks setting ask) ps))) t

  -- the operands of a redo-ifchange that lack answers are what the entries lack behind it
  lacking-lacked : (found ps : List Path) (es : List Dep) → found ≡ lacked setting ask es → lacking setting ask found ps ≡ lacked setting ask (with_entries es Change ps)
  lacking-lacked found [] es h = h
  lacking-lacked found (p ∷ ps) es h =
      let f : Path → Bool = lacks setting ask in
      let inside : is_among found p ≡ (f p && is_entered es Change p) = ap (λ xs. is_among xs p) h ∙ in-passed f es p in
      let last = passed-last f es p in
      elim (cases_Bool (is_entered es Change p)) [
        | inl there ↦ elim (cases_Bool (f p)) [
          | inl t ↦ let old : is_among found p ≡ true = inside ∙ rw (t, there) refl in
              let more : lacking setting ask found ps ≡ lacked setting ask (with_entries es Change (p ∷ ps)) = rw there (lacking-lacked found ps es h) in
              lacking-first found ps p t ∙ ap (λ xs. lacking setting ask xs ps) (path-kept found p old) ∙ more
          | inr n ↦ rw (n, there) (lacking-lacked found ps es h)
        ]
        | inr absent ↦ elim (cases_Bool (f p)) [
          | inl t ↦
              let new : is_among found p ≡ false = inside ∙ rw (t, absent) refl in
              let more : lacking setting ask (found ++ p ∷ []) ps ≡ lacked setting ask (with_entries es Change (p ∷ ps)) = rw absent (lacking-lacked (found ++ p ∷ []) ps (es ++ record { kind = Change; path = p } ∷ [])
              (ap (λ xs. xs ++ p ∷ []) h ∙ sym (last ∙ rw t refl))) in
              lacking-first found ps p t ∙ ap (λ xs. lacking setting ask xs ps) (path-new found p new) ∙ more
          | inr n ↦ rw (n, absent) (lacking-lacked found ps (es ++ record { kind = Change; path = p } ∷ [])
              (h ∙ sym (last ∙ rw n (append-nil (lacked setting ask es)))))
        ]
      ]

-- Runs

-- What a run from entries with all answers comes to: it goes on with all answers, it has ended, or it stops for want of
-- what its entries lack.
abbrev pub TellsEnd : Setting → Ask → End → State → Type 0
TellsEnd setting ask (stopped ps) t = ps ≡ lacked setting ask t.entries
TellsEnd setting ask _ t = Unit {0}

abbrev pub Tells : Setting → Ask → Run → Type 0
Tells setting ask (goes t) = AreKnown setting ask t.entries
Tells setting ask (ends e t) = TellsEnd setting ask e t

-- where a command stopped: before it declared anything, or at the operands of a redo-ifchange
abbrev pub StopsAt : Setting → Ask → State → List Path → State → Type 0
StopsAt setting ask s ps t = (t ≡ s) ⊎ ((qs : List Path) × (ps ≡ lacking setting ask [] qs) × (t ≡ declaring s Change qs))

module _ (setting : Setting) (ask : Ask) where
  then-tells : (r : Run) (f : State → Run) → Tells setting ask r → ((t : State) → AreKnown setting ask t.entries → Tells setting ask (f t)) → Tells setting ask (then_run r f)
  then-tells (goes t) f now next = next t now
  then-tells (ends e t) f now next = now

  -- A script under its own ask. What stops at a command other than redo-ifchange lacks nothing that was declared before,
  -- so by this there is no such stop.
  own-begins : (c : Script) (s : State) → AreKnown setting ask s.entries → Begins setting ask ask (run setting ask c s) (run setting ask c s)
  own-begins c s known = run_begins setting ask ask c s known (keeps-itself setting (end_state (run setting ask c s)).entries ask)

  -- none stops where nothing lacks
  no-stop : (s : State) (ps : List Path) → AreKnown setting ask s.entries → Begins setting ask ask (ends (stopped ps) s) (ends (stopped ps) s) → ⊥
  no-stop s ps known b = both_ways _ (known.known b.lacking.0 b.lacking.1) b.lacking.2

  end-tells : (e : End) (s : State) → AreKnown setting ask s.entries → Begins setting ask ask (ends e s) (ends e s) → Tells setting ask (ends e s)
  end-tells (stopped ps) s known b = absurd (no-stop s ps known b)
  end-tells _ s known b = tt

  then-finish : (r : Run) → then_run r (run setting ask finish) ≡ r
  unfolding run
  then-finish (goes t) = refl
  then-finish (ends e t) = refl

  state-stops : (r : Result State End) (s t : State) (e : End) → with_state r s ≡ ends e t → t ≡ s
  state-stops (Ok u) s t e h = absurd cc
  state-stops (Err w) s t e h = cc

  status-stops : (r : Result Bool End) (s t : State) (e : End) → with_status r s ≡ ends e t → t ≡ s
  status-stops (Ok true) s t e h = absurd cc
  status-stops _ s t e h = cc

  created-stops : (r : Result (List Path) End) (s t : State) (e : End) → created r s ≡ ends e t → t ≡ s
  created-stops (Ok qs) s t e h = absurd cc
  created-stops (Err w) s t e h = cc

  waited-stops : (line : ℕ) (qs xs : List Path) (u t : State) (ps : List Path) → waited setting ask line qs xs u ≡ ends (stopped ps) t → (ps ≡ xs) × (t ≡ u)
  waited-stops line qs [] u t ps h =
      (elim (any_failed setting ask qs) as (λ (v : Bool). cond v (ends (faulted (why.Depends line)) u) (goes u) ≡ ends (stopped ps) t → (ps ≡ []) × (t ≡ u))
      [ true ↦ λ g. absurd cc | false ↦ λ g. absurd cc ]) h
  waited-stops line qs (x ∷ xs) u t ps h = ((cc), (cc))

  changed-stops : (line : ℕ) (r : Result (List Path) End) (s t : State) (ps : List Path) → changed setting ask line r s ≡ ends (stopped ps) t → StopsAt setting ask s ps t
  changed-stops line (Err w) s t ps h = inl cc
  changed-stops line (Ok qs) s t ps h = let at = waited-stops line qs (lacking setting ask [] qs) (declaring s Change qs) t ps h in inr (qs, at.0, at.1)

  command-stops : (line : ℕ) (c : Command) (s t : State) (ps : List Path) → command_run setting ask line c s ≡ ends (stopped ps) t → StopsAt setting ask s ps t
  command-stops line (write w r) s t ps h = inl (state-stops _ s t (stopped ps) h)
  command-stops line (test x) s t ps h = inl (status-stops _ s t (stopped ps) h)
  command-stops line (change ws) s t ps h = changed-stops line _ s t ps h
  command-stops line (create ws) s t ps h = inl (created-stops _ s t (stopped ps) h)
  command-stops line _ s t ps h = absurd cc

  stop-tells : (s t : State) (ps : List Path) → AreKnown setting ask s.entries → Begins setting ask ask (ends (stopped ps) t) (ends (stopped ps) t) → StopsAt setting ask s ps t → ps ≡ lacked setting ask t.entries
  stop-tells s t ps known b (inl same) = absurd (let B : State → Type 0 = λ u. Begins setting ask ask (ends (stopped ps) u) (ends (stopped ps) u) in no-stop s ps known (subst B same b))
  stop-tells s t ps known b (inr at) =
      at.1 ∙ lacking-lacked setting ask [] at.0 s.entries (sym (known-lacked setting ask s.entries known)) ∙
      ap (λ (u : State). lacked setting ask u.entries) (sym at.2)

  run-alone : (s : State) (r : Run) → AreKnown setting ask s.entries → Begins setting ask ask r r → ((t : State) (ps : List Path) → r ≡ ends (stopped ps) t → StopsAt setting ask s ps t) → Tells setting ask r
  run-alone s (goes t) known b at = b.1
  run-alone s (ends (stopped ps) t) known b at = stop-tells s t ps known b (at t ps refl)
  run-alone s _ known b at = tt

  command-tells : (line : ℕ) (c : Command) (s : State) → AreKnown setting ask s.entries → Tells setting ask (command_run setting ask line c s)
  unfolding run
  command-tells line c s known =
      let B : Run → Type 0 = λ r. Begins setting ask ask r r in
      run-alone s (command_run setting ask line c s) known
      (subst B (then-finish (command_run setting ask line c s)) (own-begins (simple line c finish) s known)) (command-stops line c s)

  -- a choice between runs
  chosen-tells : (line : ℕ) (c : Condition) (f g : State → Run) (s : State) → AreKnown setting ask s.entries → Tells setting ask (f s) → Tells setting ask (g s) →
      Tells setting ask (chosen (condition_result setting ask line c s) f g s)
  unfolding run
  chosen-tells line c f g s known first second =
      (elim (condition_result setting ask line c s) as (λ (r : Result Bool End). condition_result setting ask line c s ≡ r → Tells setting ask (chosen r f g s)) [
        | Ok v ↦ λ is. elim v as (λ (b : Bool). Tells setting ask (chosen (Ok b) f g s)) [ true ↦ first | false ↦ second ]
        | Err e ↦ λ is. end-tells e s known (rw is at (own-begins (choice line c finish finish finish) s known))
      ]) refl

  turns-tells : (turn : List ℕ → State → Run) → ((value : List ℕ) (t : State) → AreKnown setting ask t.entries → Tells setting ask (turn value t)) →
      (values : List (List ℕ)) (s : State) → AreKnown setting ask s.entries → Tells setting ask (turns turn values s)
  turns-tells turn each [] s known = known
  turns-tells turn each (value ∷ values) s known = then-tells (turn value s) (turns turn values) (each value s known) (turns-tells turn each values)

  looped-tells : (line : ℕ) (name : List ℕ) (ws : List Rattle.redo_script.specs.Syntax.Word) (turn : List ℕ → State → Run) →
      ((value : List ℕ) (t : State) → AreKnown setting ask t.entries → Tells setting ask (turn value t)) →
      (s : State) → AreKnown setting ask s.entries → Tells setting ask (looped (texts_of setting line ws) turn s)
  unfolding run
  looped-tells line name ws turn each s known =
      (elim (texts_of setting line ws) as (λ (r : Result (List (List ℕ)) End). texts_of setting line ws ≡ r → Tells setting ask (looped r turn s)) [
        | Ok values ↦ λ is. turns-tells turn each values s known
        | Err e ↦ λ is. end-tells e s known (rw is at (own-begins (loop line name ws finish finish) s known))
      ]) refl

-- What is known in a turn of a loop is known round it.
turn-tells : (setting : Setting) (ask : Ask) (name value : List ℕ) (r : Run) → Tells (with_value setting name value) ask r → Tells setting ask r
turn-tells setting ask name value (goes t) h = record { known = h.known }
turn-tells setting ask name value (ends (stopped ps) t) h = h
turn-tells setting ask name value _ h = tt

run-tells : (setting : Setting) (ask : Ask) (c : Script) (s : State) → AreKnown setting ask s.entries → Tells setting ask (run setting ask c s)
unfolding run
run-tells setting ask finish s known = known
run-tells setting ask (simple line c rest) s known =
    then-tells setting ask (command_run setting ask line c s) (run setting ask rest) (command-tells setting ask line c s known) (run-tells setting ask rest)
run-tells setting ask (choice line c first second rest) s known =
    then-tells setting ask (chosen (condition_result setting ask line c s) (run setting ask first) (run setting ask second) s) (run setting ask rest)
    (chosen-tells setting ask line c (run setting ask first) (run setting ask second) s known (run-tells setting ask first s known) (run-tells setting ask second s known))
    (run-tells setting ask rest)
run-tells setting ask (loop line name ws body rest) s known =
    then-tells setting ask (looped (texts_of setting line ws) (λ value. run (with_value setting name value) ask body) s) (run setting ask rest)
    (looped-tells setting ask line name ws (λ value. run (with_value setting name value) ask body)
    (λ value t there. turn-tells setting ask name value (run (with_value setting name value) ask body t)
    (run-tells (with_value setting name value) ask body t (record { known = there.known }))) s known)
    (run-tells setting ask rest)

-- a whole script that stops names what its entries lack
pub stopped-lacks : (setting : Setting) (ask : Ask) (script : Script) (ps : List Path) (t : State) →
    meaning setting ask script ≡ ends (stopped ps) t → ps ≡ lacked setting ask t.entries
unfolding meaning
stopped-lacks setting ask script ps t h =
    let P : Run → Type 0 = Tells setting ask in
    subst P h (run-tells setting ask script start (record { known = λ p bad. absurd cc }))
