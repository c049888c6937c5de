-- How a walk through statements comes to the place where they end.
use Rattle.std.proofs.Common.{◌≡◌, ℕ, zero, suc, ◌+◌, ◌<◌, ◌≤◌, true, false, length, get_or, List, [], ◌∷◌, ◌++◌}
use Rattle.std.proofs.Common.{take, drop, Result, Ok, Err, refl, sym, ap, ◌∙◌, subst, add-one, arith}
use Rattle.std.proofs.Math.Seq.{drop-cons, take-suc}
use Rattle.std.proofs.lemmas.List.{take-append-drop, take_all}
use Rattle.std.proofs.Common.{◌⊎◌, inl, inr}
use Rattle.std.specs.Prelude.{option_map}
use Rattle.std.specs.declared.vec.Vec.{Vec}
use Rattle.std.specs.declared.alloc.Global.{Global}
use Rattle.redo_script.specs.declared.ast.Stmt.{Stmt}
use Rattle.redo_script.specs.declared.ast.Stmt.TheOpen.{Stmt-F}
use Rattle.redo_script.specs.declared.ast.Stmt.TheOpen as opens
use Rattle.redo_script.specs.declared.ast.Stmt.TheVariants as stmt
use Rattle.redo_script.specs.declared.ast.Stmt.TheViews.{out-Stmt, outs-If, outs-Simple, outs-Loop}
use Rattle.redo_script.specs.declared.ast.Command.{Command as CommandTree}
use Rattle.redo_script.specs.declared.ast.Condition.{Condition as ConditionTree}
use Rattle.redo_script.specs.declared.ast.Word.{Word as WordTree}
use Rattle.redo_script.specs.Syntax.{Script, finish, simple, choice, loop}
use Rattle.redo_script.specs.View.{before, script_of, command_of, condition_of, words_of}
use Rattle.redo_record.specs.Answers.{Ask}
use Rattle.redo_step.specs.declared.ends.EndPlace.{EndPlace}
use Rattle.redo_step.specs.declared.halt.Halt.{Halt}
use Rattle.redo_step.specs.declared.halt.Halt.TheVariants as stops
use Rattle.redo_step.specs.declared.walk.Round.{Round}
use Rattle.redo_step.specs.declared.walk.Walked.{Walked}
use Rattle.redo_step.specs.declared.walk.Walked.TheVariants as walks
use Rattle.redo_step.specs.Setting.{Setting, with_value}
use Rattle.redo_step.specs.Runs.{State, start, End, stopped, Run, goes, ends, end_of}
use Rattle.redo_step.specs.Statements.{run, meaning, then_run, chosen, looped, turns, command_run, condition_result}
use Rattle.redo_step.specs.Words.{texts_of}
use Rattle.redo_step.specs.Place.{skip, behind_first}
use Rattle.redo_step.specs.Ends.{size, first_alone, finding, Act, command, condition, words, Moment, moment_of, act_run}
use Rattle.redo_step.specs.Ends.{act_operands, ComesTo, to_command, to_condition, in_first, in_second, to_words, in_turn}
use Rattle.redo_step.specs.Ends.{behind, EndsAt, Blames, HasNoEnd}
use Rattle.redo_step.specs.declared.operands.Role.TheVariants.{Text}
use Rattle.redo_step.specs.Operands.{Operand, all_as, command_operands, condition_operands}
use Rattle.redo_step.specs.inside.Machine.{run_by, end_by, IsMeant}
use Rattle.redo_step.specs.inside.Walk.{Walks, Passes, round_turns, WalksTurns, IsHalted, IsFurther}
use Rattle.redo_step.proofs.SliceLemmas.{opened, before-opened, behind-before, skip_past}
use Rattle.redo_step.proofs.WeightLemmas.{weight, weight_before}
use Rattle.redo_step.proofs.ComesLemmas.{opened_simple, opened_if, opened_loop, at_item}
use Rattle.redo_step.proofs.EndLemmas.{runs_first, turns-append, comes_ends}

-- Sizes

size_weight : (s : Script) → size s ≡ weight s
size_weight finish = refl
size_weight (simple line c rest) = let r = size_weight rest in omega arith
size_weight (choice line c a b rest) = let x = size_weight a in let y = size_weight b in let r = size_weight rest in omega arith
size_weight (loop line name ws body rest) = let x = size_weight body in let r = size_weight rest in omega arith

size_before : (x : Stmt) (rest : Script) → size (before x rest) ≡ size (before x finish) + size rest
size_before x rest =
    let a = size_weight (before x rest) in let b = size_weight (before x finish) in let c = size_weight rest in let w = weight_before x rest in
    omega arith

pub size_simple : (x : Stmt) (line : ℕ) (c : CommandTree) → x ≡ stmt.Simple line c → size (before x finish) ≡ 1
size_simple x line c is =
    let o : before x finish ≡ simple line (command_of c) finish = before-opened x finish ∙ rw is (ap (λ o. opened o finish) (outs-Simple line c)) in
    rw o refl

pub size_if : (x : Stmt) (line : ℕ) (c : ConditionTree) (a b : Vec Stmt Global) → x ≡ stmt.If line c a b → size (before x finish) ≡ size (script_of a.items) + size (script_of b.items) + 1
size_if x line c a b is =
    let o : before x finish ≡ choice line (condition_of c) (script_of a.items) (script_of b.items) finish = before-opened x finish ∙ rw is (ap (λ o. opened o finish) (outs-If line c a b)) in
    rw o (omega arith)

pub size_loop : (x : Stmt) (line : ℕ) (name : List ℕ) (ws : Vec WordTree Global) (body : Vec Stmt Global) → x ≡ stmt.Loop line name ws body → size (before x finish) ≡ size (script_of body.items) + 1
size_loop x line name ws body is =
    let o : before x finish ≡ loop line name (words_of ws.items) (script_of body.items) finish = before-opened x finish ∙ rw is (ap (λ o. opened o finish) (outs-Loop line name ws body)) in
    rw o (omega arith)

size_none : (xs : List Stmt) → size (script_of (take 0 xs)) ≡ 0
size_none [] = refl
size_none (x ∷ xs) = refl

size_suc : (xs : List Stmt) (i : ℕ) (x : Stmt) → i < length xs → x ≡ get_or xs i x → size (script_of (take (suc i) xs)) ≡ size (script_of (take i xs)) + size (before x finish)
size_suc [] i x lt is = absurd (omega arith)
size_suc (y ∷ ys) zero x lt is = let e : size (before y finish) ≡ size (before x finish) = ap (λ (z : Stmt). size (before z finish)) (sym is) in omega arith
size_suc (y ∷ ys) (suc i) x lt is =
    let h = size_suc ys i x (omega arith) is in let a = size_before y (script_of (take (suc i) ys)) in let b = size_before y (script_of (take i ys)) in
    omega arith

-- one more statement
pub size_next : (xs : List Stmt) (i : ℕ) (x : Stmt) → i < length xs → x ≡ get_or xs i x → size (script_of (take (i + 1) xs)) ≡ size (script_of (take i xs)) + size (before x finish)
size_next xs i x lt is = rw add-one (size_suc xs i x lt is)

pub size_all : (xs : List Stmt) (i : ℕ) → length xs ≤ i → size (script_of (take i xs)) ≡ size (script_of xs)
size_all xs i le = ap (λ (ys : List Stmt). size (script_of ys)) (take_all i xs le)

-- A place in a part, as one in the whole

pub moved : (ask : Ask) (inner outer : Setting) (part whole : Script) (s t : State) (place : EndPlace) (k : ℕ) → ((m : Moment) → ComesTo ask inner part s place.statement m → ComesTo ask outer whole t k m) → EndsAt inner ask part s place → EndsAt outer ask whole t (record place { statement = k })
moved ask inner outer part whole s t place k f h = record { moment = h.moment; state = h.state; comes = f h.moment h.comes; ending = h.ending; blames = h.blames }

alone-opened : (x : Stmt-F Stmt) (rest : Script) → first_alone (opened x rest) ≡ opened x finish
alone-opened (opens.Simple line c) rest = refl
alone-opened (opens.If line c a b) rest = refl
alone-opened (opens.Loop line name ws body) rest = refl

alone-before : (x : Stmt) (rest : Script) → first_alone (before x rest) ≡ before x finish
alone-before x rest = ap first_alone (before-opened x rest) ∙ alone-opened (out-Stmt x) rest ∙ sym (before-opened x finish)

module _ (setting : Setting) (ask : Ask) where
  -- a statement, and then the rest
  front_run : (x : Stmt) (rest : Script) (s : State) → run setting ask (before x rest) s ≡ then_run (run setting ask (before x finish) s) (run setting ask rest)
  front_run x rest s =
      runs_first setting ask (before x rest) s ∙ ap (λ y. then_run (run setting ask y s) (run setting ask (behind_first (before x rest)))) (alone-before x rest) ∙ ap (λ y. then_run (run setting ask (before x finish) s) (run setting ask y)) (behind-before x rest)

  behind_item : (x : Stmt) (rest : Script) (s t : State) (n : ℕ) (m : Moment) → run setting ask (before x finish) s ≡ goes t → ComesTo ask setting rest t n m → ComesTo ask setting (before x rest) s (size (before x finish) + n) m
  behind_item x rest s t n m h c =
      let first : run setting ask (first_alone (before x rest)) s ≡ goes t = ap (λ y. run setting ask y s) (alone-before x rest) ∙ h in
      let next : ComesTo ask setting (behind_first (before x rest)) t n m = subst (λ (y : Script). ComesTo ask setting y t n m) (sym (behind-before x rest)) c in
      subst (λ (y : Script). ComesTo ask setting (before x rest) s (size y + n) m) (alone-before x rest) (behind first next)

  -- the statements before this one were passed, from the first state to the second
  pub record IsPast (xs : List Stmt) (i : ℕ) (s t : State) : Type 0 where
    pub goes_on : run setting ask (script_of xs) s ≡ run setting ask (skip i (script_of xs)) t
    pub comes : (n : ℕ) (m : Moment) → ComesTo ask setting (skip i (script_of xs)) t n m → ComesTo ask setting (script_of xs) s (size (script_of (take i xs)) + n) m

  pub past_none : (xs : List Stmt) (s : State) → IsPast xs 0 s s
  unfolding skip
  past_none xs s = record {
    goes_on = refl;
    comes = λ n m h. let e = size_none xs in let k : n ≡ size (script_of (take 0 xs)) + n = omega arith in subst (λ (j : ℕ). ComesTo ask setting (script_of xs) s j m) k h;
  }

  pub past_next : (xs : List Stmt) (i : ℕ) (x : Stmt) (s t u : State) → i < length xs → x ≡ get_or xs i x → IsPast xs i s t → run setting ask (before x finish) t ≡ goes u → IsPast xs (i + 1) s u
  past_next xs i x s t u lt is past h =
      let rest = skip (i + 1) (script_of xs) in
      let at = at_item setting ask xs i x lt is in
      record {
        goes_on = past.goes_on ∙ ap (λ y. run setting ask y t) at ∙ front_run x rest t ∙ ap (λ r. then_run r (run setting ask rest)) h;
        comes = λ n m c.
            let here : ComesTo ask setting (skip i (script_of xs)) t (size (before x finish) + n) m = subst (λ (y : Script). ComesTo ask setting y t (size (before x finish) + n) m) (sym at) (behind_item x rest t u n m h c) in
            let there = past.comes (size (before x finish) + n) m here in
            let more = size_next xs i x lt is in
            let k : size (script_of (take i xs)) + (size (before x finish) + n) ≡ size (script_of (take (i + 1) xs)) + n = omega arith in
            subst (λ (j : ℕ). ComesTo ask setting (script_of xs) s j m) k there;
      }

  pub past_all : (xs : List Stmt) (i : ℕ) (s t : State) → length xs ≤ i → IsPast xs i s t → run setting ask (script_of xs) s ≡ goes t
  unfolding run
  past_all xs i s t le past = past.goes_on ∙ ap (λ y. run setting ask y t) (skip_past xs i le)

  pub past_ends : (xs : List Stmt) (i count : ℕ) (x : Stmt) (s t u : State) (w outer : Walked) → i < length xs → x ≡ get_or xs i x → IsPast xs i s t → count ≡ size (script_of (take i xs)) → (w ≡ walks.Past → ⊥) → Passes setting ask x t w u → IsFurther w count outer → Walks setting ask (script_of xs) s outer u
  past_ends xs i count x s t u walks.Past outer lt is past counts n h further = absurd (n refl)
  past_ends xs i count x s t u (walks.Ended place) outer lt is past counts n h further =
      let rest = skip (i + 1) (script_of xs) in
      let at = at_item setting ask xs i x lt is in
      let here : EndsAt setting ask (skip i (script_of xs)) t place = subst (λ (y : Script). EndsAt setting ask y t place) (sym at) (h rest) in
      rw further (moved ask setting setting (skip i (script_of xs)) (script_of xs) t s place (count + place.statement) (λ m c. rw counts (past.comes place.statement m c)) here)
  past_ends xs i count x s t u walks.Stopped outer lt is past counts n h further =
      let rest = skip (i + 1) (script_of xs) in
      let at = at_item setting ask xs i x lt is in
      let here = h rest in
      rw further (here.0, past.goes_on ∙ ap (λ y. run setting ask y t) at ∙ here.1)

  -- An act that halts

  pub halts : (x : Stmt) (line : ℕ) (act : Act) (s t : State) (halt : Halt) (w : Walked) → ((rest : Script) → ComesTo ask setting (before x rest) s 0 (moment_of setting line act s)) → IsMeant (run_by {X = Unit {0}} (Err halt) t) (act_run setting ask line act s) → (os : List Operand) → os ≡ act_operands act → IsHalted setting ask line t.entries os halt w → Passes setting ask x s w t
  halts x line act s t (stops.Ended e) w first h os same is =
      let ended : act_run setting ask line act s ≡ ends (end_of is.0.end) t = rw is.3 h in
      rw is.1 (λ rest. record {
        moment = moment_of setting line act s;
        state = t;
        comes = rw is.2 (first rest);
        ending = ended;
        blames = rw is.3 (subst (λ (ys : List Operand). Blames setting ask line t.entries (end_of e) ys is.0.fault) same is.4);
      })
  halts x line act s t (stops.Lacks ps) w first h os same is = rw is (λ rest. (ps.items, comes_ends (first rest) t (stopped ps.items) h))
  halts x line act s t (stops.Waits ps waiting) w first h os same is = rw is (λ rest. (ps.items, comes_ends (first rest) t (stopped ps.items) h))
  halts x line act s t stops.Memory w first h os same is = absurd is

  finding_meant : {A : Type 0} (r : Result A End) (halt : Halt) (s : State) → IsMeant (option_map Err (end_by halt)) r → IsMeant (run_by {X = Unit {0}} (Err halt) s) (finding r s)
  finding_meant r (stops.Ended e) s h = ap (λ y. finding y s) h
  finding_meant r (stops.Lacks ps) s h = ap (λ y. finding y s) h
  finding_meant r (stops.Waits ps waiting) s h = ap (λ y. finding y s) h
  finding_meant r stops.Memory s h = tt

  -- A command

  pub simple_goes : (x : Stmt) (line : ℕ) (c : CommandTree) (s t : State) → x ≡ stmt.Simple line c → command_run setting ask line (command_of c) s ≡ goes t → run setting ask (before x finish) s ≡ goes t
  unfolding run
  simple_goes x line c s t is h = ap (λ y. run setting ask y s) (opened_simple setting ask x line c finish is) ∙ ap (λ r. then_run r (run setting ask finish)) h

  pub simple_halts : (x : Stmt) (line : ℕ) (c : CommandTree) (s t : State) (halt : Halt) (w : Walked) → x ≡ stmt.Simple line c → IsMeant (run_by {X = Unit {0}} (Err halt) t) (command_run setting ask line (command_of c) s) → (os : List Operand) → os ≡ command_operands (command_of c) → IsHalted setting ask line t.entries os halt w → Passes setting ask x s w t
  simple_halts x line c s t halt w is h os same halted =
      halts x line (command (command_of c)) s t halt w (λ rest. subst (λ (y : Script). ComesTo ask setting y s 0 (moment_of setting line (command (command_of c)) s)) (sym (opened_simple setting ask x line c rest is)) to_command) h os same halted

  -- A part of a statement

  pub inside_passes : (x : Stmt) (part : Script) (k : ℕ) (s t : State) (w outer : Walked) → ((rest : Script) → run setting ask (before x rest) s ≡ then_run (run setting ask part s) (run setting ask rest)) → ((rest : Script) (n : ℕ) (m : Moment) → ComesTo ask setting part s n m → ComesTo ask setting (before x rest) s (k + n) m) →
      Walks setting ask part s w t → IsFurther w k outer → Passes setting ask x s outer t
  unfolding run
  inside_passes x part k s t walks.Past outer enters comes h further = rw further (enters finish ∙ ap (λ r. then_run r (run setting ask finish)) h)
  inside_passes x part k s t (walks.Ended place) outer enters comes h further =
      rw further (λ rest. moved ask setting setting part (before x rest) s s place (k + place.statement) (λ m c. comes rest place.statement m c) h)
  inside_passes x part k s t walks.Stopped outer enters comes h further = rw further (λ rest. (h.0, enters rest ∙ ap (λ r. then_run r (run setting ask rest)) h.1))

  pub first_passes : (x : Stmt) (line : ℕ) (c : ConditionTree) (a b : Vec Stmt Global) (items : List Stmt) (s t : State) (w outer : Walked) → x ≡ stmt.If line c a b → condition_result setting ask line (condition_of c) s ≡ Ok true → items ≡ a.items → Walks setting ask (script_of items) s w t → IsFurther w 1 outer → Passes setting ask x s outer t
  unfolding run
  first_passes x line c a b items s t w outer is cond part h further =
      let first = script_of a.items in let second = script_of b.items in
      let h' : Walks setting ask first s w t = subst (λ (y : List Stmt). Walks setting ask (script_of y) s w t) part h in
      inside_passes x first 1 s t w outer
      (λ rest. ap (λ y. run setting ask y s) (opened_if setting ask x line c a b rest is) ∙ ap (λ r. then_run (chosen r (run setting ask first) (run setting ask second) s) (run setting ask rest)) cond)
      (λ rest n m comes. subst (λ (y : Script). ComesTo ask setting y s (1 + n) m) (sym (opened_if setting ask x line c a b rest is)) (in_first cond comes))
      h' further

  pub second_passes : (x : Stmt) (line : ℕ) (c : ConditionTree) (a b : Vec Stmt Global) (items : List Stmt) (s t : State) (w outer : Walked) → x ≡ stmt.If line c a b → condition_result setting ask line (condition_of c) s ≡ Ok false → items ≡ b.items → Walks setting ask (script_of items) s w t → IsFurther w (1 + size (script_of a.items)) outer → Passes setting ask x s outer t
  unfolding run
  second_passes x line c a b items s t w outer is cond part h further =
      let first = script_of a.items in let second = script_of b.items in
      let h' : Walks setting ask second s w t = subst (λ (y : List Stmt). Walks setting ask (script_of y) s w t) part h in
      inside_passes x second (1 + size first) s t w outer
      (λ rest. ap (λ y. run setting ask y s) (opened_if setting ask x line c a b rest is) ∙ ap (λ r. then_run (chosen r (run setting ask first) (run setting ask second) s) (run setting ask rest)) cond)
      (λ rest n m comes. subst (λ (y : Script). ComesTo ask setting y s (1 + size first + n) m) (sym (opened_if setting ask x line c a b rest is)) (in_second cond comes))
      h' further

  pub condition_halts : (x : Stmt) (line : ℕ) (c : ConditionTree) (a b : Vec Stmt Global) (s : State) (halt : Halt) (w : Walked) → x ≡ stmt.If line c a b → IsMeant (option_map Err (end_by halt)) (condition_result setting ask line (condition_of c) s) → (os : List Operand) → os ≡ condition_operands (condition_of c) → IsHalted setting ask line s.entries os halt w → Passes setting ask x s w s
  condition_halts x line c a b s halt w is h os same halted =
      halts x line (condition (condition_of c)) s s halt w (λ rest. subst (λ (y : Script). ComesTo ask setting y s 0 (moment_of setting line (condition (condition_of c)) s)) (sym (opened_if setting ask x line c a b rest is)) to_condition) (finding_meant (condition_result setting ask line (condition_of c) s) halt s h) os same halted

  -- A loop

  pub words_halt : (x : Stmt) (line : ℕ) (name : List ℕ) (ws : Vec WordTree Global) (body : Vec Stmt Global) (s : State) (halt : Halt) (w : Walked) → x ≡ stmt.Loop line name ws body → IsMeant (option_map Err (end_by halt)) (texts_of setting line (words_of ws.items)) → (os : List Operand) → os ≡ all_as Text (words_of ws.items) → IsHalted setting ask line s.entries os halt w → Passes setting ask x s w s
  words_halt x line name ws body s halt w is h os same halted =
      halts x line (words (words_of ws.items)) s s halt w (λ rest. subst (λ (y : Script). ComesTo ask setting y s 0 (moment_of setting line (words (words_of ws.items)) s)) (sym (opened_loop setting ask x line name ws body rest is)) to_words) (finding_meant (texts_of setting line (words_of ws.items)) halt s h) os same halted

  item_split : (values : List (List ℕ)) (i : ℕ) (value : List ℕ) → i < length values → value ≡ get_or values i value → drop i values ≡ value ∷ drop (i + 1) values
  item_split values i value lt is = rw add-one (drop-cons values i value lt ∙ ap (λ v. v ∷ drop (suc i) values) (sym is))

  values_split : (values : List (List ℕ)) (i : ℕ) (value : List ℕ) → i < length values → value ≡ get_or values i value → values ≡ take i values ++ value ∷ drop (i + 1) values
  values_split values i value lt is = sym (take-append-drop i values) ∙ ap (λ back. take i values ++ back) (item_split values i value lt is)

  pub turn_goes : (round : Round) (i : ℕ) (value : List ℕ) (inner : Setting) (s t u : State) → i < length round.values.now → value ≡ get_or round.values.now i value → inner ≡ with_value setting round.name.now value → round_turns setting ask round (take i round.values.now) s ≡ goes t → run inner ask (script_of round.body.now) t ≡ goes u → round_turns setting ask round (take (i + 1) round.values.now) s ≡ goes u
  turn_goes round i value inner s t u lt is binds before h =
      let turn : List ℕ → State → Run = λ v. run (with_value setting round.name.now v) ask (script_of round.body.now) in
      let more : take (i + 1) round.values.now ≡ take i round.values.now ++ value ∷ [] = rw add-one (take-suc round.values.now i value lt ∙ ap (λ v. take i round.values.now ++ v ∷ []) (sym is)) in
      let here : turn value t ≡ goes u = subst (λ (y : Setting). run y ask (script_of round.body.now) t ≡ goes u) binds h in
      ap (λ vs. turns turn vs s) more ∙ turns-append turn (take i round.values.now) (value ∷ []) s ∙ ap (λ r. then_run r (turns turn (value ∷ []))) before ∙ ap (λ r. then_run r (turns turn [])) here

  pub turn_ends : (round : Round) (i : ℕ) (value : List ℕ) (inner : Setting) (s t u : State) (w : Walked) → i < length round.values.now → value ≡ get_or round.values.now i value → inner ≡ with_value setting round.name.now value → round_turns setting ask round (take i round.values.now) s ≡ goes t → (w ≡ walks.Past → ⊥) → Walks inner ask (script_of round.body.now) t w u → WalksTurns setting ask round s w u
  turn_ends round i value inner s t u walks.Past lt is binds before n h = absurd (n refl)
  turn_ends round i value inner s t u (walks.Ended place) lt is binds before n h = record {
    front = take i round.values.now;
    back = drop (i + 1) round.values.now;
    value = value;
    splits = values_split round.values.now i value lt is;
    between = t;
    goes_on = before;
    ends_at = subst (λ (y : Setting). EndsAt y ask (script_of round.body.now) t place) binds h;
  }
  turn_ends round i value inner s t u walks.Stopped lt is binds before n h =
      let turn : List ℕ → State → Run = λ v. run (with_value setting round.name.now v) ask (script_of round.body.now) in
      let more = drop (i + 1) round.values.now in
      let here : turn value t ≡ ends (stopped h.0) u = subst (λ (y : Setting). run y ask (script_of round.body.now) t ≡ ends (stopped h.0) u) binds h.1 in
      (h.0, ap (λ vs. turns turn vs s) (values_split round.values.now i value lt is) ∙ turns-append turn (take i round.values.now) (value ∷ more) s ∙ ap (λ r. then_run r (turns turn (value ∷ more))) before ∙ ap (λ r. then_run r (turns turn more)) here)

  pub turns_over : (round : Round) (i : ℕ) (s t : State) → length round.values.now ≤ i → round_turns setting ask round (take i round.values.now) s ≡ goes t → round_turns setting ask round round.values.now s ≡ goes t
  turns_over round i s t le h = ap (λ vs. round_turns setting ask round vs s) (sym (take_all i round.values.now le)) ∙ h

  module _ (x : Stmt) (line : ℕ) (name : List ℕ) (ws : Vec WordTree Global) (body : Vec Stmt Global) (round : Round) (is : x ≡ stmt.Loop line name ws body) (texts : texts_of setting line (words_of ws.items) ≡ Ok round.values.now) (name_is : round.name.now ≡ name) (body_is : round.body.now ≡ body.items) where
    opened_round : (rest : Script) → before x rest ≡ loop line round.name.now (words_of ws.items) (script_of round.body.now) rest
    opened_round rest = rw (name_is, body_is) (opened_loop setting ask x line name ws body rest is)

    round_runs : (rest : Script) (s : State) → run setting ask (before x rest) s ≡ then_run (round_turns setting ask round round.values.now s) (run setting ask rest)
    unfolding run
    round_runs rest s =
        ap (λ y. run setting ask y s) (opened_round rest) ∙ ap (λ r. then_run (looped r (λ v. run (with_value setting round.name.now v) ask (script_of round.body.now)) s) (run setting ask rest)) texts

    pub loop_passes : (s t : State) (w outer : Walked) → WalksTurns setting ask round s w t → IsFurther w 1 outer → Passes setting ask x s outer t
    unfolding run
    loop_passes s t walks.Past outer h further = rw further (round_runs finish s ∙ ap (λ r. then_run r (run setting ask finish)) h)
    loop_passes s t (walks.Ended place) outer h further =
        let whole : texts_of setting line (words_of ws.items) ≡ Ok (h.front ++ h.value ∷ h.back) = texts ∙ ap Ok h.splits in
        rw further (λ rest. moved ask (with_value setting round.name.now h.value) setting (script_of round.body.now) (before x rest) h.between s place (1 + place.statement)
        (λ m c. subst (λ (y : Script). ComesTo ask setting y s (1 + place.statement) m) (sym (opened_round rest)) (in_turn h.front h.back whole h.goes_on c)) h.ends_at)
    loop_passes s t walks.Stopped outer h further = rw further (λ rest. (h.0, round_runs rest s ∙ ap (λ r. then_run r (run setting ask rest)) h.1))

-- further, and further again
pub further_twice : (w mid outer : Walked) (a b : ℕ) → IsFurther w a mid → IsFurther mid b outer → IsFurther w (b + a) outer
further_twice walks.Past mid outer a b one two = subst (λ (y : Walked). IsFurther y b outer) one two
further_twice (walks.Ended place) mid outer a b one two =
    let there : outer ≡ walks.Ended (record place { statement = b + (a + place.statement) }) = subst (λ (y : Walked). IsFurther y b outer) one two in
    let sum : b + (a + place.statement) ≡ b + a + place.statement = omega arith in
    there ∙ ap (λ (k : ℕ). walks.Ended (record place { statement = k })) sum
further_twice walks.Stopped mid outer a b one two = subst (λ (y : Walked). IsFurther y b outer) one two

-- A walk that found no end

pub no_end : (setting : Setting) (ask : Ask) (script : Script) (s t : State) (w : Walked) → s ≡ start → (w ≡ walks.Past) ⊎ (w ≡ walks.Stopped) → Walks setting ask script s w t → HasNoEnd (meaning setting ask script)
unfolding meaning
no_end setting ask script s t walks.Past begins ends_so h = rw (← begins, h) tt
no_end setting ask script s t (walks.Ended place) begins ends_so h = elim ends_so [ inl e ↦ absurd cc | inr e ↦ absurd cc ]
no_end setting ask script s t walks.Stopped begins ends_so h = rw (← begins, h.1) tt
