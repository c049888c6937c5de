-- How the progress of a part becomes that of the whole.
use Rattle.std.proofs.Common.{◌≡◌, ℕ, suc, ◌+◌, ◌<◌, ◌≤◌, Bool, true, false, length, get_or, List, [], ◌∷◌, drop}
use Rattle.std.proofs.Common.{Result, Ok, Err, IfOk, refl, sym, ap, ◌∙◌, subst, add-one, arith, length-drop}
use Rattle.std.proofs.lemmas.List.{nil_from_length}
use Rattle.std.specs.declared.vec.Vec.{Vec}
use Rattle.std.specs.declared.alloc.Global.{Global}
use Rattle.std.specs.Prelude.{Box, None, IfSome, option_map}
use Rattle.redo_script.specs.declared.ast.Stmt.{Stmt}
use Rattle.redo_script.specs.declared.ast.Stmt.TheVariants as stmt
use Rattle.redo_script.specs.declared.ast.Stmt.TheViews.{out-Stmt, outs-If, outs-Simple, outs-Loop}
use Rattle.redo_script.specs.declared.ast.Command.{Command as CommandTree}
use Rattle.redo_script.specs.declared.ast.Condition.{Condition as ConditionTree}
use Rattle.redo_script.specs.declared.ast.Word.{Word as WordTree}
use Rattle.redo_script.specs.Syntax.{Script, finish, simple, choice, loop, Word, Command, Condition}
use Rattle.redo_script.specs.View.{before, script_of, command_of, condition_of, words_of}
use Rattle.redo_step.specs.declared.place.Branch.{Branch}
use Rattle.redo_step.specs.declared.place.Branch.TheVariants.{First, Second}
use Rattle.redo_step.specs.declared.place.StopPlace.{StopPlace, Before, Within', InTurn'}
use Rattle.redo_step.specs.declared.place.StopPlace.TheVariants as places
use Rattle.redo_step.specs.declared.halt.Halt.{Halt}
use Rattle.redo_step.specs.declared.halt.Halt.TheVariants as stops
use Rattle.redo_step.specs.declared.machine.RunEnd.{RunEnd}
use Rattle.redo_step.specs.declared.machine.RunEnd.TheVariants as progress
use Rattle.redo_step.specs.declared.machine.Turns.{Turns}
use Rattle.redo_record.specs.Paths.{Path}
use Rattle.redo_step.specs.Setting.{Setting, with_value}
use Rattle.redo_step.specs.Runs.{State, End, stopped, goes, ends}
use Rattle.redo_step.specs.Statements.{run, then_run, chosen, looped, command_run, condition_result}
use Rattle.redo_step.specs.Words.{texts_of}
use Rattle.redo_record.specs.Answers.{Ask}
use Rattle.redo_step.specs.Place.{Rest, all_of, and_then, turns_of, skip, inside, in_turn}
use Rattle.redo_step.specs.inside.Stands.{branch_of, body_in, Standing}
use Rattle.redo_step.specs.Place.{left_at}
use Rattle.redo_step.specs.inside.Stands.{stands_at}
use Rattle.redo_step.specs.Reach.{Reaches}
use Rattle.redo_step.specs.inside.Machine.{end_of, end_by, kept_by, run_by, IsMeant, Comes, IsStopBefore, IsWithin, IsInTurn, IsPassed}
use Rattle.redo_step.specs.inside.Machine.{turns_from, AreRun, IsTurn, picked, HasBranch, HasNoBranch, HasTurns, HasNoTurn}
use Rattle.redo_step.specs.inside.Kept.{HasOperands, IsFirst}
use Rattle.redo_step.proofs.RunLemmas.{Keeps-refl, Reaches-refl, Reaches-trans, Reaches-and_then, Reaches-turn}
use Rattle.redo_step.proofs.StepLemmas.{reaches_simple, stops_simple, reaches_branch, branch_when, reaches_turns}
use Rattle.redo_step.proofs.SliceLemmas.{opened, before-opened, skip_at, skip_past}

pub if_ok_map : {A E : Type 0} {P Q : A → Type 0} (r : Result A E) → ((x : A) → P x → Q x) → IfOk r P → IfOk r Q
if_ok_map (Ok x) f h = f x h
if_ok_map (Err e) f h = h

module _ (setting : Setting) (ask : Ask) where
  -- a part that was run before
  pub comes_after : (whole : Script) (a b rest : Rest) (s t u : State) (p : RunEnd) → Reaches setting ask a s b t → Comes setting ask whole b rest t p u → Comes setting ask whole a rest s p u
  comes_after whole a b rest s t u progress.Finished r c = Reaches-trans setting ask a b rest s t u r c
  comes_after whole a b rest s t u (progress.Ended e) r c = r.same ask (Keeps-refl setting t.entries ask) ∙ c
  comes_after whole a b rest s t u (progress.Stopped ps place kept) r c = (Reaches-trans setting ask a b (left_at place setting whole) s t u r c.0, c.1, c.2)

  -- a run that did not finish says the same of any rest
  pub comes_default : (whole : Script) (a rest other : Rest) (s t : State) (p : RunEnd) → (p ≡ progress.Finished → ⊥) → Comes setting ask whole a rest s p t → Comes setting ask whole a other s p t
  comes_default whole a rest other s t progress.Finished n c = absurd (n refl)
  comes_default whole a rest other s t (progress.Ended e) n c = c
  comes_default whole a rest other s t (progress.Stopped ps place kept) n c = c

  ends_run : (line : ℕ) (c : Command) (rest : Script) (s t : State) (e : End) → command_run setting ask line c s ≡ ends e t → run setting ask (simple line c rest) s ≡ ends e t
  unfolding run
  ends_run line c rest s t e h = ap (λ r. then_run r (run setting ask rest)) h

  at_place : (index : ℕ) (whole script : Script) → skip index whole ≡ script → left_at (Before index) setting whole ≡ all_of setting script
  unfolding left_at
  at_place index whole script h = ap (all_of setting) h

  stands_before : (index : ℕ) (whole : Script) → stands_at (Before index) setting whole ≡ record { setting = setting; script = skip index whole }
  unfolding stands_at
  stands_before index whole = refl

  -- a command

  lacking_comes : (line : ℕ) (c : Command) (index : ℕ) (s t : State) (ps : List Path) (whole rest : Script) → command_run setting ask line c s ≡ ends (stopped ps) t → skip index whole ≡ simple line c rest → Reaches setting ask (all_of setting (simple line c rest)) s (left_at (Before index) setting whole) t × (left_at (Before index) setting whole ask t ≡ ends (stopped ps) t)
  lacking_comes line c index s t ps whole rest e at =
      let reached = stops_simple setting ask line c rest s t (stopped ps) e in
      let same : left_at (Before index) setting whole ≡ all_of setting (simple line c rest) = at_place index whole (simple line c rest) at in
      let again : run setting ask (simple line c rest) t ≡ ends (stopped ps) t = sym (reached.same ask (Keeps-refl setting t.entries ask)) ∙ ends_run line c rest s t (stopped ps) e in
      (rw same reached, rw same again)

  pub stop_comes : (line : ℕ) (c : Command) (index : ℕ) (s t : State) (stop : Halt) (p : RunEnd) (whole rest : Script) (other : Rest) → IsMeant (run_by {X = Unit {0}} (Err stop) t) (command_run setting ask line c s) → IfSome (kept_by {X = Unit {0}} (Err stop)) (HasOperands setting line c t) → IsStopBefore stop index p → skip index whole ≡ simple line c rest → Comes setting ask whole (all_of setting (simple line c rest)) other s p t
  stop_comes line c index s t (stops.Ended w) p whole rest other e k is at = rw is (ends_run line c rest s t (end_of w) e)
  stop_comes line c index s t (stops.Lacks ps) p whole rest other e k is at = let l = lacking_comes line c index s t ps.items whole rest e at in rw is (l.0, l.1, tt)
  stop_comes line c index s t (stops.Waits ps w) p whole rest other e k is at =
      let l = lacking_comes line c index s t ps.items whole rest e at in
      let first : IsFirst setting (skip index whole) t w = record { line = line; command = c; rest = rest; here = at; has = k } in
      rw is (l.0, l.1, rw (stands_before index whole) first)
  stop_comes line c index s t stops.Memory p whole rest other e k is at = absurd is

  pub opened_simple : (x : Stmt) (line : ℕ) (c : CommandTree) (rest : Script) → x ≡ stmt.Simple line c → before x rest ≡ simple line (command_of c) rest
  opened_simple x line c rest is = before-opened x rest ∙ rw is (ap (λ o. opened o rest) (outs-Simple line c))

  pub opened_if : (x : Stmt) (line : ℕ) (c : ConditionTree) (a b : Vec Stmt Global) (rest : Script) → x ≡ stmt.If line c a b → before x rest ≡ choice line (condition_of c) (script_of a.items) (script_of b.items) rest
  opened_if x line c a b rest is = before-opened x rest ∙ rw is (ap (λ o. opened o rest) (outs-If line c a b))

  pub passes_goes : (x : Stmt) (line : ℕ) (c : CommandTree) (index : ℕ) (s t : State) → x ≡ stmt.Simple line c → command_run setting ask line (command_of c) s ≡ goes t → IsPassed setting ask x index s progress.Finished t
  passes_goes x line c index s t is e = record {
    comes = λ whole rest at. let o = opened_simple x line c rest is in rw o (reaches_simple setting ask line (command_of c) rest s t e);
  }

  pub passes_stop : (x : Stmt) (line : ℕ) (c : CommandTree) (index : ℕ) (s t : State) (stop : Halt) (p : RunEnd) → x ≡ stmt.Simple line c → IsMeant (run_by {X = Unit {0}} (Err stop) t) (command_run setting ask line (command_of c) s) → IfSome (kept_by {X = Unit {0}} (Err stop)) (HasOperands setting line (command_of c) t) → IsStopBefore stop index p → IsPassed setting ask x index s p t
  passes_stop x line c index s t stop p is e k before = record {
    comes = λ whole rest at. let o = opened_simple x line c rest is in rw o (stop_comes line (command_of c) index s t stop p whole rest (all_of setting rest) e k before (at ∙ o));
  }

  -- a statement that can't be begun, since its condition or its words end the run, or lack an answer
  stops_first : {Y : Type 0} (r : Result Y End) (script : Script) (index : ℕ) (s : State) (stop : Halt) (p : RunEnd) (whole : Script) (rest : Rest) → ((w : End) → r ≡ Err w → run setting ask script s ≡ ends w s) → IsMeant (option_map Err (end_by stop)) r → kept_by {X = Y} (Err stop) ≡ None → IsStopBefore stop index p → skip index whole ≡ script → Comes setting ask whole (all_of setting script) rest s p s
  stops_first r script index s (stops.Ended w) p whole rest by e k is at = rw is (by (end_of w) e)
  stops_first r script index s (stops.Lacks ps) p whole rest by e k is at =
      let same : left_at (Before index) setting whole ≡ all_of setting script = at_place index whole script at in
      rw is (rw same (Reaches-refl setting ask (all_of setting script) s), rw same (by (stopped ps.items) e), tt)
  stops_first r script index s (stops.Waits ps w) p whole rest by e k is at = absurd cc
  stops_first r script index s stops.Memory p whole rest by e k is at = absurd is

  choice_ends : (line : ℕ) (c : Condition) (a b rest : Script) (s : State) (w : End) → condition_result setting ask line c s ≡ Err w → run setting ask (choice line c a b rest) s ≡ ends w s
  unfolding run
  choice_ends line c a b rest s w h = ap (λ r. then_run (chosen r (run setting ask a) (run setting ask b) s) (run setting ask rest)) h

  loop_ends : (line : ℕ) (name : List ℕ) (ws : List Word) (body rest : Script) (s : State) (w : End) → texts_of setting line ws ≡ Err w → run setting ask (loop line name ws body rest) s ≡ ends w s
  unfolding run
  loop_ends line name ws body rest s w h = ap (λ r. then_run (looped r (λ value. run (with_value setting name value) ask body) s) (run setting ask rest)) h

  pub passes_check : (x : Stmt) (line : ℕ) (c : ConditionTree) (a b : Vec Stmt Global) (index : ℕ) (s : State) (stop : Halt) (p : RunEnd) → x ≡ stmt.If line c a b → IsMeant (option_map Err (end_by stop)) (condition_result setting ask line (condition_of c) s) → kept_by {X = Bool} (Err stop) ≡ None → IsStopBefore stop index p → IsPassed setting ask x index s p s
  passes_check x line c a b index s stop p is e k before = record {
    comes = λ whole rest at. let o = opened_if x line c a b rest is in rw o (stops_first (condition_result setting ask line (condition_of c) s) (choice line (condition_of c) (script_of a.items) (script_of b.items) rest) index s stop p whole (all_of setting rest) (choice_ends line (condition_of c) (script_of a.items) (script_of b.items) rest s) e k before (at ∙ o));
  }

  pub opened_loop : (x : Stmt) (line : ℕ) (name : List ℕ) (ws : Vec WordTree Global) (body : Vec Stmt Global) (rest : Script) → x ≡ stmt.Loop line name ws body → before x rest ≡ loop line name (words_of ws.items) (script_of body.items) rest
  opened_loop x line name ws body rest is = before-opened x rest ∙ rw is (ap (λ o. opened o rest) (outs-Loop line name ws body))

  pub passes_words : (x : Stmt) (line : ℕ) (name : List ℕ) (ws : Vec WordTree Global) (body : Vec Stmt Global) (index : ℕ) (s : State) (stop : Halt) (p : RunEnd) → x ≡ stmt.Loop line name ws body → IsMeant (option_map Err (end_by stop)) (texts_of setting line (words_of ws.items)) → kept_by {X = List (List ℕ)} (Err stop) ≡ None → IsStopBefore stop index p → IsPassed setting ask x index s p s
  passes_words x line name ws body index s stop p is e k before = record {
    comes = λ whole rest at. let o = opened_loop x line name ws body rest is in rw o (stops_first (texts_of setting line (words_of ws.items)) (loop line name (words_of ws.items) (script_of body.items) rest) index s stop p whole (all_of setting rest) (loop_ends line name (words_of ws.items) (script_of body.items) rest s) e k before (at ∙ o));
  }

  skip_none : (script : Script) → skip 0 script ≡ script
  unfolding skip
  skip_none script = refl

  -- a branch

  and_then_ends : (a rest : Rest) (s t : State) (e : End) → a ask s ≡ ends e t → and_then a rest ask s ≡ ends e t
  and_then_ends a rest s t e h = ap (λ r. then_run r (rest ask)) h

  and_then_finish : (rest : Rest) → and_then (all_of setting finish) rest ≡ rest
  unfolding run
  and_then_finish rest = refl

  inside_choice : (branch : Branch) (left : Setting → Script → Rest) (line : ℕ) (c : Condition) (a b rest : Script) → inside branch left setting (choice line c a b rest) ≡ and_then (left setting (picked branch a b)) (all_of setting rest)
  inside_choice First left line c a b rest = refl
  inside_choice Second left line c a b rest = refl

  left_within : (index : ℕ) (branch : Branch) (q : _) (place : StopPlace) (whole : Script) (line : ℕ) (c : Condition) (a b rest : Script) → skip index whole ≡ choice line c a b rest → left_at (Within' index branch q place) setting whole ≡ and_then (left_at place setting (picked branch a b)) (all_of setting rest)
  unfolding left_at
  left_within index branch q place whole line c a b rest at = ap (inside branch (left_at place) setting) at ∙ inside_choice branch (left_at place) line c a b rest

  pub branch_choice : (branch : Branch) (line : ℕ) (c : Condition) (a b rest : Script) → branch_of branch (choice line c a b rest) ≡ picked branch a b
  branch_choice First line c a b rest = refl
  branch_choice Second line c a b rest = refl

  stands_within : (index : ℕ) (branch : Branch) (q : _) (place : StopPlace) (whole : Script) (line : ℕ) (c : Condition) (a b rest : Script) → skip index whole ≡ choice line c a b rest → stands_at (Within' index branch q place) setting whole ≡ stands_at place setting (picked branch a b)
  unfolding stands_at
  stands_within index branch q place whole line c a b rest at = ap (λ y. stands_at place setting (branch_of branch y)) at ∙ ap (stands_at place setting) (branch_choice branch line c a b rest)

  -- The progress of a part of a branch, as that of the statements round it.
  pub comes_within : (whole : Script) (index : ℕ) (branch : Branch) (line : ℕ) (c : Condition) (a b rest : Script) (part : Rest) (s t : State) (p outer : RunEnd) → skip index whole ≡ choice line c a b rest → Comes setting ask (picked branch a b) part (all_of setting finish) s p t → IsWithin p index branch outer → Comes setting ask whole (and_then part (all_of setting rest)) (all_of setting rest) s outer t
  comes_within whole index branch line c a b rest part s t progress.Finished outer at h w =
      rw w (subst (λ (x : Rest). Reaches setting ask (and_then part (all_of setting rest)) s x t) (and_then_finish (all_of setting rest)) (Reaches-and_then setting ask part (all_of setting finish) (all_of setting rest) s t h))
  comes_within whole index branch line c a b rest part s t (progress.Ended e) outer at h w = rw w (and_then_ends part (all_of setting rest) s t (end_of e) h)
  comes_within whole index branch line c a b rest part s t (progress.Stopped ps place kept) outer at h w =
      let same = left_within index branch w.0 place whole line c a b rest at in
      let stands = stands_within index branch w.0 place whole line c a b rest at in
      rw w.1 (rw same (Reaches-and_then setting ask part (left_at place setting (picked branch a b)) (all_of setting rest) s t h.0), rw same (and_then_ends (left_at place setting (picked branch a b)) (all_of setting rest) t t (stopped ps.items) h.1), rw stands h.2)

  branch_passes : (x : Stmt) (line : ℕ) (c : ConditionTree) (a b : Vec Stmt Global) (branch : Branch) (v : Bool) (items : List Stmt) (index : ℕ) (s t : State) (p outer : RunEnd) → x ≡ stmt.If line c a b → condition_result setting ask line (condition_of c) s ≡ Ok v → branch_when v (script_of a.items) (script_of b.items) ≡ picked branch (script_of a.items) (script_of b.items) → script_of items ≡ picked branch (script_of a.items) (script_of b.items) → Comes setting ask (script_of items) (all_of setting (skip 0 (script_of items))) (all_of setting finish) s p t → IsWithin p index branch outer → IsPassed setting ask x index s outer t
  branch_passes x line c a b branch v items index s t p outer is cond chooses part h w = record {
    comes = λ whole rest at.
        let o = opened_if x line c a b rest is in
        let first = reaches_branch setting ask line (condition_of c) (script_of a.items) (script_of b.items) rest s v cond in
        let inner : Comes setting ask (picked branch (script_of a.items) (script_of b.items)) (all_of setting (picked branch (script_of a.items) (script_of b.items))) (all_of setting finish) s p t = subst (λ (y : Script). Comes setting ask y (all_of setting y) (all_of setting finish) s p t) part (subst (λ (y : Script). Comes setting ask (script_of items) (all_of setting y) (all_of setting finish) s p t) (skip_none (script_of items)) h) in
        let second = comes_within whole index branch line (condition_of c) (script_of a.items) (script_of b.items) rest (all_of setting (picked branch (script_of a.items) (script_of b.items))) s t p outer (at ∙ o) inner w in
        let first' = subst (λ (y : Script). Reaches setting ask (all_of setting (choice line (condition_of c) (script_of a.items) (script_of b.items) rest)) s (and_then (all_of setting y) (all_of setting rest)) s) chooses first in
        rw o (comes_after whole (all_of setting (choice line (condition_of c) (script_of a.items) (script_of b.items) rest)) (and_then (all_of setting (picked branch (script_of a.items) (script_of b.items))) (all_of setting rest)) (all_of setting rest) s s t outer first' second);
  }

  pub passes_first : (x : Stmt) (line : ℕ) (c : ConditionTree) (a b : Vec Stmt Global) (items : List Stmt) (index : ℕ) (s t : State) (p outer : RunEnd) → x ≡ stmt.If line c a b → condition_result setting ask line (condition_of c) s ≡ Ok true → items ≡ a.items → Comes setting ask (script_of items) (all_of setting (skip 0 (script_of items))) (all_of setting finish) s p t → IsWithin p index First outer → IsPassed setting ask x index s outer t
  passes_first x line c a b items index s t p outer is cond part h w = branch_passes x line c a b First true items index s t p outer is cond refl (ap script_of part) h w

  pub passes_second : (x : Stmt) (line : ℕ) (c : ConditionTree) (a b : Vec Stmt Global) (items : List Stmt) (index : ℕ) (s t : State) (p outer : RunEnd) → x ≡ stmt.If line c a b → condition_result setting ask line (condition_of c) s ≡ Ok false → items ≡ b.items → Comes setting ask (script_of items) (all_of setting (skip 0 (script_of items))) (all_of setting finish) s p t → IsWithin p index Second outer → IsPassed setting ask x index s outer t
  passes_second x line c a b items index s t p outer is cond part h w = branch_passes x line c a b Second false items index s t p outer is cond refl (ap script_of part) h w

  -- turns

  left_in_turn : (index : ℕ) (values : List (List ℕ)) (turn : ℕ) (q : _) (place : StopPlace) (whole : Script) (line : ℕ) (name : List ℕ) (ws : List Word) (body rest : Script) (value : List ℕ) (others : List (List ℕ)) → skip index whole ≡ loop line name ws body rest → drop turn values ≡ value ∷ others →
      left_at (InTurn' index values turn q place) setting whole ≡ and_then (and_then (left_at place (with_value setting name value) body) (turns_of setting name body others)) (all_of setting rest)
  unfolding left_at
  left_in_turn index values turn q place whole line name ws body rest value others at d = ap (λ y. in_turn y (left_at place) setting (skip index whole)) d ∙ ap (in_turn (value ∷ others) (left_at place) setting) at

  stands_in_turn : (index : ℕ) (values : List (List ℕ)) (turn : ℕ) (q : _) (place : StopPlace) (whole : Script) (line : ℕ) (name : List ℕ) (ws : List Word) (body rest : Script) (value : List ℕ) (others : List (List ℕ)) → skip index whole ≡ loop line name ws body rest → drop turn values ≡ value ∷ others →
      stands_at (InTurn' index values turn q place) setting whole ≡ stands_at place (with_value setting name value) body
  unfolding stands_at
  stands_in_turn index values turn q place whole line name ws body rest value others at d =
      ap (λ (y : Standing). stands_at place y.setting y.script) (ap (λ y. body_in y setting (skip index whole)) d ∙ ap (body_in (value ∷ others) setting) at)

  finish_turn : (name value : List ℕ) (more : Rest) → and_then (all_of (with_value setting name value) finish) more ≡ more
  unfolding run
  finish_turn name value more = refl

  -- The progress of a part of a turn, as that of the statements round its loop.
  pub comes_in_turn : (whole : Script) (index : ℕ) (values : List (List ℕ)) (turn line : ℕ) (name : List ℕ) (ws : List Word) (body rest : Script) (value : List ℕ) (others : List (List ℕ)) (part : Rest) (s t : State) (p outer : RunEnd) →
      skip index whole ≡ loop line name ws body rest → drop turn values ≡ value ∷ others → Comes (with_value setting name value) ask body part (all_of (with_value setting name value) finish) s p t → IsInTurn p index values turn outer →
      Comes setting ask whole (and_then (and_then part (turns_of setting name body others)) (all_of setting rest)) (and_then (turns_of setting name body others) (all_of setting rest)) s outer t
  comes_in_turn whole index values turn line name ws body rest value others part s t progress.Finished outer at d h w =
      let inner = Reaches-and_then setting ask part (all_of (with_value setting name value) finish) (turns_of setting name body others) s t (Reaches-turn setting name value ask part (all_of (with_value setting name value) finish) s t h) in
      let inner' = subst (λ (x : Rest). Reaches setting ask (and_then part (turns_of setting name body others)) s x t) (finish_turn name value (turns_of setting name body others)) inner in
      rw w (Reaches-and_then setting ask (and_then part (turns_of setting name body others)) (turns_of setting name body others) (all_of setting rest) s t inner')
  comes_in_turn whole index values turn line name ws body rest value others part s t (progress.Ended e) outer at d h w =
      rw w (and_then_ends (and_then part (turns_of setting name body others)) (all_of setting rest) s t (end_of e) (and_then_ends part (turns_of setting name body others) s t (end_of e) h))
  comes_in_turn whole index values turn line name ws body rest value others part s t (progress.Stopped ps place kept) outer at d h w =
      let left = left_at place (with_value setting name value) body in
      let more = turns_of setting name body others in
      let same = left_in_turn index values turn w.0 place whole line name ws body rest value others at d in
      let stands = stands_in_turn index values turn w.0 place whole line name ws body rest value others at d in
      let reaches = Reaches-and_then setting ask (and_then part more) (and_then left more) (all_of setting rest) s t (Reaches-and_then setting ask part left more s t (Reaches-turn setting name value ask part left s t h.0)) in
      rw w.1 (rw same reaches, rw same (and_then_ends (and_then left more) (all_of setting rest) t t (stopped ps.items) (and_then_ends left more t t (stopped ps.items) h.1)), rw stands h.2)

  -- Turns from one on.

  -- a turn, in the setting of its value
  turn_comes : (turns : Turns) (turn : ℕ) (inner : Setting) (t u : State) (p : RunEnd) (is : IsTurn setting turns turn inner) → Comes inner ask (script_of turns.body.now) (all_of inner (skip 0 (script_of turns.body.now))) (all_of inner finish) t p u →
      Comes (with_value setting turns.name.now is.value) ask (script_of turns.body.now) (all_of (with_value setting turns.name.now is.value) (script_of turns.body.now)) (all_of (with_value setting turns.name.now is.value) finish) t p u
  turn_comes turns turn inner t u p is h =
      let body = script_of turns.body.now in
      let here = subst (λ (i : Setting). Comes i ask body (all_of i (skip 0 body)) (all_of i finish) t p u) is.binds h in
      let wv = with_value setting turns.name.now is.value in
      subst (λ (y : Script). Comes wv ask body (all_of wv y) (all_of wv finish) t p u) (skip_none body) here

  turns_split : (turns : Turns) (turn : ℕ) (inner : Setting) (is : IsTurn setting turns turn inner) → turns_from setting turns turn ≡ and_then (all_of (with_value setting turns.name.now is.value) (script_of turns.body.now)) (turns_from setting turns (turn + 1))
  turns_split turns turn inner is = ap (turns_of setting turns.name.now (script_of turns.body.now)) is.here

  -- the turn of this number was run to its end
  pub turn_finished : (turns : Turns) (first turn : ℕ) (inner : Setting) (s t u : State) → IsTurn setting turns turn inner → Reaches setting ask (turns_from setting turns first) s (turns_from setting turns turn) t →
      Comes inner ask (script_of turns.body.now) (all_of inner (skip 0 (script_of turns.body.now))) (all_of inner finish) t progress.Finished u → Reaches setting ask (turns_from setting turns first) s (turns_from setting turns (turn + 1)) u
  turn_finished turns first turn inner s t u is before h =
      let body = script_of turns.body.now in
      let wv = with_value setting turns.name.now is.value in
      let more = turns_from setting turns (turn + 1) in
      let ran = Reaches-and_then setting ask (all_of wv body) (all_of wv finish) more t u (Reaches-turn setting turns.name.now is.value ask (all_of wv body) (all_of wv finish) t u (turn_comes turns turn inner t u progress.Finished is h)) in
      let ran' = subst (λ (x : Rest). Reaches setting ask (and_then (all_of wv body) more) t x u) (finish_turn turns.name.now is.value more) ran in
      let here = subst (λ (x : Rest). Reaches setting ask (turns_from setting turns first) s x t) (turns_split turns turn inner is) before in
      Reaches-trans setting ask (turns_from setting turns first) (and_then (all_of wv body) more) more s t u here ran'

  in_turn_ends : (p outer : RunEnd) (index : ℕ) (values : List (List ℕ)) (turn : ℕ) → (p ≡ progress.Finished → ⊥) → IsInTurn p index values turn outer → outer ≡ progress.Finished → ⊥
  in_turn_ends progress.Finished outer index values turn n w e = n refl
  in_turn_ends (progress.Ended x) outer index values turn n w e = let bad : progress.Ended x ≡ progress.Finished = sym w ∙ e in cc
  in_turn_ends (progress.Stopped ps place kept) outer index values turn n w e = let bad : progress.Stopped ps (InTurn' index values turn w.0 place) kept ≡ progress.Finished = sym w.1 ∙ e in cc

  -- it ended or stopped
  pub turn_stopped : (turns : Turns) (first turn : ℕ) (inner : Setting) (s t u : State) (p outer : RunEnd) → IsTurn setting turns turn inner → Reaches setting ask (turns_from setting turns first) s (turns_from setting turns turn) t →
      (p ≡ progress.Finished → ⊥) → Comes inner ask (script_of turns.body.now) (all_of inner (skip 0 (script_of turns.body.now))) (all_of inner finish) t p u → IsInTurn p turns.index turns.values.now turn outer → AreRun setting ask turns first s outer u
  turn_stopped turns first turn inner s t u p outer is before n h w = record {
    comes = λ whole rest line words at.
        let body = script_of turns.body.now in
        let wv = with_value setting turns.name.now is.value in
        let more = turns_from setting turns (turn + 1) in
        let part = and_then (and_then (all_of wv body) more) (all_of setting rest) in
        let here = subst (λ (x : Rest). Reaches setting ask (turns_from setting turns first) s x t) (turns_split turns turn inner is) before in
        let reaches = Reaches-and_then setting ask (turns_from setting turns first) (and_then (all_of wv body) more) (all_of setting rest) s t here in
        let stops = comes_in_turn whole turns.index turns.values.now turn line turns.name.now words body rest is.value (drop (turn + 1) turns.values.now) (all_of wv body) t u p outer at is.here (turn_comes turns turn inner t u p is h) w in
        comes_after whole (and_then (turns_from setting turns first) (all_of setting rest)) part (all_of setting rest) s t u outer reaches (comes_default whole part (and_then more (all_of setting rest)) (all_of setting rest) t u outer (in_turn_ends p outer turns.index turns.values.now turn n w) stops);
  }

  -- all turns were run
  pub turns_done : (turns : Turns) (first turn : ℕ) (s t : State) → length turns.values.now ≤ turn → Reaches setting ask (turns_from setting turns first) s (turns_from setting turns turn) t → AreRun setting ask turns first s progress.Finished t
  turns_done turns first turn s t le before = record {
    comes = λ whole rest line words at.
        let none : drop turn turns.values.now ≡ [] = nil_from_length (drop turn turns.values.now) (simp length-drop (omega arith)) in
        let here = subst (λ (vs : List (List ℕ)). Reaches setting ask (turns_from setting turns first) s (turns_of setting turns.name.now (script_of turns.body.now) vs) t) none before in
        Reaches-and_then setting ask (turns_from setting turns first) (turns_of setting turns.name.now (script_of turns.body.now) []) (all_of setting rest) s t here;
  }

  -- a loop whose turns were run
  pub passes_turns : (x : Stmt) (line : ℕ) (name : List ℕ) (ws : Vec WordTree Global) (body : Vec Stmt Global) (turns : Turns) (index : ℕ) (s t : State) (p : RunEnd) → x ≡ stmt.Loop line name ws body → texts_of setting line (words_of ws.items) ≡ Ok turns.values.now → turns.name.now ≡ name → turns.body.now ≡ body.items → turns.index ≡ index → AreRun setting ask turns 0 s p t → IsPassed setting ask x index s p t
  passes_turns x line name ws body turns index s t p is values name_is body_is index_is run = record {
    comes = λ whole rest at.
        let o = opened_loop x line name ws body rest is in
        let first = reaches_turns setting ask line name (words_of ws.items) (script_of body.items) rest s turns.values.now values in
        let there : skip turns.index whole ≡ loop line turns.name.now (words_of ws.items) (script_of turns.body.now) rest = rw (index_is, name_is, body_is) (at ∙ o) in
        let second = run.comes whole rest line (words_of ws.items) there in
        let first' : Reaches setting ask (all_of setting (loop line name (words_of ws.items) (script_of body.items) rest)) s (and_then (turns_from setting turns 0) (all_of setting rest)) s = rw (name_is, body_is) first in
        rw o (comes_after whole (all_of setting (loop line name (words_of ws.items) (script_of body.items) rest)) (and_then (turns_from setting turns 0) (all_of setting rest)) (all_of setting rest) s s t p first' second);
  }

  -- the loop over statements

  pub at_item : (xs : List Stmt) (index : ℕ) (x : Stmt) → index < length xs → x ≡ get_or xs index x → skip index (script_of xs) ≡ before x (skip (index + 1) (script_of xs))
  at_item xs index x lt is = rw add-one (skip_at xs index x lt ∙ ap (λ y. opened (out-Stmt y) (skip (suc index) (script_of xs))) (sym is) ∙ sym (before-opened x (skip (suc index) (script_of xs))))

  pub item_comes : (xs : List Stmt) (first index : ℕ) (x : Stmt) (s t u : State) (p : RunEnd) → index < length xs → x ≡ get_or xs index x → Reaches setting ask (all_of setting (skip first (script_of xs))) s (all_of setting (skip index (script_of xs))) t → IsPassed setting ask x index t p u → Comes setting ask (script_of xs) (all_of setting (skip first (script_of xs))) (all_of setting (skip (index + 1) (script_of xs))) s p u
  item_comes xs first index x s t u p lt is r passed =
      let at = at_item xs index x lt is in
      let here = subst (λ (y : Script). Comes setting ask (script_of xs) (all_of setting y) (all_of setting (skip (index + 1) (script_of xs))) t p u) (sym at) (passed.comes (script_of xs) (skip (index + 1) (script_of xs)) at) in
      comes_after (script_of xs) (all_of setting (skip first (script_of xs))) (all_of setting (skip index (script_of xs))) (all_of setting (skip (index + 1) (script_of xs))) s t u p r here

  pub all_passed : (xs : List Stmt) (first index : ℕ) (s t : State) → length xs ≤ index → Reaches setting ask (all_of setting (skip first (script_of xs))) s (all_of setting (skip index (script_of xs))) t → Reaches setting ask (all_of setting (skip first (script_of xs))) s (all_of setting finish) t
  all_passed xs first index s t le r = subst (λ (y : Script). Reaches setting ask (all_of setting (skip first (script_of xs))) s (all_of setting y) t) (skip_past xs index le) r

-- Branches of a slice of statements

skip_if : (xs : List Stmt) (index : ℕ) (x : Stmt) (line : ℕ) (c : ConditionTree) (a b : Vec Stmt Global) → index < length xs → x ≡ get_or xs index x → x ≡ stmt.If line c a b → skip index (script_of xs) ≡ choice line (condition_of c) (script_of a.items) (script_of b.items) (skip (index + 1) (script_of xs))
skip_if xs index x line c a b lt at is =
    rw add-one (skip_at xs index x lt ∙ ap (λ y. opened (out-Stmt y) (skip (suc index) (script_of xs))) (sym at) ∙ rw is (ap (λ o. opened o (skip (suc index) (script_of xs))) (outs-If line c a b)))

skip_simple : (xs : List Stmt) (index : ℕ) (x : Stmt) (line : ℕ) (c : CommandTree) → index < length xs → x ≡ get_or xs index x → x ≡ stmt.Simple line c → skip index (script_of xs) ≡ simple line (command_of c) (skip (index + 1) (script_of xs))
skip_simple xs index x line c lt at is =
    rw add-one (skip_at xs index x lt ∙ ap (λ y. opened (out-Stmt y) (skip (suc index) (script_of xs))) (sym at) ∙ rw is (ap (λ o. opened o (skip (suc index) (script_of xs))) (outs-Simple line c)))

skip_loop : (xs : List Stmt) (index : ℕ) (x : Stmt) (line : ℕ) (name : List ℕ) (ws : Vec WordTree Global) (body : Vec Stmt Global) → index < length xs → x ≡ get_or xs index x → x ≡ stmt.Loop line name ws body → skip index (script_of xs) ≡ loop line name (words_of ws.items) (script_of body.items) (skip (index + 1) (script_of xs))
skip_loop xs index x line name ws body lt at is =
    rw add-one (skip_at xs index x lt ∙ ap (λ y. opened (out-Stmt y) (skip (suc index) (script_of xs))) (sym at) ∙ rw is (ap (λ o. opened o (skip (suc index) (script_of xs))) (outs-Loop line name ws body)))

pub has_first : (xs : List Stmt) (index : ℕ) (x : Stmt) (line : ℕ) (c : ConditionTree) (a b : Vec Stmt Global) (items : List Stmt) → index < length xs → x ≡ get_or xs index x → x ≡ stmt.If line c a b → items ≡ a.items → HasBranch xs index First items
has_first xs index x line c a b items lt at is e = record { line = line; condition = condition_of c; first = script_of a.items; second = script_of b.items; within = lt; here = skip_if xs index x line c a b lt at is; part_is = ap script_of e }

pub has_second : (xs : List Stmt) (index : ℕ) (x : Stmt) (line : ℕ) (c : ConditionTree) (a b : Vec Stmt Global) (items : List Stmt) → index < length xs → x ≡ get_or xs index x → x ≡ stmt.If line c a b → items ≡ b.items → HasBranch xs index Second items
has_second xs index x line c a b items lt at is e = record { line = line; condition = condition_of c; first = script_of a.items; second = script_of b.items; within = lt; here = skip_if xs index x line c a b lt at is; part_is = ap script_of e }

inside_finish : (branch : Branch) (left : Setting → Script → Rest) (setting : Setting) → inside branch left setting finish ≡ all_of setting finish
inside_finish First left setting = refl
inside_finish Second left setting = refl

inside_simple : (branch : Branch) (left : Setting → Script → Rest) (setting : Setting) (line : ℕ) (c : Command) (rest : Script) → inside branch left setting (simple line c rest) ≡ all_of setting finish
inside_simple First left setting line c rest = refl
inside_simple Second left setting line c rest = refl

pub has_none_past : (xs : List Stmt) (index : ℕ) → length xs ≤ index → HasNoBranch xs index
has_none_past xs index le = record { nothing = λ branch left setting. ap (inside branch left setting) (skip_past xs index le) ∙ inside_finish branch left setting }

pub has_none_simple : (xs : List Stmt) (index : ℕ) (x : Stmt) (line : ℕ) (c : CommandTree) → index < length xs → x ≡ get_or xs index x → x ≡ stmt.Simple line c → HasNoBranch xs index
has_none_simple xs index x line c lt at is = record {
  nothing = λ branch left setting. ap (inside branch left setting) (skip_simple xs index x line c lt at is) ∙ inside_simple branch left setting line (command_of c) (skip (index + 1) (script_of xs));
}

inside_loop : (branch : Branch) (left : Setting → Script → Rest) (setting : Setting) (line : ℕ) (name : List ℕ) (ws : List Word) (body rest : Script) → inside branch left setting (loop line name ws body rest) ≡ all_of setting finish
inside_loop First left setting line name ws body rest = refl
inside_loop Second left setting line name ws body rest = refl

pub has_none_loop : (xs : List Stmt) (index : ℕ) (x : Stmt) (line : ℕ) (name : List ℕ) (ws : Vec WordTree Global) (body : Vec Stmt Global) → index < length xs → x ≡ get_or xs index x → x ≡ stmt.Loop line name ws body → HasNoBranch xs index
has_none_loop xs index x line name ws body lt at is = record {
  nothing = λ branch left setting. ap (inside branch left setting) (skip_loop xs index x line name ws body lt at is) ∙ inside_loop branch left setting line name (words_of ws.items) (script_of body.items) (skip (index + 1) (script_of xs));
}

-- Turns of a loop among statements

pub has_turns : (xs : List Stmt) (index : ℕ) (x : Stmt) (line : ℕ) (name : List ℕ) (ws : Vec WordTree Global) (body : Vec Stmt Global) (turns : Turns) → index < length xs → x ≡ get_or xs index x → x ≡ stmt.Loop line name ws body → turns.index ≡ index → turns.name.now ≡ name → turns.body.now ≡ body.items → HasTurns xs index turns
has_turns xs index x line name ws body turns lt at is index_is name_is body_is = record {
  line = line;
  words = words_of ws.items;
  same_index = index_is;
  within = lt;
  here = rw (name_is, body_is) (skip_loop xs index x line name ws body lt at is);
}

in_turn_finish : (values : List (List ℕ)) (left : Setting → Script → Rest) (setting : Setting) → in_turn values left setting finish ≡ all_of setting finish
in_turn_finish [] left setting = refl
in_turn_finish (value ∷ values) left setting = refl

in_turn_simple : (values : List (List ℕ)) (left : Setting → Script → Rest) (setting : Setting) (line : ℕ) (c : Command) (rest : Script) → in_turn values left setting (simple line c rest) ≡ all_of setting finish
in_turn_simple [] left setting line c rest = refl
in_turn_simple (value ∷ values) left setting line c rest = refl

in_turn_choice : (values : List (List ℕ)) (left : Setting → Script → Rest) (setting : Setting) (line : ℕ) (c : Condition) (a b rest : Script) → in_turn values left setting (choice line c a b rest) ≡ all_of setting finish
in_turn_choice [] left setting line c a b rest = refl
in_turn_choice (value ∷ values) left setting line c a b rest = refl

pub no_turn_past : (xs : List Stmt) (index : ℕ) (values : List (List ℕ)) (turn : ℕ) → length xs ≤ index → HasNoTurn xs index values turn
no_turn_past xs index values turn le = record { nothing = λ left setting. ap (in_turn (drop turn values) left setting) (skip_past xs index le) ∙ in_turn_finish (drop turn values) left setting }

pub no_turn_left : (xs : List Stmt) (index : ℕ) (values : List (List ℕ)) (turn : ℕ) → length values ≤ turn → HasNoTurn xs index values turn
no_turn_left xs index values turn le = record {
  nothing = λ left setting. let none : drop turn values ≡ [] = nil_from_length (drop turn values) (simp length-drop (omega arith)) in rw none refl;
}

pub no_turn_simple : (xs : List Stmt) (index : ℕ) (x : Stmt) (line : ℕ) (c : CommandTree) (values : List (List ℕ)) (turn : ℕ) → index < length xs → x ≡ get_or xs index x → x ≡ stmt.Simple line c → HasNoTurn xs index values turn
no_turn_simple xs index x line c values turn lt at is = record {
  nothing = λ left setting. ap (in_turn (drop turn values) left setting) (skip_simple xs index x line c lt at is) ∙ in_turn_simple (drop turn values) left setting line (command_of c) (skip (index + 1) (script_of xs));
}

pub no_turn_if : (xs : List Stmt) (index : ℕ) (x : Stmt) (line : ℕ) (c : ConditionTree) (a b : Vec Stmt Global) (values : List (List ℕ)) (turn : ℕ) → index < length xs → x ≡ get_or xs index x → x ≡ stmt.If line c a b → HasNoTurn xs index values turn
no_turn_if xs index x line c a b values turn lt at is = record {
  nothing = λ left setting. ap (in_turn (drop turn values) left setting) (skip_if xs index x line c a b lt at is) ∙ in_turn_choice (drop turn values) left setting line (condition_of c) (script_of a.items) (script_of b.items) (skip (index + 1) (script_of xs));
}

-- Places

left_before : (place : StopPlace) (setting : Setting) (n : ℕ) (script : Script) → place ≡ Before n → all_of setting (skip n script) ≡ left_at place setting script
unfolding left_at
left_before place setting n script is = rw is refl

left_inside : (place : StopPlace) (setting : Setting) (n : ℕ) (branch : Branch) (inner : Box StopPlace Global) (script : Script) → place ≡ places.Within n branch inner → left_at place setting script ≡ inside branch (left_at inner.value) setting (skip n script)
unfolding left_at
left_inside place setting n branch inner script is = rw is refl

left_in : (place : StopPlace) (setting : Setting) (n : ℕ) (values : List (List ℕ)) (turn : ℕ) (inner : Box StopPlace Global) (script : Script) → place ≡ places.InTurn n values turn inner → left_at place setting script ≡ in_turn (drop turn values) (left_at inner.value) setting (skip n script)
unfolding left_at
left_in place setting n values turn inner script is = rw is refl

module _ (setting : Setting) (ask : Ask) (whole : List Stmt) (place : StopPlace) (s : State) where
  pub comes_before : (n : ℕ) (t : State) (p : RunEnd) → place ≡ Before n → Comes setting ask (script_of whole) (all_of setting (skip n (script_of whole))) (all_of setting finish) s p t → Comes setting ask (script_of whole) (left_at place setting (script_of whole)) (all_of setting finish) s p t
  comes_before n t p is h = subst (λ (y : Rest). Comes setting ask (script_of whole) y (all_of setting finish) s p t) (left_before place setting n (script_of whole) is) h

  pub nothing_left : (n : ℕ) (branch : Branch) (inner : Box StopPlace Global) → place ≡ places.Within n branch inner → HasNoBranch whole n → Reaches setting ask (left_at place setting (script_of whole)) s (all_of setting finish) s
  nothing_left n branch inner is none =
      subst (λ (y : Rest). Reaches setting ask y s (all_of setting finish) s) (sym (left_inside place setting n branch inner (script_of whole) is ∙ none.nothing branch (left_at inner.value) setting)) (Reaches-refl setting ask (all_of setting finish) s)

  -- what is left in a branch was run
  pub part_comes : (n : ℕ) (branch : Branch) (inner : Box StopPlace Global) (part : List Stmt) (here : StopPlace) (t : State) (p outer : RunEnd) → place ≡ places.Within n branch inner → HasBranch whole n branch part → here ≡ inner.value → Comes setting ask (script_of part) (left_at here setting (script_of part)) (all_of setting finish) s p t → IsWithin p n branch outer → Comes setting ask (script_of whole) (left_at place setting (script_of whole)) (all_of setting (skip (n + 1) (script_of whole))) s outer t
  part_comes n branch inner part here t p outer is has e h w =
      let rest = skip (n + 1) (script_of whole) in
      let left = left_at inner.value setting (picked branch has.first has.second) in
      let h' : Comes setting ask (picked branch has.first has.second) left (all_of setting finish) s p t = subst (λ (y : Script). Comes setting ask y (left_at inner.value setting y) (all_of setting finish) s p t) has.part_is (subst (λ (q : StopPlace). Comes setting ask (script_of part) (left_at q setting (script_of part)) (all_of setting finish) s p t) e h) in
      let out = comes_within setting ask (script_of whole) n branch has.line has.condition has.first has.second rest left s t p outer has.here h' w in
      let same : left_at place setting (script_of whole) ≡ and_then left (all_of setting rest) = left_inside place setting n branch inner (script_of whole) is ∙ ap (inside branch (left_at inner.value) setting) has.here ∙ inside_choice setting ask branch (left_at inner.value) has.line has.condition has.first has.second rest in
      subst (λ (y : Rest). Comes setting ask (script_of whole) y (all_of setting rest) s outer t) (sym same) out

  pub no_turn : (n : ℕ) (values : List (List ℕ)) (turn : ℕ) (inner : Box StopPlace Global) → place ≡ places.InTurn n values turn inner → HasNoTurn whole n values turn → Reaches setting ask (left_at place setting (script_of whole)) s (all_of setting finish) s
  no_turn n values turn inner is none =
      subst (λ (y : Rest). Reaches setting ask y s (all_of setting finish) s) (sym (left_in place setting n values turn inner (script_of whole) is ∙ none.nothing (left_at inner.value) setting)) (Reaches-refl setting ask (all_of setting finish) s)

  -- what is left in a turn was run
  pub turn_comes_on : (n : ℕ) (values : List (List ℕ)) (turn : ℕ) (inner : Box StopPlace Global) (turns : Turns) (here : StopPlace) (within : Setting) (t : State) (p outer : RunEnd) → place ≡ places.InTurn n values turn inner → HasTurns whole n turns → turns.values.now ≡ values → IsTurn setting turns turn within → here ≡ inner.value →
      Comes within ask (script_of turns.body.now) (left_at here within (script_of turns.body.now)) (all_of within finish) s p t → IsInTurn p turns.index turns.values.now turn outer →
      Comes setting ask (script_of whole) (left_at place setting (script_of whole)) (and_then (turns_from setting turns (turn + 1)) (all_of setting (skip (turns.index + 1) (script_of whole)))) s outer t
  turn_comes_on n values turn inner turns here within t p outer is has v tn e h w =
      let body = script_of turns.body.now in
      let wv = with_value setting turns.name.now tn.value in
      let rest = skip (n + 1) (script_of whole) in
      let left = left_at inner.value wv body in
      let more = turns_from setting turns (turn + 1) in
      let d : drop turn values ≡ tn.value ∷ drop (turn + 1) turns.values.now = ap (drop turn) (sym v) ∙ tn.here in
      let h1 : Comes within ask body (left_at inner.value within body) (all_of within finish) s p t = subst (λ (q : StopPlace). Comes within ask body (left_at q within body) (all_of within finish) s p t) e h in
      let h2 : Comes wv ask body left (all_of wv finish) s p t = subst (λ (i : Setting). Comes i ask body (left_at inner.value i body) (all_of i finish) s p t) tn.binds h1 in
      let w' : IsInTurn p n turns.values.now turn outer = rw (← has.same_index) w in
      let out = comes_in_turn setting ask (script_of whole) n turns.values.now turn has.line turns.name.now has.words body rest tn.value (drop (turn + 1) turns.values.now) left s t p outer has.here tn.here h2 w' in
      let same : left_at place setting (script_of whole) ≡ and_then (and_then left more) (all_of setting rest) = left_in place setting n values turn inner (script_of whole) is ∙ rw (d, has.here) refl in
      rw has.same_index (subst (λ (y : Rest). Comes setting ask (script_of whole) y (and_then more (all_of setting rest)) s outer t) (sym same) out)
