-- A script that goes on with a redo-ifchange that waited.
use Rattle.std.proofs.Common.{◌≡◌, ℕ, zero, suc, ◌+◌, ◌<◌, length, List, [], ◌∷◌, Option, Result, Ok, Err, refl, sym, ap}
use Rattle.std.proofs.Common.{◌∙◌, subst, add-one, arith, drop}
use Rattle.std.specs.Prelude.{Box}
use Rattle.std.specs.declared.alloc.Global.{Global}
use Rattle.redo_script.specs.declared.ast.Stmt.{Stmt}
use Rattle.redo_script.specs.Syntax.{Script, Command, finish, simple}
use Rattle.redo_script.specs.View.{script_of}
use Rattle.redo_script.specs.declared.fault.ScriptFault.{ScriptFault}
use Rattle.redo_step.specs.declared.place.Branch.{Branch}
use Rattle.redo_step.specs.declared.place.StopPlace.{StopPlace, Before, Within', InTurn'}
use Rattle.redo_step.specs.declared.place.StopPlace.TheVariants as places
use Rattle.redo_step.specs.declared.machine.RunEnd.{RunEnd}
use Rattle.redo_step.specs.declared.halt.Halt.{Halt}
use Rattle.redo_step.specs.declared.wait.WaitingChange.{WaitingChange}
use Rattle.redo_step.specs.Setting.{Setting}
use Rattle.redo_step.specs.Runs.{State, goes}
use Rattle.redo_record.specs.Answers.{Ask}
use Rattle.redo_step.specs.Place.{all_of, behind_first, skip}
use Rattle.redo_step.specs.inside.Stands.{branch_of, body_in, Standing, stands_at}
use Rattle.redo_step.specs.inside.Waiting.{waited_on, unanswered}
use Rattle.redo_step.specs.declared.machine.Turns.{Turns}
use Rattle.redo_step.specs.inside.Machine.{run_by, IsMeant, Comes, IsStopBefore, HasBranch, HasTurns, IsTurn}
use Rattle.redo_step.specs.inside.Kept.{IsFirst, IsKept}
use Rattle.redo_step.proofs.StepLemmas.{reaches_simple}
use Rattle.redo_step.proofs.SliceLemmas.{skip_finish, behind-before}
use Rattle.redo_step.proofs.ComesLemmas.{comes_after, stop_comes, branch_choice}
use Rattle.redo_step.proofs.WaitingLemmas.{KeptOnStop, first_is, keeps_waiting}

skip_next : (n : ℕ) (script : Script) → skip (suc n) script ≡ behind_first (skip n script)
unfolding skip
skip_next zero script = refl
skip_next (suc n) script = skip_next n (behind_first script)

behind_here : (n : ℕ) (script rest : Script) (line : ℕ) (c : Command) → skip n script ≡ simple line c rest → skip (n + 1) script ≡ rest
behind_here n script rest line c at = rw add-one (skip_next n script ∙ ap behind_first at)

within_here : (xs : List Stmt) (n : ℕ) (rest : Script) (line : ℕ) (c : Command) → skip n (script_of xs) ≡ simple line c rest → n < length xs
unfolding skip
within_here [] n rest line c h = absurd (let bad : finish ≡ simple line c rest = sym (skip_finish n) ∙ h in cc)
within_here (x ∷ xs) zero rest line c h = omega arith
within_here (x ∷ xs) (suc n) rest line c h = let r = within_here xs n rest line c (sym (ap (skip n) (behind-before x (script_of xs))) ∙ h) in omega arith

pub stands_first : (place : StopPlace) (n : ℕ) (setting : Setting) (script : Script) → place ≡ Before n → stands_at place setting script ≡ record { setting = setting; script = skip n script }
unfolding stands_at
stands_first place n setting script is = rw is refl

stands_inside : (place : StopPlace) (setting : Setting) (n : ℕ) (branch : Branch) (inner : Box StopPlace Global) (script : Script) → place ≡ places.Within n branch inner → stands_at place setting script ≡ stands_at inner.value setting (branch_of branch (skip n script))
unfolding stands_at
stands_inside place setting n branch inner script is = rw is refl

stands_in_turn : (place : StopPlace) (setting : Setting) (n : ℕ) (values : List (List ℕ)) (turn : ℕ) (inner : Box StopPlace Global) (script : Script) → place ≡ places.InTurn n values turn inner →
    stands_at place setting script ≡ (let here = body_in (drop turn values) setting (skip n script) in stands_at inner.value here.setting here.script)
unfolding stands_at
stands_in_turn place setting n values turn inner script is = rw is refl

-- how many branches and turns a place lies in
abbrev pub depth : StopPlace → ℕ
depth (Before n) = 0
depth (Within' n branch p place) = suc (depth place)
depth (InTurn' n values turn p place) = suc (depth place)

pub depth_inside : (place here : StopPlace) (n : ℕ) (branch : Branch) (inner : Box StopPlace Global) → place ≡ places.Within n branch inner → here ≡ inner.value → depth here < depth place
depth_inside place here n branch inner is e = rw (is, e) (omega arith)

pub depth_in_turn : (place here : StopPlace) (n : ℕ) (values : List (List ℕ)) (turn : ℕ) (inner : Box StopPlace Global) → place ≡ places.InTurn n values turn inner → here ≡ inner.value → depth here < depth place
depth_in_turn place here n values turn inner is e = rw (is, e) (omega arith)

module _ (setting : Setting) (ask : Ask) (whole : List Stmt) (s : State) where
  -- what is kept for a branch
  pub kept_inside : (place : StopPlace) (n : ℕ) (branch : Branch) (inner : Box StopPlace Global) (part : List Stmt) (here : StopPlace) (kept : Option WaitingChange) → place ≡ places.Within n branch inner → HasBranch whole n branch part → here ≡ inner.value → IsKept (stands_at place setting (script_of whole)) s kept → IsKept (stands_at here setting (script_of part)) s kept
  kept_inside place n branch inner part here kept is has e k =
      let same : stands_at place setting (script_of whole) ≡ stands_at here setting (script_of part) =
      stands_inside place setting n branch inner (script_of whole) is ∙ ap (λ y. stands_at inner.value setting (branch_of branch y)) has.here ∙ ap (stands_at inner.value setting) (branch_choice setting ask branch has.line has.condition has.first has.second (skip (n + 1) (script_of whole)) ∙ sym has.part_is) ∙ ap (λ q. stands_at q setting (script_of part)) (sym e) in
      subst (λ (y : Standing). IsKept y s kept) same k

  -- what is kept for a turn
  pub kept_in_turn : (place : StopPlace) (n : ℕ) (values : List (List ℕ)) (turn : ℕ) (inner : Box StopPlace Global) (turns : Turns) (here : StopPlace) (within : Setting) (kept : Option WaitingChange) → place ≡ places.InTurn n values turn inner → HasTurns whole n turns → turns.values.now ≡ values → IsTurn setting turns turn within → here ≡ inner.value → IsKept (stands_at place setting (script_of whole)) s kept → IsKept (stands_at here within (script_of turns.body.now)) s kept
  kept_in_turn place n values turn inner turns here within kept is has v t e k =
      let d : drop turn values ≡ t.value ∷ drop (turn + 1) turns.values.now = ap (drop turn) (sym v) ∙ t.here in
      let same : stands_at place setting (script_of whole) ≡ stands_at here within (script_of turns.body.now) = rw (e, t.binds) (stands_in_turn place setting n values turn inner (script_of whole) is ∙ rw (d, has.here) refl) in
      subst (λ (y : Standing). IsKept y s kept) same k

  module _ (n : ℕ) (w : WaitingChange) (first : IsFirst setting (skip n (script_of whole)) s w) where
    pub kept_within : n < length whole
    kept_within = within_here whole n first.rest first.line first.command first.here

    -- it goes on
    pub kept_goes : (t : State) (p : RunEnd) → waited_on ask w.line w.targets.items (unanswered ask [] w.targets.items) s ≡ goes s → Comes setting ask (script_of whole) (all_of setting (skip (n + 1) (script_of whole))) (all_of setting finish) s p t → Comes setting ask (script_of whole) (all_of setting (skip n (script_of whole))) (all_of setting finish) s p t
    kept_goes t p g c =
        let runs = first_is setting ask first.line first.command w s first.has ∙ g in
        let reaches = reaches_simple setting ask first.line first.command first.rest s s runs in
        let behind = behind_here n (script_of whole) first.rest first.line first.command first.here in
        let all = comes_after setting ask (script_of whole) (all_of setting (simple first.line first.command first.rest)) (all_of setting first.rest) (all_of setting finish) s s t p reaches (subst (λ (y : Script). Comes setting ask (script_of whole) (all_of setting y) (all_of setting finish) s p t) behind c) in
        subst (λ (y : Script). Comes setting ask (script_of whole) (all_of setting y) (all_of setting finish) s p t) (sym first.here) all

    -- it stops again
    pub kept_stops : (stop : Halt) (p : RunEnd) → IsMeant (run_by {X = Unit {0}} (Err stop) s) (waited_on ask w.line w.targets.items (unanswered ask [] w.targets.items) s) → KeptOnStop {X = Unit {0}} w (Err stop) → IsStopBefore stop n p → Comes setting ask (script_of whole) (all_of setting (skip n (script_of whole))) (all_of setting finish) s p s
    kept_stops stop p h keeps before =
        let meant = rw (← first_is setting ask first.line first.command w s first.has) at h in
        let kept = keeps_waiting setting ask {X = Unit {0}} first.line first.command w (Err stop) s first.has keeps in
        let comes = stop_comes setting ask first.line first.command n s s stop p (script_of whole) first.rest (all_of setting finish) meant kept before first.here in
        subst (λ (y : Script). Comes setting ask (script_of whole) (all_of setting y) (all_of setting finish) s p s) (sym first.here) comes

ok_same : (x : Result Script ScriptFault) (a b : Script) → x ≡ Ok a → x ≡ Ok b → a ≡ b
ok_same x a b e f = cc

pub same_kept : (setting : Setting) (place : StopPlace) (s : State) (kept : Option WaitingChange) (x : Result Script ScriptFault) (a b : Script) → x ≡ Ok a → x ≡ Ok b → IsKept (stands_at place setting a) s kept → IsKept (stands_at place setting b) s kept
same_kept setting place s kept x a b e f k = subst (λ (y : Script). IsKept (stands_at place setting y) s kept) (ok_same x a b e f) k
