-- How far one statement comes.
use Rattle.std.proofs.Common.{◌≡◌, ℕ, Bool, true, false, Option, Some, None, Result, Ok, Err, List, [], ◌∷◌}
use Rattle.std.proofs.Common.{◌++◌, refl, sym, ap}
use Rattle.redo_script.specs.Syntax.{Word, Redirection, Writer, Command, write, test, change, create, always}
use Rattle.redo_script.specs.Syntax.{always_true, always_false, exit, Condition, Script, simple, choice, loop}
use Rattle.redo_record.specs.declared.deps.DepKind.TheVariants as kinds
use Rattle.redo_record.specs.Paths.{Path}
use Rattle.redo_step.specs.Setting.{Setting}
use Rattle.redo_step.specs.Runs.{State, End, Run, goes, ends, ◌>>=◌}
use Rattle.redo_step.specs.Words.{texts_of, paths_of}
use Rattle.redo_step.specs.Declaring.{declaring, free_paths, created, in_any_case}
use Rattle.redo_step.specs.Outputs.{limited, goal_of, bytes_of, writer_texts, bytes_or_none, put, written}
use Rattle.redo_step.specs.Files.{tested}
use Rattle.redo_step.specs.Statements.{with_status, with_state, command_run, condition_result, then_run, run}
use Rattle.redo_record.specs.Answers.{Ask}
use Rattle.redo_step.specs.Reach.{Keeps, Reaches}
use Rattle.redo_record.specs.Entries.{Extends}
use Rattle.redo_step.specs.Place.{all_of, and_then, turns_of}
use Rattle.redo_record.proofs.EntryLemmas.{Extends-refl, Extends-with_entries}
use Rattle.redo_step.proofs.StableLemmas.{Stable, written_stable, tested_stable, condition_stable, changed_goes}
use Rattle.redo_step.proofs.StableLemmas.{changed_stays}

bind_ok : {A B : Type 0} (r : Result A End) (f : A → Result B End) (y : B) → (r >>= f) ≡ Ok y → (x : A) × (r ≡ Ok x) × (f x ≡ Ok y)
bind_ok (Ok x) f y e = (x, refl, e)
bind_ok (Err w) f y e = absurd cc

put_entries : (setting : Setting) (line : ℕ) (s t : State) (goal : Option Bool) (bytes : List ℕ) → put setting line s goal bytes ≡ Ok t → t.entries ≡ s.entries
put_entries setting line s t None bytes e =
    let b = bind_ok (limited setting line (s.output ++ bytes)) (λ output. Ok (record s { output = output })) t e in let same : t ≡ record s { output = b.0 } = cc (b.2) in rw same refl
put_entries setting line s t (Some true) bytes e =
    let b = bind_ok (limited setting line (bytes_or_none s.third ++ bytes)) (λ third. Ok (record s { third = Some third })) t e in let same : t ≡ record s { third = Some b.0 } = cc (b.2) in rw same refl
put_entries setting line s t (Some false) bytes e =
    let b = bind_ok (limited setting line bytes) (λ third. Ok (record s { third = Some third })) t e in let same : t ≡ record s { third = Some b.0 } = cc (b.2) in rw same refl

pub written_entries : (setting : Setting) (ask : Ask) (line : ℕ) (w : Writer Word) (r : Option Redirection) (s t : State) → written setting ask line w r s ≡ Ok t → t.entries ≡ s.entries
written_entries setting ask line w r s t e =
    let a = bind_ok (writer_texts setting line w) (λ texts. goal_of setting line r >>= λ goal. bytes_of setting ask s.entries line texts >>= λ bytes. put setting line s goal bytes) t e in
    let b = bind_ok (goal_of setting line r) (λ goal. bytes_of setting ask s.entries line a.0 >>= λ bytes. put setting line s goal bytes) t a.2 in
    let c = bind_ok (bytes_of setting ask s.entries line a.0) (λ bytes. put setting line s b.0 bytes) t b.2 in
    put_entries setting line s t b.0 c.0 c.2

-- what a command that goes on keeps, and that it goes on so under each ask that keeps the answers
pub record Goes (setting : Setting) (ask : Ask) (next : Ask → Run) (s t : State) : Type 0 where
  pub extends : Extends s.entries t.entries
  pub so : (later : Ask) → Keeps setting t.entries ask later → next later ≡ goes t

state_goes : (setting : Setting) (ask later : Ask) (r q : Result State End) (s t : State) → Stable r q → with_state r s ≡ goes t → with_state q s ≡ goes t
state_goes setting ask later (Ok u) q s t st e = rw (st.by u refl) e
state_goes setting ask later (Err w) q s t st e = absurd cc

pub state_ok : (r : Result State End) (s t : State) → with_state r s ≡ goes t → r ≡ Ok t
state_ok (Ok u) s t e = cc
state_ok (Err w) s t e = absurd cc

status_goes : (r q : Result Bool End) (s t : State) → Stable r q → with_status r s ≡ goes t → with_status q s ≡ goes t
status_goes (Ok b) q s t st e = rw (st.by b refl) e
status_goes (Err w) q s t st e = absurd cc

status_same : (r : Result Bool End) (s t : State) → with_status r s ≡ goes t → t ≡ s
status_same (Ok true) s t e = cc
status_same (Ok false) s t e = absurd cc
status_same (Err w) s t e = absurd cc

created_same : (r : Result (List Path) End) (s t : State) → created r s ≡ goes t → Extends s.entries t.entries
created_same (Err w) s t e = absurd cc
created_same (Ok ps) s t e = let same : t ≡ declaring s kinds.Create ps = cc in rw same (Extends-with_entries s.entries kinds.Create ps)

any_case_same : (s t : State) → in_any_case s ≡ goes t → Extends s.entries t.entries
any_case_same s t e = let same : t ≡ declaring s kinds.Always ([] ∷ []) = cc in rw same (Extends-with_entries s.entries kinds.Always ([] ∷ []))

same_extends : (s t : State) → t.entries ≡ s.entries → Extends s.entries t.entries
same_extends s t e = rw e (Extends-refl s.entries)

pub command_goes : (setting : Setting) (ask : Ask) (line : ℕ) (c : Command) (s t : State) → command_run setting ask line c s ≡ goes t → Goes setting ask (λ later. command_run setting later line c s) s t
command_goes setting ask line (write w r) s t e =
    let same = written_entries setting ask line w r s t (state_ok (written setting ask line w r s) s t e) in
    record { extends = same_extends s t same; so = λ later k. state_goes setting ask later (written setting ask line w r s) (written setting later line w r s) s t (written_stable setting ask later t.entries k line w r s (sym same)) e }
command_goes setting ask line (test t') s t e =
    let same = status_same (tested setting ask line t' s) s t e in
    record { extends = same_extends s t (ap (λ (x : State). x.entries) same); so = λ later k. status_goes (tested setting ask line t' s) (tested setting later line t' s) s t (tested_stable setting ask later t.entries k line t' s (sym (ap (λ (x : State). x.entries) same))) e }
command_goes setting ask line (change ws) s t e =
    record { extends = (changed_goes setting ask ask line (texts_of setting line ws >>= paths_of setting line) s t e).0; so = λ later k. (changed_goes setting ask later line (texts_of setting line ws >>= paths_of setting line) s t e).1 k }
command_goes setting ask line (create ws) s t e =
    record { extends = created_same (texts_of setting line ws >>= free_paths setting line) s t e; so = λ later k. e }
command_goes setting ask line always s t e = record { extends = any_case_same s t e; so = λ later k. e }
command_goes setting ask line always_true s t e = let same : s ≡ t = cc in record { extends = same_extends s t (sym (ap (λ (x : State). x.entries) same)); so = λ later k. e }
command_goes setting ask line always_false s t e = absurd cc
command_goes setting ask line (exit n) s t e = absurd cc

-- a command that ends: it ends from where it left off as it did
state_ends : (r : Result State End) (s t : State) (w : End) → with_state r s ≡ ends w t → t ≡ s
state_ends (Ok u) s t w e = absurd cc
state_ends (Err v) s t w e = cc

status_ends : (r : Result Bool End) (s t : State) (w : End) → with_status r s ≡ ends w t → t ≡ s
status_ends (Ok true) s t w e = absurd cc
status_ends (Ok false) s t w e = cc
status_ends (Err v) s t w e = cc

created_ends : (r : Result (List Path) End) (s t : State) (w : End) → created r s ≡ ends w t → t ≡ s
created_ends (Err v) s t w e = cc
created_ends (Ok ps) s t w e = absurd cc

pub record Stays (setting : Setting) (next : Ask → State → Run) (s t : State) : Type 0 where
  pub extends : Extends s.entries t.entries
  pub so : (later : Ask) → next later s ≡ next later t

same_stays : (setting : Setting) (next : Ask → State → Run) (s t : State) → t ≡ s → Stays setting next s t
same_stays setting next s t e = record { extends = same_extends s t (ap (λ (x : State). x.entries) e); so = λ later. ap (next later) (sym e) }

pub command_stays : (setting : Setting) (ask : Ask) (line : ℕ) (c : Command) (s t : State) (w : End) → command_run setting ask line c s ≡ ends w t → Stays setting (λ later. command_run setting later line c) s t
command_stays setting ask line (write v r) s t w e = same_stays setting _ s t (state_ends (written setting ask line v r s) s t w e)
command_stays setting ask line (test t') s t w e = same_stays setting _ s t (status_ends (tested setting ask line t' s) s t w e)
command_stays setting ask line (change ws) s t w e =
    record { extends = (changed_stays setting ask ask line (texts_of setting line ws >>= paths_of setting line) s t w e).0; so = λ later. (changed_stays setting ask later line (texts_of setting line ws >>= paths_of setting line) s t w e).1 }
command_stays setting ask line (create ws) s t w e = same_stays setting _ s t (created_ends (texts_of setting line ws >>= free_paths setting line) s t w e)
command_stays setting ask line always s t w e = absurd cc
command_stays setting ask line always_true s t w e = absurd cc
command_stays setting ask line always_false s t w e = same_stays setting _ s t cc
command_stays setting ask line (exit n) s t w e = same_stays setting _ s t cc

-- Statements

pub reaches_simple : (setting : Setting) (ask : Ask) (line : ℕ) (c : Command) (rest : Script) (s t : State) → command_run setting ask line c s ≡ goes t → Reaches setting ask (all_of setting (simple line c rest)) s (all_of setting rest) t
unfolding run
reaches_simple setting ask line c rest s t e =
    let g = command_goes setting ask line c s t e in
    record { extends = g.extends; same = λ later k. ap (λ r. then_run r (run setting later rest)) (g.so later k) }

pub stops_simple : (setting : Setting) (ask : Ask) (line : ℕ) (c : Command) (rest : Script) (s t : State) (w : End) → command_run setting ask line c s ≡ ends w t → Reaches setting ask (all_of setting (simple line c rest)) s (all_of setting (simple line c rest)) t
unfolding run
stops_simple setting ask line c rest s t w e =
    let g = command_stays setting ask line c s t w e in
    record { extends = g.extends; same = λ later k. ap (λ r. then_run r (run setting later rest)) (g.so later) }

-- the branch that a condition chooses
abbrev pub branch_when : Bool → Script → Script → Script
branch_when true first second = first
branch_when false first second = second

pub reaches_branch : (setting : Setting) (ask : Ask) (line : ℕ) (c : Condition) (first second rest : Script) (s : State) (b : Bool) → condition_result setting ask line c s ≡ Ok b → Reaches setting ask (all_of setting (choice line c first second rest)) s (and_then (all_of setting (branch_when b first second)) (all_of setting rest)) s
unfolding run
reaches_branch setting ask line c first second rest s true e = record {
  extends = Extends-refl s.entries;
  same = λ later k. rw ((condition_stable setting ask later s.entries k line c s refl).by true e) refl;
}
reaches_branch setting ask line c first second rest s false e = record {
  extends = Extends-refl s.entries;
  same = λ later k. rw ((condition_stable setting ask later s.entries k line c s refl).by false e) refl;
}

-- a loop whose words have values
pub reaches_turns : (setting : Setting) (ask : Ask) (line : ℕ) (name : List ℕ) (ws : List Word) (body rest : Script) (s : State) (values : List (List ℕ)) → texts_of setting line ws ≡ Ok values → Reaches setting ask (all_of setting (loop line name ws body rest)) s (and_then (turns_of setting name body values) (all_of setting rest)) s
unfolding run
reaches_turns setting ask line name ws body rest s values e = record {
  extends = Extends-refl s.entries;
  same = λ later k. rw e refl;
}
