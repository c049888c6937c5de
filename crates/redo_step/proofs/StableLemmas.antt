-- What is known under an ask stays so under one that keeps its answers.
use Rattle.std.proofs.Common.{◌≡◌, ℕ, Bool, true, false, ◌&&◌, cond, Option, Some, None, Result, Ok, Err, List, []}
use Rattle.std.proofs.Common.{◌∷◌, ◌++◌, refl, subst}
use Rattle.std.specs.List.{filter}
use Rattle.std.specs.Prelude.{is_some, is_none}
use Rattle.redo_script.specs.Syntax.{Word, Redirection, Test, is_file, equal, differ, Writer, echo, printf, cat}
use Rattle.redo_script.specs.Syntax.{Condition, if_test, if_true, if_false}
use Rattle.redo_record.specs.declared.deps.DepKind.TheVariants as kinds
use Rattle.redo_record.specs.declared.outcome.Why.TheVariants as why
use Rattle.redo_record.specs.declared.outcome.Outcome.{Outcome}
use Rattle.redo_record.specs.Paths.{Path, is_among, with_new, with_path}
use Rattle.redo_step.specs.Setting.{Setting}
use Rattle.redo_step.specs.Runs.{State, End, exited, faulted, goes, ends, ◌>>=◌, or_else}
use Rattle.redo_step.specs.Words.{path_of}
use Rattle.redo_step.specs.Declaring.{declaring, lacks, lacking, any_failed, waited, changed}
use Rattle.redo_step.specs.Files.{answered_file, file_at, is_declared, file_of, contents_of, test_texts, holds}
use Rattle.redo_step.specs.Files.{tested}
use Rattle.redo_step.specs.Outputs.{writer_texts, bytes_of, goal_of, put, written}
use Rattle.redo_step.specs.Statements.{condition_result}
use Rattle.redo_record.specs.Answers.{Ask, is_failure}
use Rattle.redo_record.specs.Entries.{is_entered, with_entries, Extends}
use Rattle.redo_record.specs.declared.deps.Dep.{Dep}
use Rattle.redo_step.specs.Reach.{Keeps}
use Rattle.redo_record.proofs.EntryLemmas.{Extends-refl, Extends-with_entries, AllEntered, AllEntered-with_entries}
use Rattle.redo_record.proofs.EntryLemmas.{with_entries-again}

-- where the first gives a value, the second gives it too
pub record Stable {A : Type 0} (first second : Result A End) : Type 0 where
  pub by : (x : A) → first ≡ Ok x → second ≡ Ok x

pub Stable-refl : {A : Type 0} (r : Result A End) → Stable r r
Stable-refl r = record { by = λ x e. e }

pub Stable-bind : {A B : Type 0} (r t : Result A End) (f g : A → Result B End) → Stable r t → ((x : A) → Stable (f x) (g x)) → Stable (r >>= f) (t >>= g)
Stable-bind (Ok x) t f g s k = record { by = λ y e. rw (s.by x refl) ((k x).by y e) }
Stable-bind (Err w) t f g s k = record { by = λ y e. cc }

module _ (setting : Setting) (ask later : Ask) (es : List Dep) (keeps : Keeps setting es ask later) where
  answered_stable : (p : Path) → setting.source p ≡ None → is_entered es kinds.Change p ≡ true → Stable (answered_file p (ask p)) (answered_file p (later p))
  answered_stable p n h =
      (elim (ask p) as (λ (o : Option Outcome). ask p ≡ o → Stable (answered_file p o) (answered_file p (later p)))
      [ Some a ↦ λ e. rw (keeps.same p a n h e) (Stable-refl (answered_file p (Some a))) | None ↦ λ e. record { by = λ x bad. cc } ]) refl

  file_at_stable : (p : Path) (source : Option (List ℕ)) → setting.source p ≡ source → Stable (file_at ask es p source) (file_at later es p source)
  file_at_stable p (Some bytes) n = Stable-refl (Ok (Some bytes))
  file_at_stable p None n =
      (elim (is_entered es kinds.Change p) as (λ (v : Bool). is_entered es kinds.Change p ≡ v → Stable (cond v (answered_file p (ask p)) (Ok None)) (cond v (answered_file p (later p)) (Ok None)))
      [ true ↦ λ h. answered_stable p n h | false ↦ λ h. Stable-refl (Ok None) ]) refl

  file_of_stable : (line : ℕ) (text : List ℕ) → Stable (file_of setting ask es line text) (file_of setting later es line text)
  file_of_stable line text =
      Stable-bind (path_of setting line text) (path_of setting line text) _ _ (Stable-refl (path_of setting line text)) (λ path.
      elim (is_declared es path) as (λ (v : Bool). Stable (cond v (file_at ask es path (setting.source path)) (Err (faulted (why.Undeclared line)))) (cond v (file_at later es path (setting.source path)) (Err (faulted (why.Undeclared line)))))
      [ true ↦ file_at_stable path (setting.source path) refl | false ↦ Stable-refl (Err (faulted (why.Undeclared line))) ])

  contents_stable : (line : ℕ) (texts : List (List ℕ)) → Stable (contents_of setting ask es line texts) (contents_of setting later es line texts)
  contents_stable line [] = Stable-refl (Ok [])
  contents_stable line (text ∷ texts) =
      Stable-bind (file_of setting ask es line text) (file_of setting later es line text) _ _ (file_of_stable line text) (λ file.
      Stable-bind (or_else (exited 1) file) (or_else (exited 1) file) _ _ (Stable-refl (or_else (exited 1) file)) (λ bytes.
      Stable-bind (contents_of setting ask es line texts) (contents_of setting later es line texts) _ _ (contents_stable line texts) (λ more. Stable-refl (Ok (bytes ++ more)))))

  bytes_stable : (line : ℕ) (w : Writer (List ℕ)) → Stable (bytes_of setting ask es line w) (bytes_of setting later es line w)
  bytes_stable line (echo texts) = Stable-refl _
  bytes_stable line (printf format texts) = Stable-refl _
  bytes_stable line (cat texts) = contents_stable line texts

  holds_stable : (line : ℕ) (t : Test (List ℕ)) → Stable (holds setting ask es line t) (holds setting later es line t)
  holds_stable line (is_file text) =
      Stable-bind (file_of setting ask es line text) (file_of setting later es line text) _ _ (file_of_stable line text) (λ file. Stable-refl (Ok (is_some file)))
  holds_stable line (equal a b) = Stable-refl _
  holds_stable line (differ a b) = Stable-refl _

  pub written_stable : (line : ℕ) (w : Writer Word) (r : Option Redirection) (s : State) → s.entries ≡ es → Stable (written setting ask line w r s) (written setting later line w r s)
  written_stable line w r s e =
      Stable-bind (writer_texts setting line w) (writer_texts setting line w) _ _ (Stable-refl (writer_texts setting line w)) (λ texts.
      Stable-bind (goal_of setting line r) (goal_of setting line r) _ _ (Stable-refl (goal_of setting line r)) (λ goal.
      Stable-bind (bytes_of setting ask s.entries line texts) (bytes_of setting later s.entries line texts) _ _ (rw e (bytes_stable line texts)) (λ bytes. Stable-refl (put setting line s goal bytes))))

  pub tested_stable : (line : ℕ) (t : Test Word) (s : State) → s.entries ≡ es → Stable (tested setting ask line t s) (tested setting later line t s)
  tested_stable line t s e =
      Stable-bind (test_texts setting line t) (test_texts setting line t) _ _ (Stable-refl (test_texts setting line t)) (λ texts. rw e (holds_stable line texts))

  pub condition_stable : (line : ℕ) (c : Condition) (s : State) → s.entries ≡ es → Stable (condition_result setting ask line c s) (condition_result setting later line c s)
  condition_stable line (if_test t) s e = tested_stable line t s e
  condition_stable line if_true s e = Stable-refl _
  condition_stable line if_false s e = Stable-refl _

-- Operands

abbrev pub AllAnswered : Setting → Ask → List Path → Type 0
AllAnswered setting ask [] = Unit {0}
AllAnswered setting ask (p ∷ ps) = (lacks setting ask p ≡ false) × AllAnswered setting ask ps

not_nil : (found : List Path) (p : Path) → found ++ (p ∷ []) ≡ [] → ⊥
not_nil [] p e = cc
not_nil (q ∷ qs) p e = cc

path_there : (found : List Path) (p : Path) → with_path found p ≡ [] → ⊥
path_there found p e =
    (elim (is_among found p) as (λ (u : Bool). is_among found p ≡ u → cond u found (found ++ p ∷ []) ≡ [] → ⊥) [
      | false ↦ λ i g. not_nil found p g
      | true ↦ λ i g. let none : is_among found p ≡ false = rw g refl in cc
    ]) refl e

pub lacking-nil : (setting : Setting) (ask : Ask) (found ps : List Path) → lacking setting ask found ps ≡ [] → (found ≡ []) × AllAnswered setting ask ps
lacking-nil setting ask found [] e = (e, tt)
lacking-nil setting ask found (p ∷ ps) e =
    (elim (lacks setting ask p) as (λ (v : Bool). lacks setting ask p ≡ v → with_new found (cond v (p ∷ filter (lacks setting ask) ps) (filter (lacks setting ask) ps)) ≡ [] → (found ≡ []) × AllAnswered setting ask (p ∷ ps)) [
      | false ↦ λ l g. let rest = lacking-nil setting ask found ps g in (rest.0, (l, rest.1))
      | true ↦ λ l g. absurd (path_there found p (lacking-nil setting ask (with_path found p) ps g).0)
    ]) refl e

pub lacking-answered : (setting : Setting) (ask : Ask) (found ps : List Path) → AllAnswered setting ask ps → lacking setting ask found ps ≡ found
lacking-answered setting ask found [] h = refl
lacking-answered setting ask found (p ∷ ps) h = rw h.0 (lacking-answered setting ask found ps h.1)

-- one operand that has an answer
pub one_later : (source : Option (List ℕ)) (o later : Option Outcome) → (is_none source && is_none o) ≡ false → ((a : Outcome) → source ≡ None → o ≡ Some a → later ≡ Some a) → ((is_none source && is_none later) ≡ false) × ((is_none source && is_failure later) ≡ (is_none source && is_failure o))
one_later (Some bytes) o later h k = (refl, refl)
one_later None (Some a) later h k = let e : later ≡ Some a = k a refl refl in (rw e refl, rw e refl)
one_later None None later h k = absurd cc

pub answered_later : (setting : Setting) (ask later : Ask) (es : List Dep) (ps : List Path) → Keeps setting es ask later → AllEntered es kinds.Change ps → AllAnswered setting ask ps → AllAnswered setting later ps × (any_failed setting later ps ≡ any_failed setting ask ps)
answered_later setting ask later es [] k en h = (tt, refl)
answered_later setting ask later es (p ∷ ps) k en h =
    let one = one_later (setting.source p) (ask p) (later p) h.0 (λ a n e. k.same p a n en.0 e) in
    let rest = answered_later setting ask later es ps k en.1 h.1 in
    ((one.0, rest.0), rw (one.1, rest.1) refl)

-- how a redo-ifchange goes on
waited_goes : (setting : Setting) (ask : Ask) (line : ℕ) (ps qs : List Path) (s t : State) → waited setting ask line ps qs s ≡ goes t → (qs ≡ []) × (any_failed setting ask ps ≡ false) × (t ≡ s)
waited_goes setting ask line ps [] s t e =
    (elim (any_failed setting ask ps) as (λ (v : Bool). any_failed setting ask ps ≡ v → cond v (ends (faulted (why.Depends line)) s) (goes s) ≡ goes t → (◌≡◌ {A = List Path} [] []) × (any_failed setting ask ps ≡ false) × (t ≡ s))
    [ true ↦ λ a g. absurd cc | false ↦ λ a g. (refl, a, cc) ]) refl e
waited_goes setting ask line ps (q ∷ qs) s t e = absurd cc

waited_ends : (setting : Setting) (ask : Ask) (line : ℕ) (ps qs : List Path) (s t : State) (w : End) → waited setting ask line ps qs s ≡ ends w t → t ≡ s
waited_ends setting ask line ps [] s t w e =
    (elim (any_failed setting ask ps) as (λ (v : Bool). cond v (ends (faulted (why.Depends line)) s) (goes s) ≡ ends w t → t ≡ s)
    [ true ↦ λ g. cc | false ↦ λ g. absurd cc ]) e
waited_ends setting ask line ps (q ∷ qs) s t w e = cc

pub changed_goes : (setting : Setting) (ask later : Ask) (line : ℕ) (r : Result (List Path) End) (s t : State) → changed setting ask line r s ≡ goes t → Extends s.entries t.entries × (Keeps setting t.entries ask later → changed setting later line r s ≡ goes t)
changed_goes setting ask later line (Err w) s t e = absurd cc
changed_goes setting ask later line (Ok ps) s t e =
    let w = waited_goes setting ask line ps (lacking setting ask [] ps) (declaring s kinds.Change ps) t e in
    let es : List Dep = with_entries s.entries kinds.Change ps in
    let extends : Extends s.entries t.entries = rw w.2 (Extends-with_entries s.entries kinds.Change ps) in (
      extends,
      λ k.
          let k' : Keeps setting es ask later = subst (λ (x : State). Keeps setting x.entries ask later) w.2 k in
          let later_too = answered_later setting ask later es ps k' (AllEntered-with_entries s.entries kinds.Change ps) (lacking-nil setting ask [] ps w.0).1 in
          rw (lacking-answered setting later [] ps later_too.0, later_too.1, w.1, w.2) refl,
    )

pub changed_stays : (setting : Setting) (ask later : Ask) (line : ℕ) (r : Result (List Path) End) (s t : State) (w : End) → changed setting ask line r s ≡ ends w t → Extends s.entries t.entries × (changed setting later line r s ≡ changed setting later line r t)
changed_stays setting ask later line (Err v) s t w e = let same : t ≡ s = cc in (rw same (Extends-refl s.entries), rw same refl)
changed_stays setting ask later line (Ok ps) s t w e =
    let same = waited_ends setting ask line ps (lacking setting ask [] ps) (declaring s kinds.Change ps) t w e in
    (rw same (Extends-with_entries s.entries kinds.Change ps), rw (same, with_entries-again s.entries kinds.Change ps) refl)
