-- Where every operand that is declared has an answer, commands other than redo-ifchange do the same under each ask that
-- keeps these answers, and never stop.
use Rattle.std.proofs.Common.{◌≡◌, ℕ, Bool, true, false, ◌&&◌, cond, Option, Some, None, Result, Ok, Err, List, [], ◌∷◌}
use Rattle.std.proofs.Common.{◌++◌, refl}
use Rattle.std.specs.Prelude.{is_some, is_none, nat_le, length}
use Rattle.redo_script.specs.Syntax.{Word, Redirection, Test, is_file, equal, differ, Writer, echo, printf, cat}
use Rattle.redo_script.specs.Syntax.{Condition, if_test, if_true, if_false}
use Rattle.redo_record.specs.declared.deps.DepKind.TheVariants as kinds
use Rattle.redo_record.specs.declared.outcome.Why.{Why}
use Rattle.redo_record.specs.declared.outcome.Why.TheVariants as why
use Rattle.std.specs.Str.{bytes_eq}
use Rattle.redo_record.specs.Paths.{Path}
use Rattle.redo_step.specs.Path.{resolved}
use Rattle.redo_record.specs.declared.outcome.Outcome.{Outcome}
use Rattle.redo_step.specs.Value.{value_of, value_bound}
use Rattle.redo_step.specs.Setting.{Setting}
use Rattle.redo_step.specs.Runs.{State, End, exited, faulted, stopped, ◌>>=◌, or_else}
use Rattle.redo_step.specs.Words.{text_of, texts_of, path_of, paths_of}
use Rattle.redo_step.specs.Files.{answered_file, file_at, is_declared, file_of, contents_of, test_texts, holds}
use Rattle.redo_step.specs.Files.{tested}
use Rattle.redo_step.specs.Formats.{print_of}
use Rattle.redo_step.specs.Outputs.{is_third, goal_at, writer_texts, bytes_of, goal_of, bytes_or_none, limited, put}
use Rattle.redo_step.specs.Outputs.{written}
use Rattle.redo_step.specs.Declaring.{obstacle, free_of, free_paths}
use Rattle.redo_step.specs.Statements.{condition_result}
use Rattle.redo_record.specs.Answers.{Ask}
use Rattle.redo_record.specs.Entries.{is_entered}
use Rattle.redo_record.specs.declared.deps.Dep.{Dep}
use Rattle.redo_step.specs.Reach.{Keeps}
use Rattle.redo_step.specs.Begins.{AreKnown}

-- it ended, and lacks no answer
abbrev pub IsEnd : End → Type 0
IsEnd (exited n) = Unit {0}
IsEnd (faulted w) = Unit {0}
IsEnd (stopped ps) = ⊥

-- it isn't stopped
abbrev pub IsOver : {A : Type 0} → Result A End → Type 0
IsOver (Ok x) = Unit {0}
IsOver (Err e) = IsEnd e

pub over_bind : {A B : Type 0} (r : Result A End) (f : A → Result B End) → IsOver r → ((x : A) → IsOver (f x)) → IsOver (r >>= f)
over_bind (Ok x) f h k = k x
over_bind (Err e) f h k = h

over_or_else : {A : Type 0} (e : End) (o : Option A) → IsEnd e → IsOver (or_else e o)
over_or_else e None h = h
over_or_else e (Some x) h = tt

-- the same under both asks, and not stopped
pub record Settled {A : Type 0} (first second : Result A End) : Type 0 where
  pub same : second ≡ first
  pub over : IsOver first

both : {A : Type 0} (r : Result A End) → IsOver r → Settled r r
both r h = record { same = refl; over = h }

settled_bind : {A B : Type 0} (r t : Result A End) (f g : A → Result B End) → Settled r t → ((x : A) → Settled (f x) (g x)) → Settled (r >>= f) (t >>= g)
settled_bind (Ok x) t f g s k = rw s.same (k x)
settled_bind (Err e) t f g s k = rw s.same (both (Err e) s.over)

module _ (setting : Setting) (line : ℕ) where
  text_over : (w : Word) → IsOver (text_of setting line w)
  text_over w = over_or_else (faulted (why.Unquoted line)) (value_of setting.stands_for (value_bound setting.bound) w) tt

  pub texts_over : (ws : List Word) → IsOver (texts_of setting line ws)
  texts_over [] = tt
  texts_over (w ∷ ws) = over_bind (text_of setting line w) _ (text_over w) (λ text. over_bind (texts_of setting line ws) (λ texts. Ok (text ∷ texts)) (texts_over ws) (λ texts. tt))

  path_over : (text : List ℕ) → IsOver (path_of setting line text)
  path_over text = over_or_else (faulted (why.Outside line)) (resolved setting.directory text) tt

  pub paths_over : (texts : List (List ℕ)) → IsOver (paths_of setting line texts)
  paths_over [] = tt
  paths_over (t ∷ ts) = over_bind (path_of setting line t) _ (path_over t) (λ path. over_bind (paths_of setting line ts) (λ paths. Ok (path ∷ paths)) (paths_over ts) (λ paths. tt))

  pub free_over : (texts : List (List ℕ)) → IsOver (free_paths setting line texts)
  free_over texts = over_bind (paths_of setting line texts) _ (paths_over texts) (λ paths. elim (obstacle setting line paths) as (λ (o : Option Why). IsOver (free_of paths o)) [ None ↦ tt | Some w ↦ tt ])

  goal_at_over : (appends : Bool) (path : Path) → IsOver (goal_at setting line appends path)
  goal_at_over appends path = elim (bytes_eq path setting.target) as (λ (v : Bool). IsOver (cond v (Err (faulted (why.Direct line))) (cond (is_third setting.third path) (Ok (Some appends)) (Err (faulted (why.Elsewhere line)))))) [
    | true ↦ tt
    | false ↦ elim (is_third setting.third path) as (λ (v : Bool). IsOver (cond v (Ok (Some appends)) (Err (faulted (why.Elsewhere line))))) [ true ↦ tt | false ↦ tt ]
  ]

  goal_over : (r : Option Redirection) → IsOver (goal_of setting line r)
  goal_over None = tt
  goal_over (Some r) = over_bind (text_of setting line r.word) _ (text_over r.word) (λ text. over_bind (path_of setting line text) _ (path_over text) (λ path. goal_at_over r.appends path))

  writer_over : (w : Writer Word) → IsOver (writer_texts setting line w)
  writer_over (echo ws) = over_bind (texts_of setting line ws) (λ texts. Ok (echo texts)) (texts_over ws) (λ texts. tt)
  writer_over (printf f ws) = over_bind (text_of setting line f) _ (text_over f) (λ format. over_bind (texts_of setting line ws) (λ texts. Ok (printf format texts)) (texts_over ws) (λ texts. tt))
  writer_over (cat ws) = over_bind (texts_of setting line ws) (λ texts. Ok (cat texts)) (texts_over ws) (λ texts. tt)

  test_over : (t : Test Word) → IsOver (test_texts setting line t)
  test_over (is_file w) = over_bind (text_of setting line w) (λ text. Ok (is_file text)) (text_over w) (λ text. tt)
  test_over (equal v w) = over_bind (text_of setting line v) _ (text_over v) (λ a. over_bind (text_of setting line w) (λ b. Ok (equal a b)) (text_over w) (λ b. tt))
  test_over (differ v w) = over_bind (text_of setting line v) _ (text_over v) (λ a. over_bind (text_of setting line w) (λ b. Ok (differ a b)) (text_over w) (λ b. tt))

  limited_over : (bytes : List ℕ) → IsOver (limited setting line bytes)
  limited_over bytes = elim (nat_le (length bytes) setting.limit) as (λ (v : Bool). IsOver (cond v (Ok bytes) (Err (faulted (why.TooLarge line))))) [ true ↦ tt | false ↦ tt ]

  put_over : (s : State) (goal : Option Bool) (bytes : List ℕ) → IsOver (put setting line s goal bytes)
  put_over s None bytes = over_bind (limited setting line (s.output ++ bytes)) _ (limited_over (s.output ++ bytes)) (λ output. tt)
  put_over s (Some true) bytes = over_bind (limited setting line (bytes_or_none s.third ++ bytes)) _ (limited_over (bytes_or_none s.third ++ bytes)) (λ third. tt)
  put_over s (Some false) bytes = over_bind (limited setting line bytes) _ (limited_over bytes) (λ third. tt)

module _ (setting : Setting) (ask later : Ask) (es : List Dep) (keeps : Keeps setting es ask later) (known : AreKnown setting ask es) where
  answered_settled : (p : Path) → setting.source p ≡ None → is_entered es kinds.Change p ≡ true → Settled (answered_file p (ask p)) (answered_file p (later p))
  answered_settled p n h =
      (elim (ask p) as (λ (o : Option Outcome). ask p ≡ o → Settled (answered_file p o) (answered_file p (later p))) [
        | Some a ↦ λ e. rw (keeps.same p a n h e) (both (answered_file p (Some a)) tt)
        | None ↦ λ e. absurd (let k : (is_none (setting.source p) && is_none (ask p)) ≡ false = known.known p h in let bad = rw (n, e) at k in cc)
      ]) refl

  file_at_settled : (p : Path) (source : Option (List ℕ)) → setting.source p ≡ source → Settled (file_at ask es p source) (file_at later es p source)
  file_at_settled p (Some bytes) n = both (Ok (Some bytes)) tt
  file_at_settled p None n =
      (elim (is_entered es kinds.Change p) as (λ (v : Bool). is_entered es kinds.Change p ≡ v → Settled (cond v (answered_file p (ask p)) (Ok None)) (cond v (answered_file p (later p)) (Ok None)))
      [ true ↦ λ h. answered_settled p n h | false ↦ λ h. both (Ok None) tt ]) refl

  module _ (line : ℕ) where
    file_of_settled : (text : List ℕ) → Settled (file_of setting ask es line text) (file_of setting later es line text)
    file_of_settled text =
        settled_bind (path_of setting line text) (path_of setting line text) _ _ (both _ (path_over setting line text)) (λ path.
        elim (is_declared es path) as (λ (v : Bool). Settled (cond v (file_at ask es path (setting.source path)) (Err (faulted (why.Undeclared line)))) (cond v (file_at later es path (setting.source path)) (Err (faulted (why.Undeclared line)))))
        [ true ↦ file_at_settled path (setting.source path) refl | false ↦ both (Err (faulted (why.Undeclared line))) tt ])

    contents_settled : (texts : List (List ℕ)) → Settled (contents_of setting ask es line texts) (contents_of setting later es line texts)
    contents_settled [] = both (Ok []) tt
    contents_settled (text ∷ texts) =
        settled_bind (file_of setting ask es line text) (file_of setting later es line text) _ _ (file_of_settled text) (λ file.
        settled_bind (or_else (exited 1) file) (or_else (exited 1) file) _ _ (both _ (over_or_else (exited 1) file tt)) (λ bytes.
        settled_bind (contents_of setting ask es line texts) (contents_of setting later es line texts) _ _ (contents_settled texts) (λ more. both (Ok (bytes ++ more)) tt)))

    bytes_settled : (w : Writer (List ℕ)) → Settled (bytes_of setting ask es line w) (bytes_of setting later es line w)
    bytes_settled (echo texts) = both _ tt
    bytes_settled (printf format texts) = both _ (over_or_else (faulted (why.Format line)) (print_of format texts) tt)
    bytes_settled (cat texts) = contents_settled texts

    holds_settled : (t : Test (List ℕ)) → Settled (holds setting ask es line t) (holds setting later es line t)
    holds_settled (is_file text) =
        settled_bind (file_of setting ask es line text) (file_of setting later es line text) _ _ (file_of_settled text) (λ file. both (Ok (is_some file)) tt)
    holds_settled (equal a b) = both _ tt
    holds_settled (differ a b) = both _ tt

    pub written_settled : (w : Writer Word) (r : Option Redirection) (s : State) → s.entries ≡ es → Settled (written setting ask line w r s) (written setting later line w r s)
    written_settled w r s e =
        settled_bind (writer_texts setting line w) (writer_texts setting line w) _ _ (both _ (writer_over setting line w)) (λ texts.
        settled_bind (goal_of setting line r) (goal_of setting line r) _ _ (both _ (goal_over setting line r)) (λ goal.
        settled_bind (bytes_of setting ask s.entries line texts) (bytes_of setting later s.entries line texts) _ _ (rw e (bytes_settled texts)) (λ bytes. both _ (put_over setting line s goal bytes))))

    pub tested_settled : (t : Test Word) (s : State) → s.entries ≡ es → Settled (tested setting ask line t s) (tested setting later line t s)
    tested_settled t s e =
        settled_bind (test_texts setting line t) (test_texts setting line t) _ _ (both _ (test_over setting line t)) (λ texts. rw e (holds_settled texts))

    pub condition_settled : (c : Condition) (s : State) → s.entries ≡ es → Settled (condition_result setting ask line c s) (condition_result setting later line c s)
    condition_settled (if_test t) s e = tested_settled t s e
    condition_settled if_true s e = both (Ok true) tt
    condition_settled if_false s e = both (Ok false) tt
