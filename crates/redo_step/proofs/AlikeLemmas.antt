-- Two settings that differ in their trees alone, and agree on what was declared, give commands the same.
use Rattle.std.proofs.Common.{◌≡◌, ℕ, Bool, true, false, ◌&&◌, cond, inl, inr, Option, Some, None, Result, Ok, Err}
use Rattle.std.proofs.Common.{List, [], ◌∷◌, refl, sym, ◌∙◌}
use Rattle.std.specs.Prelude.{is_none}
use Rattle.std.proofs.lemmas.Bool.{cases_Bool}
use Rattle.redo_script.specs.Syntax.{Word, Redirection, Test, is_file, equal, differ, Writer, echo, printf, cat}
use Rattle.redo_script.specs.Syntax.{Condition, if_test, if_true, if_false}
use Rattle.redo_record.specs.declared.deps.Dep.{Dep}
use Rattle.redo_record.specs.declared.deps.DepKind.TheVariants as kinds
use Rattle.redo_record.specs.declared.outcome.Outcome.{Outcome}
use Rattle.redo_record.specs.declared.outcome.Outcome.TheVariants as outcomes
use Rattle.redo_record.specs.declared.outcome.Why.TheVariants as why
use Rattle.redo_record.specs.Paths.{Path}
use Rattle.redo_record.specs.Answers.{Ask, is_failure}
use Rattle.redo_record.specs.Entries.{is_entered}
use Rattle.redo_step.specs.Setting.{Setting}
use Rattle.redo_step.specs.Runs.{State, End, faulted, goes, ◌>>=◌}
use Rattle.redo_step.specs.Words.{text_of, texts_of, path_of, paths_of}
use Rattle.redo_step.specs.Files.{answered_file, file_at, is_declared, file_of, contents_of, test_texts, holds}
use Rattle.redo_step.specs.Files.{tested}
use Rattle.redo_step.specs.Outputs.{writer_texts, bytes_of, goal_at, goal_of, put, written}
use Rattle.redo_step.specs.Statements.{condition_result}
use Rattle.redo_step.specs.Declaring.{lacking, any_failed, waited, obstacle}
use Rattle.redo_step.specs.Agreeing.{AreAlike, held_in, held, IsFree, AllMet, AllAgree}
use Rattle.redo_record.proofs.EntryLemmas.{AllEntered}
use Rattle.redo_step.proofs.StableLemmas.{AllAnswered, lacking-answered}

bind_same : {A B : Type 0} (r q : Result A End) (f g : A → Result B End) → q ≡ r → ((x : A) → g x ≡ f x) →
    (q >>= g) ≡ (r >>= f)
bind_same (Ok x) q f g e k = rw e (k x)
bind_same (Err w) q f g e k = rw e refl

-- Words and paths

module _ (one two : Setting) (alike : AreAlike one two) (line : ℕ) where
  text_same : (w : Word) → text_of two line w ≡ text_of one line w
  text_same w = rw (sym alike.stands_for, sym alike.bound) refl

  pub texts_same : (ws : List Word) → texts_of two line ws ≡ texts_of one line ws
  texts_same [] = refl
  texts_same (w ∷ ws) =
      bind_same (text_of one line w) (text_of two line w) _ _ (text_same w)
      (λ text. bind_same (texts_of one line ws) (texts_of two line ws) (λ texts. Ok (text ∷ texts))
      (λ texts. Ok (text ∷ texts)) (texts_same ws) (λ texts. refl))

  path_same : (text : List ℕ) → path_of two line text ≡ path_of one line text
  path_same text = rw (sym alike.directory) refl

  pub paths_same : (texts : List (List ℕ)) → paths_of two line texts ≡ paths_of one line texts
  paths_same [] = refl
  paths_same (t ∷ ts) =
      bind_same (path_of one line t) (path_of two line t) _ _ (path_same t)
      (λ path. bind_same (paths_of one line ts) (paths_of two line ts) (λ paths. Ok (path ∷ paths))
      (λ paths. Ok (path ∷ paths)) (paths_same ts) (λ paths. refl))

  pub operands_same : (ws : List Word) →
      (texts_of two line ws >>= paths_of two line) ≡ (texts_of one line ws >>= paths_of one line)
  operands_same ws =
      bind_same (texts_of one line ws) (texts_of two line ws) (paths_of one line) (paths_of two line)
      (texts_same ws) paths_same

  writer_same : (w : Writer Word) → writer_texts two line w ≡ writer_texts one line w
  writer_same (echo ws) = rw (texts_same ws) refl
  writer_same (printf f ws) = rw (text_same f, texts_same ws) refl
  writer_same (cat ws) = rw (texts_same ws) refl

  test_same : (t : Test Word) → test_texts two line t ≡ test_texts one line t
  test_same (is_file w) = rw (text_same w) refl
  test_same (equal v w) = rw (text_same v, text_same w) refl
  test_same (differ v w) = rw (text_same v, text_same w) refl

  goal_at_same : (appends : Bool) (path : Path) → goal_at two line appends path ≡ goal_at one line appends path
  goal_at_same appends path = rw (sym alike.target, sym alike.third) refl

  goal_same : (r : Option Redirection) → goal_of two line r ≡ goal_of one line r
  goal_same None = refl
  goal_same (Some r) =
      bind_same (text_of one line r.word) (text_of two line r.word) _ _ (text_same r.word)
      (λ text. bind_same (path_of one line text) (path_of two line text) _ _ (path_same text)
      (λ path. goal_at_same r.appends path))

  put_same : (s : State) (goal : Option Bool) (bytes : List ℕ) → put two line s goal bytes ≡ put one line s goal bytes
  put_same s None bytes = rw (sym alike.limit) refl
  put_same s (Some true) bytes = rw (sym alike.limit) refl
  put_same s (Some false) bytes = rw (sym alike.limit) refl

-- Reading

answer_held : (p : Path) (o : Option Outcome) (content : Option (List ℕ)) → held_in None o ≡ Some content →
    answered_file p o ≡ Ok content
answer_held p None content e = absurd cc
answer_held p (Some outcomes.Source) content e = cc
answer_held p (Some (outcomes.Built file)) content e = cc
answer_held p (Some (outcomes.Failed w)) content e = absurd cc
answer_held p (Some outcomes.Cyclic) content e = absurd cc

-- what is read at an operand of redo-ifchange is what it holds
file_held : (ask : Ask) (es : List Dep) (p : Path) (source content : Option (List ℕ)) →
    is_entered es kinds.Change p ≡ true → held_in source (ask p) ≡ Some content → file_at ask es p source ≡ Ok content
file_held ask es p (Some bytes) content h e = cc
file_held ask es p None content h e = rw h (answer_held p (ask p) content e)

file_free : (ask : Ask) (es : List Dep) (p : Path) (source : Option (List ℕ)) → is_entered es kinds.Change p ≡ false →
    source ≡ None → file_at ask es p source ≡ Ok None
file_free ask es p source h n = rw (n, h) refl

module _ (one two : Setting) (a b : Ask) (alike : AreAlike one two) (es : List Dep) (met : AllMet one a es)
    (all : AllAgree one a two b es) where
  file_at_same : (p : Path) → is_declared es p ≡ true → file_at b es p (two.source p) ≡ file_at a es p (one.source p)
  file_at_same p d = elim (cases_Bool (is_entered es kinds.Change p)) [
    | inl t ↦
        let same = all.agree kinds.Change p t in
        file_held b es p (two.source p) same.0 t same.2 ∙ sym (file_held a es p (one.source p) same.0 t same.1)
    | inr f ↦
        let declared : is_entered es kinds.Create p ≡ true = rw f at d in
        let before : IsFree one p = met.met kinds.Create p declared in
        let now : IsFree two p = all.agree kinds.Create p declared in
        file_free b es p (two.source p) f now.no_source ∙ sym (file_free a es p (one.source p) f before.no_source)
  ]

  module _ (line : ℕ) where
    file_of_same : (text : List ℕ) → file_of two b es line text ≡ file_of one a es line text
    file_of_same text =
        bind_same (path_of one line text) (path_of two line text) _ _ (path_same one two alike line text) (λ path.
        (elim (is_declared es path) as
        (λ (v : Bool). is_declared es path ≡ v →
        cond v (file_at b es path (two.source path)) (Err (faulted (why.Undeclared line))) ≡ cond v
        (file_at a es path (one.source path)) (Err (faulted (why.Undeclared line))))
        [ true ↦ λ d. file_at_same path d | false ↦ λ d. refl ]) refl)

    contents_same : (texts : List (List ℕ)) → contents_of two b es line texts ≡ contents_of one a es line texts
    contents_same [] = refl
    contents_same (text ∷ texts) = rw (file_of_same text, contents_same texts) refl

    bytes_same : (w : Writer (List ℕ)) → bytes_of two b es line w ≡ bytes_of one a es line w
    bytes_same (echo texts) = refl
    bytes_same (printf format texts) = refl
    bytes_same (cat texts) = contents_same texts

    holds_same : (t : Test (List ℕ)) → holds two b es line t ≡ holds one a es line t
    holds_same (is_file text) = rw (file_of_same text) refl
    holds_same (equal v w) = refl
    holds_same (differ v w) = refl

module _ (one two : Setting) (a b : Ask) (alike : AreAlike one two) (line : ℕ) (s : State)
    (met : AllMet one a s.entries) (all : AllAgree one a two b s.entries) where
  pub written_same : (w : Writer Word) (r : Option Redirection) → written two b line w r s ≡ written one a line w r s
  written_same w r =
      bind_same (writer_texts one line w) (writer_texts two line w) _ _ (writer_same one two alike line w) (λ texts.
      bind_same (goal_of one line r) (goal_of two line r) _ _ (goal_same one two alike line r) (λ goal.
      bind_same (bytes_of one a s.entries line texts) (bytes_of two b s.entries line texts) _ _
      (bytes_same one two a b alike s.entries met all line texts)
      (λ bytes. put_same one two alike line s goal bytes)))

  pub tested_same : (t : Test Word) → tested two b line t s ≡ tested one a line t s
  tested_same t =
      bind_same (test_texts one line t) (test_texts two line t) _ _ (test_same one two alike line t)
      (λ texts. holds_same one two a b alike s.entries met all line texts)

  pub condition_same : (c : Condition) → condition_result two b line c s ≡ condition_result one a line c s
  condition_same (if_test t) = tested_same t
  condition_same if_true = refl
  condition_same if_false = refl

-- Operands

-- a path that holds something has an answer, and hasn't failed
held_answered : (source : Option (List ℕ)) (o : Option Outcome) (content : Option (List ℕ)) →
    held_in source o ≡ Some content →
    ((is_none source && is_none o) ≡ false) × ((is_none source && is_failure o) ≡ false)
held_answered (Some bytes) o content e = (refl, refl)
held_answered None None content e = absurd cc
held_answered None (Some outcomes.Source) content e = (refl, refl)
held_answered None (Some (outcomes.Built file)) content e = (refl, refl)
held_answered None (Some (outcomes.Failed w)) content e = absurd cc
held_answered None (Some outcomes.Cyclic) content e = absurd cc

module _ (setting : Setting) (ask : Ask) (es : List Dep) where
  all_answered :
      ((p : Path) → is_entered es kinds.Change p ≡ true →
      (content : Option (List ℕ)) × (held setting ask p ≡ Some content)) →
      (ps : List Path) → AllEntered es kinds.Change ps →
      AllAnswered setting ask ps × (any_failed setting ask ps ≡ false)
  all_answered hold [] entered = (tt, refl)
  all_answered hold (p ∷ ps) entered =
      let here = hold p entered.0 in
      let now = held_answered (setting.source p) (ask p) here.0 here.1 in
      let rest = all_answered hold ps entered.1 in
      ((now.0, rest.0), rw (now.1, rest.1) refl)

  -- a redo-ifchange of paths that hold something goes on
  pub waited_held :
      ((p : Path) → is_entered es kinds.Change p ≡ true →
      (content : Option (List ℕ)) × (held setting ask p ≡ Some content)) →
      (line : ℕ) (ps : List Path) (s : State) → AllEntered es kinds.Change ps →
      waited setting ask line ps (lacking setting ask [] ps) s ≡ goes s
  waited_held hold line ps s entered = let h = all_answered hold ps entered in
      rw (lacking-answered setting ask [] ps h.0, h.1) refl

  -- redo-ifcreate takes paths that are free
  pub obstacle_free : ((p : Path) → is_entered es kinds.Create p ≡ true → IsFree setting p) →
      (line : ℕ) (ps : List Path) → AllEntered es kinds.Create ps → obstacle setting line ps ≡ None
  obstacle_free free line [] entered = refl
  obstacle_free free line (p ∷ ps) entered =
      let here = free p entered.0 in
      rw (here.no_source, here.no_directory, here.no_rule) (obstacle_free free line ps entered.1)
