-- A run depends on the bytes of the sources that it declares, and on no others.
use Rattle.std.proofs.Common.{◌≡◌, ℕ, Bool, true, false, ◌&&◌, ◌||◌, cond, inl, inr}
use Rattle.std.proofs.Common.{Option, Some, None, Result, Ok, Err}
use Rattle.std.proofs.Common.{List, [], ◌∷◌, ◌++◌, ◌⊎◌, filter, refl, sym, ap, ap₂, subst, ◌∙◌}
use Rattle.std.specs.Prelude.{is_none, is_some}
use Rattle.std.proofs.lemmas.Bool.{cases_Bool, or_cases, or_parts}
use Rattle.redo_script.specs.Syntax.{Word, Redirection, Test, is_file, equal, differ, Writer, echo, printf, cat}
use Rattle.redo_script.specs.Syntax.{Command, write, test, change, create, always, always_true, always_false, exit}
use Rattle.redo_script.specs.Syntax.{Condition, if_test, if_true, if_false, Script, finish, simple, choice, loop}
use Rattle.redo_record.specs.Answers.{Ask, is_failure}
use Rattle.redo_record.specs.Entries.{is_entered, with_entry, with_entries}
use Rattle.redo_record.specs.Paths.{IsAmong, Path, with_new}
use Rattle.redo_record.specs.declared.deps.Dep.{Dep}
use Rattle.redo_record.specs.declared.deps.DepKind.{DepKind}
use Rattle.redo_record.specs.declared.deps.DepKind.TheVariants as kinds
use Rattle.redo_record.specs.declared.outcome.Why.{Why}
use Rattle.redo_record.specs.declared.outcome.Why.TheVariants as why
use Rattle.redo_record.proofs.Public.{one_entered, whole_cases, whole_first}
use Rattle.redo_step.specs.Setting.{Setting, with_value}
use Rattle.redo_step.specs.Runs.{State, End, exited, faulted, Run, goes, ends, end_state, start, or_else, ◌>>=◌}
use Rattle.redo_step.specs.Words.{path_of, paths_of, texts_of, operands_of}
use Rattle.redo_step.specs.Files.{contents_of, file_at, file_of, holds, is_declared, test_texts, tested}
use Rattle.redo_step.specs.Outputs.{bytes_of, goal_of, limited, bytes_or_none, put, writer_texts, written}
use Rattle.redo_step.specs.Declaring.{any_failed, changed, created, declaring, free_of, free_paths}
use Rattle.redo_step.specs.Declaring.{lacking, lacks, obstacle, waited}
use Rattle.redo_step.specs.Statements.{chosen, command_run, condition_result, looped, meaning, run, then_run, turns}
use Rattle.redo_step.specs.Statements.{with_state, with_status}

-- what is the same at each argument is the same
pub same_everywhere : {A B : Type 0} (f g : A → B) → ((x : A) → f x ≡ g x) → f ≡ g
same_everywhere f g h = λ i x. h x i

-- the bytes of each source
abbrev pub Files : Type 0
Files = Path → Option (List ℕ)

-- the same setting over other files
abbrev pub with_files : Setting → Files → Setting
with_files setting files = record setting { source = files }

-- Entries

entry_cases : (es : List Dep) (j k : DepKind) (q p : Path) → is_entered (with_entry es j q) k p ≡ true →
    (is_entered es k p ≡ true) ⊎ ((j ≡ k) × (q ≡ p))
entry_cases es j k q p h =
    let d : Dep = record { kind = j; path = q } in
    elim (whole_cases es (d ∷ []) k p h) [
      | inl old ↦ inl old
      | inr new ↦ inr (one_entered d k p new)
    ]

-- of paths that are entered: what is entered then was entered before or is one of them
entries_cases : (es : List Dep) (j k : DepKind) (ps : List Path) (p : Path) →
    is_entered (with_entries es j ps) k p ≡ true → (is_entered es k p ≡ true) ⊎ ((j ≡ k) × IsAmong ps p)
entries_cases es j k [] p h = inl h
entries_cases es j k (q ∷ ps) p h = elim (entries_cases (with_entry es j q) j k ps p h) [
  | inl old ↦ elim (entry_cases es j k q p old) [
    | inl before ↦ inl before
    | inr here ↦ inr (here.0, inl here.1)
  ]
  | inr later ↦ inr (later.0, inr later.1)
]

entries_stay : (es : List Dep) (j k : DepKind) (ps : List Path) (p : Path) → is_entered es k p ≡ true →
    is_entered (with_entries es j ps) k p ≡ true
entries_stay es j k [] p h = h
entries_stay es j k (q ∷ ps) p h =
    entries_stay (with_entry es j q) j k ps p (whole_first es (record { kind = j; path = q } ∷ []) k p h)

-- What a run has read

module _ (source files : Files) where
  -- the files that entries have under `change` have the same bytes
  abbrev pub AreRead : List Dep → Type 0
  AreRead es = (p : Path) → is_entered es kinds.Change p ≡ true → files p ≡ source p

  -- no source is at a path that entries have under `create`
  abbrev pub AreFree : List Dep → Type 0
  AreFree es = (p : Path) → is_entered es kinds.Create p ≡ true → source p ≡ None

  abbrev pub GoesFree : Run → Type 0
  GoesFree (goes t) = AreFree t.entries
  GoesFree (ends e t) = Unit {0}

  -- From a state, the first run, over the one files, keeps what was entered. The second, over the others, is the same
  -- where they have what the first declares.
  pub record Reads (t : State) (r q : Run) : Type 0 where
    pub grows : (k : DepKind) (p : Path) → is_entered t.entries k p ≡ true →
        is_entered (end_state r).entries k p ≡ true
    pub free : AreFree t.entries → GoesFree r
    pub same : AreFree t.entries → AreRead (end_state r).entries → q ≡ r

  goes_free : (r : Run) → AreFree (end_state r).entries → GoesFree r
  goes_free (goes t) free = free
  goes_free (ends e t) free = tt

  -- a run that declares nothing
  still_reads : (t : State) (r q : Run) → (end_state r).entries ≡ t.entries →
      (AreFree t.entries → AreRead t.entries → q ≡ r) → Reads t r q
  still_reads t r q e same = record {
    grows = λ k p h. subst (λ (es : List Dep). is_entered es k p ≡ true) (sym e) h;
    free = λ free. goes_free r (subst AreFree (sym e) free);
    same = λ free read. same free (subst AreRead e read);
  }

  then_reads : (t : State) (r q : Run) (g h : State → Run) → Reads t r q → ((u : State) → Reads u (g u) (h u)) →
      Reads t (then_run r g) (then_run q h)
  then_reads t (goes u) q g h now next = record {
    grows = λ k p e. (next u).grows k p (now.grows k p e);
    free = λ free. (next u).free (now.free free);
    same = λ free read.
        ap (λ (x : Run). then_run x h) (now.same free (λ p e. read p ((next u).grows kinds.Change p e)))
        ∙ (next u).same (now.free free) read;
  }
  then_reads t (ends e u) q g h now next = record {
    grows = now.grows;
    free = λ free. tt;
    same = λ free read. ap (λ (x : Run). then_run x h) (now.same free read);
  }

  turns_read : (f g : List ℕ → State → Run) → ((value : List ℕ) (u : State) → Reads u (f value u) (g value u)) →
      (values : List (List ℕ)) (t : State) → Reads t (turns f values t) (turns g values t)
  turns_read f g each [] t = still_reads t (goes t) (goes t) refl (λ free read. refl)
  turns_read f g each (value ∷ values) t =
      then_reads t (f value t) (g value t) (turns f values) (turns g values) (each value t)
      (turns_read f g each values)

  looped_reads : (x : Result (List (List ℕ)) End) (f g : List ℕ → State → Run) →
      ((value : List ℕ) (u : State) → Reads u (f value u) (g value u)) → (t : State) →
      Reads t (looped x f t) (looped x g t)
  looped_reads (Ok values) f g each t = turns_read f g each values t
  looped_reads (Err e) f g each t = still_reads t (ends e t) (ends e t) refl (λ free read. refl)

  chosen_reads : (x y : Result Bool End) (f f' g g' : State → Run) (t : State) →
      (AreFree t.entries → AreRead t.entries → y ≡ x) → Reads t (f t) (f' t) → Reads t (g t) (g' t) →
      Reads t (chosen x f g t) (chosen y f' g' t)
  chosen_reads (Ok true) y f f' g g' t e first second = record {
    grows = first.grows;
    free = first.free;
    same = λ free read.
        ap (λ (z : Result Bool End). chosen z f' g' t) (e free (λ p h. read p (first.grows kinds.Change p h)))
        ∙ first.same free read;
  }
  chosen_reads (Ok false) y f f' g g' t e first second = record {
    grows = second.grows;
    free = second.free;
    same = λ free read.
        ap (λ (z : Result Bool End). chosen z f' g' t) (e free (λ p h. read p (second.grows kinds.Change p h)))
        ∙ second.same free read;
  }
  chosen_reads (Err w) y f f' g g' t e first second =
      still_reads t (ends w t) (chosen y f' g' t) refl
      (λ free read. ap (λ (z : Result Bool End). chosen z f' g' t) (e free read))

-- Commands

-- a step that leaves the entries alone
abbrev KeepsEntries : State → Result State End → Type 0
KeepsEntries t x = (end_state (with_state x t)).entries ≡ t.entries

bind_keeps : {A : Type 0} (t : State) (x : Result A End) (f : A → Result State End) →
    ((v : A) → KeepsEntries t (f v)) → KeepsEntries t (x >>= f)
bind_keeps t (Ok v) f each = each v
bind_keeps t (Err e) f each = refl

module _ (s : Setting) (files : Files) (a : Ask) (same : (p : Path) → is_some (files p) ≡ is_some (s.source p)) where
  abbrev two : Setting
  two = with_files s files

  none_from : (o o' : Option (List ℕ)) → is_some o' ≡ is_some o → is_none o' ≡ is_none o
  none_from None None e = refl
  none_from None (Some bytes) e = absurd cc
  none_from (Some bytes) None e = absurd cc
  none_from (Some bytes) (Some others) e = refl

  none_same : (p : Path) → is_none (files p) ≡ is_none (s.source p)
  none_same p = none_from (s.source p) (files p) (same p)

  nothing_same : (o o' : Option (List ℕ)) → is_some o' ≡ is_some o → o ≡ None → o' ≡ o
  nothing_same None None e n = refl
  nothing_same None (Some bytes) e n = absurd cc
  nothing_same (Some bytes) o' e n = absurd cc

  -- what was declared by redo-ifchange or redo-ifcreate has the same bytes
  declared_same : (es : List Dep) → AreFree s.source files es → AreRead s.source files es → (p : Path) →
      is_declared es p ≡ true → files p ≡ s.source p
  declared_same es free read p h = elim (or_cases (is_entered es kinds.Change p) (is_entered es kinds.Create p) h) [
    | inl changes ↦ read p changes
    | inr creates ↦ nothing_same (s.source p) (files p) (same p) (free p creates)
  ]

  module _ (line : ℕ) (t : State) where
    put_keeps : (goal : Option Bool) (bytes : List ℕ) → KeepsEntries t (put s line t goal bytes)
    put_keeps None bytes =
        bind_keeps t (limited s line (t.output ++ bytes)) (λ output. Ok (record t { output = output }))
        (λ output. refl)
    put_keeps (Some true) bytes =
        bind_keeps t (limited s line (bytes_or_none t.third ++ bytes)) (λ third. Ok (record t { third = Some third }))
        (λ third. refl)
    put_keeps (Some false) bytes =
        bind_keeps t (limited s line bytes) (λ third. Ok (record t { third = Some third })) (λ third. refl)

    written_keeps : (w : Writer Word) (r : Option Redirection) → KeepsEntries t (written s a line w r t)
    written_keeps w r =
        bind_keeps t (writer_texts s line w) _ (λ texts.
        bind_keeps t (goal_of s line r) _ (λ goal.
        bind_keeps t (bytes_of s a t.entries line texts) _ (λ bytes. put_keeps goal bytes)))

    status_keeps : (x : Result Bool End) → (end_state (with_status x t)).entries ≡ t.entries
    status_keeps (Ok true) = refl
    status_keeps (Ok false) = refl
    status_keeps (Err e) = refl

    module _ (free : AreFree s.source files t.entries) (read : AreRead s.source files t.entries) where
      file_same : (text : List ℕ) → file_of two a t.entries line text ≡ file_of s a t.entries line text
      file_same text = by_path (path_of s line text)
        where
          by_path : (x : Result Path End) →
              (x >>= λ path. cond (is_declared t.entries path) (file_at a t.entries path (files path))
              (Err (faulted (why.Undeclared line)))) ≡
              (x >>= λ path. cond (is_declared t.entries path) (file_at a t.entries path (s.source path))
              (Err (faulted (why.Undeclared line))))
          by_path (Err e) = refl
          by_path (Ok path) = elim (cases_Bool (is_declared t.entries path)) [
            | inl h ↦
                ap (λ (o : Option (List ℕ)). cond (is_declared t.entries path) (file_at a t.entries path o)
                (Err (faulted (why.Undeclared line)))) (declared_same t.entries free read path h)
            | inr h ↦ rw h refl
          ]

      contents_same : (texts : List (List ℕ)) →
          contents_of two a t.entries line texts ≡ contents_of s a t.entries line texts
      contents_same [] = refl
      contents_same (text ∷ texts) =
          ap₂ (λ (x : Result (Option (List ℕ)) End) (y : Result (List ℕ) End).
          x >>= λ file. or_else (exited 1) file >>= λ bytes. y >>= λ more. Ok (bytes ++ more))
          (file_same text) (contents_same texts)

      bytes_same : (w : Writer (List ℕ)) → bytes_of two a t.entries line w ≡ bytes_of s a t.entries line w
      bytes_same (echo texts) = refl
      bytes_same (printf format texts) = refl
      bytes_same (cat texts) = contents_same texts

      holds_same : (v : Test (List ℕ)) → holds two a t.entries line v ≡ holds s a t.entries line v
      holds_same (is_file text) =
          ap (λ (x : Result (Option (List ℕ)) End). x >>= λ file. Ok (is_some file)) (file_same text)
      holds_same (equal v w) = refl
      holds_same (differ v w) = refl

      tested_same : (v : Test Word) → tested two a line v t ≡ tested s a line v t
      tested_same v =
          ap (λ (f : Test (List ℕ) → Result Bool End). test_texts s line v >>= f)
          (same_everywhere (holds two a t.entries line) (holds s a t.entries line) holds_same)

      condition_same : (c : Condition) → condition_result two a line c t ≡ condition_result s a line c t
      condition_same (if_test v) = tested_same v
      condition_same if_true = refl
      condition_same if_false = refl

      written_same : (w : Writer Word) (r : Option Redirection) → written two a line w r t ≡ written s a line w r t
      written_same w r =
          ap (λ (f : Writer (List ℕ) → Result (List ℕ) End).
          writer_texts s line w >>= λ texts. goal_of s line r >>= λ goal.
          f texts >>= λ bytes. put s line t goal bytes)
          (same_everywhere (bytes_of two a t.entries line) (bytes_of s a t.entries line) bytes_same)

    -- redo-ifchange

    failed_same : (ps : List Path) → any_failed two a ps ≡ any_failed s a ps
    failed_same [] = refl
    failed_same (p ∷ ps) =
        ap₂ (λ (x y : Bool). (x && is_failure (a p)) || y) (none_same p) (failed_same ps)

    lacks_same : lacks two a ≡ lacks s a
    lacks_same =
        same_everywhere (lacks two a) (lacks s a) (λ p. ap (λ (x : Bool). x && is_none (a p)) (none_same p))

    waited_same : (ps qs : List Path) (u : State) → waited two a line ps qs u ≡ waited s a line ps qs u
    waited_same ps [] u =
        ap (λ (x : Bool). cond x (ends (faulted (why.Depends line)) u) (goes u)) (failed_same ps)
    waited_same ps (q ∷ qs) u = refl

    waited_entries : (ps qs : List Path) (u : State) → (end_state (waited s a line ps qs u)).entries ≡ u.entries
    waited_entries ps [] u = elim (cases_Bool (any_failed s a ps)) [ inl e ↦ rw e refl | inr e ↦ rw e refl ]
    waited_entries ps (q ∷ qs) u = refl

    changed_reads : (x : Result (List Path) End) →
        Reads s.source files t (changed s a line x t) (changed two a line x t)
    changed_reads (Err e) = still_reads s.source files t (ends e t) (ends e t) refl (λ free read. refl)
    changed_reads (Ok ps) =
        let u : State = declaring t kinds.Change ps in
        let r : Run = waited s a line ps (lacking s a [] ps) u in
        let e : (end_state r).entries ≡ u.entries = waited_entries ps (lacking s a [] ps) u in
        record {
          grows = λ k p h.
              subst (λ (es : List Dep). is_entered es k p ≡ true) (sym e)
              (entries_stay t.entries kinds.Change k ps p h);
          free = λ free.
              goes_free s.source files r (subst (AreFree s.source files) (sym e) (λ p h.
              elim (entries_cases t.entries kinds.Change kinds.Create ps p h) [
                | inl old ↦ free p old
                | inr new ↦ absurd (change-create new.0)
              ]));
          same = λ free read.
              waited_same ps (lacking two a [] ps) u
              ∙ ap (λ (l : Path → Bool). waited s a line ps (with_new [] (filter l ps)) u) lacks_same;
        }
      where
        change-create : kinds.Change ≡ kinds.Create → ⊥
        change-create e = absurd cc

    -- redo-ifcreate

    obstacle_same : (ps : List Path) → obstacle two line ps ≡ obstacle s line ps
    obstacle_same [] = refl
    obstacle_same (p ∷ ps) =
        ap₂ (λ (x : Bool) (y : Option Why).
        cond (x || s.is_directory p) (Some (why.Exists line)) (cond (s.has_rule p) (Some (why.Buildable line)) y))
        (same p) (obstacle_same ps)

    -- no source is at a path that redo-ifcreate takes
    free_from : (ps : List Path) → obstacle s line ps ≡ None → (p : Path) → IsAmong ps p → s.source p ≡ None
    free_from [] e p m = absurd m
    free_from (q ∷ ps) e p m = elim (cases_Bool (is_some (s.source q) || s.is_directory q)) [
      | inl there ↦ absurd (let bad = rw there at e in cc)
      | inr gone ↦ elim (cases_Bool (s.has_rule q)) [
        | inl ruled ↦ absurd (let bad = rw (gone, ruled) at e in cc)
        | inr unruled ↦ elim m [
          | inl here ↦
              subst (λ (x : Path). s.source x ≡ None) here
              (nothing (s.source q) (or_parts (is_some (s.source q)) (s.is_directory q) gone).0)
          | inr later ↦ free_from ps (rw (gone, unruled) at e) p later
        ]
      ]
    ]
      where
        nothing : (o : Option (List ℕ)) → is_some o ≡ false → o ≡ None
        nothing None n = refl
        nothing (Some bytes) n = absurd cc

    created_reads : (x : Result (List Path) End) → Reads s.source files t
        (created (x >>= λ ps. free_of ps (obstacle s line ps)) t)
        (created (x >>= λ ps. free_of ps (obstacle two line ps)) t)
    created_reads (Err e) = still_reads s.source files t (ends e t) (ends e t) refl (λ free read. refl)
    created_reads (Ok ps) = by_obstacle (obstacle s line ps) refl
      where
        by_obstacle : (o : Option Why) → obstacle s line ps ≡ o → Reads s.source files t
            (created (free_of ps (obstacle s line ps)) t) (created (free_of ps (obstacle two line ps)) t)
        by_obstacle None e = rw (obstacle_same ps, e) (record {
          grows = λ k p h. entries_stay t.entries kinds.Create k ps p h;
          free = λ free p h. elim (entries_cases t.entries kinds.Create kinds.Create ps p h) [
            | inl old ↦ free p old
            | inr new ↦ free_from ps e p new.1
          ];
          same = λ free read. refl;
        })
        by_obstacle (Some w) e =
            rw (obstacle_same ps, e)
            (still_reads s.source files t (ends (faulted w) t) (ends (faulted w) t) refl (λ free read. refl))

    texts_reads : (x : Result (List (List ℕ)) End) → Reads s.source files t
        (created (x >>= free_paths s line) t) (created (x >>= free_paths two line) t)
    texts_reads (Ok texts) = created_reads (paths_of s line texts)
    texts_reads (Err e) = still_reads s.source files t (ends e t) (ends e t) refl (λ free read. refl)

    -- redo-always
    always_reads : Reads s.source files t (goes (declaring t kinds.Always ([] ∷ [])))
        (goes (declaring t kinds.Always ([] ∷ [])))
    always_reads = record {
      grows = λ k p h. entries_stay t.entries kinds.Always k ([] ∷ []) p h;
      free = λ free p h. elim (entries_cases t.entries kinds.Always kinds.Create ([] ∷ []) p h) [
        | inl old ↦ free p old
        | inr new ↦ absurd (always-create new.0)
      ];
      same = λ free read. refl;
    }
      where
        always-create : kinds.Always ≡ kinds.Create → ⊥
        always-create e = absurd cc

    command_reads : (c : Command) → Reads s.source files t (command_run s a line c t) (command_run two a line c t)
    command_reads (write w r) =
        still_reads s.source files t (command_run s a line (write w r) t) (command_run two a line (write w r) t)
        (written_keeps w r)
        (λ free read. ap (λ (x : Result State End). with_state x t) (written_same free read w r))
    command_reads (test v) =
        still_reads s.source files t (command_run s a line (test v) t) (command_run two a line (test v) t)
        (status_keeps (tested s a line v t))
        (λ free read. ap (λ (x : Result Bool End). with_status x t) (tested_same free read v))
    command_reads (change ws) = changed_reads (operands_of s line ws)
    command_reads (create ws) = texts_reads (texts_of s line ws)
    command_reads always = always_reads
    command_reads always_true = still_reads s.source files t (goes t) (goes t) refl (λ free read. refl)
    command_reads always_false =
        still_reads s.source files t (ends (exited 1) t) (ends (exited 1) t) refl (λ free read. refl)
    command_reads (exit n) =
        still_reads s.source files t (ends (exited n) t) (ends (exited n) t) refl (λ free read. refl)

-- Scripts

run_reads : (s : Setting) (files : Files) (a : Ask) → ((p : Path) → is_some (files p) ≡ is_some (s.source p)) →
    (c : Script) (t : State) → Reads s.source files t (run s a c t) (run (with_files s files) a c t)
unfolding run
run_reads s files a same finish t = still_reads s.source files t (goes t) (goes t) refl (λ free read. refl)
run_reads s files a same (simple line c rest) t =
    then_reads s.source files t (command_run s a line c t) (command_run (with_files s files) a line c t)
    (run s a rest) (run (with_files s files) a rest) (command_reads s files a same line t c)
    (run_reads s files a same rest)
run_reads s files a same (choice line c first second rest) t =
    let two : Setting = with_files s files in
    then_reads s.source files t (chosen (condition_result s a line c t) (run s a first) (run s a second) t)
    (chosen (condition_result two a line c t) (run two a first) (run two a second) t) (run s a rest) (run two a rest)
    (chosen_reads s.source files (condition_result s a line c t) (condition_result two a line c t) (run s a first)
    (run two a first) (run s a second) (run two a second) t
    (λ free read. condition_same s files a same line t free read c)
    (run_reads s files a same first t) (run_reads s files a same second t))
    (run_reads s files a same rest)
run_reads s files a same (loop line name ws body rest) t =
    let two : Setting = with_files s files in
    let turn : List ℕ → State → Run = λ value. run (with_value s name value) a body in
    let turn' : List ℕ → State → Run = λ value. run (with_value two name value) a body in
    then_reads s.source files t (looped (texts_of s line ws) turn t) (looped (texts_of two line ws) turn' t)
    (run s a rest) (run two a rest)
    (looped_reads s.source files (texts_of s line ws) turn turn'
    (λ value u. run_reads (with_value s name value) files a same body u) t)
    (run_reads s files a same rest)

-- a whole script runs the same over other files, if they have what it declares over the one
pub meaning_reads : (s : Setting) (files : Files) (a : Ask) →
    ((p : Path) → is_some (files p) ≡ is_some (s.source p)) →
    (script : Script) → AreRead s.source files (end_state (meaning s a script)).entries →
    meaning (with_files s files) a script ≡ meaning s a script
unfolding meaning
meaning_reads s files a same script read =
    (run_reads s files a same script start).same (λ p h. absurd cc) read
