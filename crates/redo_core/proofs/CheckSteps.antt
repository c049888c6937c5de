-- The steps of a check: what is read of the book, and what a walk over entries leads to.
use Rattle.std.proofs.Common.{◌≡◌, ◌∙◌, ◌+◌, ◌<◌, ◌≤◌, ℕ, zero, suc, Bool, true, false, not, ◌&&◌, ◌||◌, inl, inr, List, []}
use Rattle.std.proofs.Common.{◌∷◌, ◌++◌, Option, Some, None, refl, sym, ap, subst, arith, length, map, take, slice_get}
use Rattle.std.proofs.Common.{slice_index_or}
use Rattle.std.proofs.lemmas.Bool.{cases_lt}
use Rattle.std.proofs.lemmas.List.{append-nil, length-map, map-append, take_all, take_more}
use Rattle.std.proofs.lemmas.Option.{slice_get-map, slice_get_past, slice_get_read, slice_get_within}
use Rattle.std.specs.List.{AllByRecursion, IsDistinct}
use Rattle.std.specs.Prelude.{Err, IfSome, MatchOption, Ok, Result, if◌then◌else◌, option_and_then, option_map, unwrap_or}
use Rattle.std.specs.Str.{bytes_eq}
use Rattle.redo_script.specs.Texts.{script_in}
use Rattle.redo_tree.specs.Tree.{file_at}
use Rattle.redo_which.specs.Rule.{Found, Rule, found_of}
use Rattle.redo_record.specs.declared.deps.Dep.{Dep}
use Rattle.redo_record.specs.declared.outcome.Outcome.{Outcome}
use Rattle.redo_record.specs.Entries.{AreOnce, is_entered, same_kind, search_deps, with_all, with_entries, with_entry}
use Rattle.redo_record.specs.declared.deps.DepKind.TheVariants as kinds
use Rattle.redo_record.specs.Paths.{is_among}
use Rattle.redo_record.proofs.OnceLemmas.{once-entries}
use Rattle.redo_record.proofs.StoredLemmas.{once-with, put-in}
use Rattle.redo_step.specs.Results.{by_script}
use Rattle.redo_step.specs.Setting.{Setting, is_rule, setting_by}
use Rattle.redo_step.specs.Runs.{end_state}
use Rattle.redo_step.specs.Statements.{meaning}
use Rattle.redo_script.specs.declared.fault.ScriptFault.{ScriptFault}
use Rattle.redo_script.specs.Syntax.{Script}
use Rattle.redo_book.specs.declared.book.BookEntry.{BookEntry}
use Rattle.redo_book.specs.declared.book.BookEntry.TheVariants.{Change, Create, Always}
use Rattle.redo_book.specs.declared.book.BookRecord.{BookRecord}
use Rattle.redo_book.specs.Book.{IsBook, IsRecord, Record, record_at, record_of, same_entry}
use Rattle.redo_build.specs.Rules.{Ask}
use Rattle.redo_build.specs.Schedule.{nothing_known}
use Rattle.redo_digest.specs.Digest.{State}
use Rattle.redo_book.specs.Intact.{is_intact}
use Rattle.redo_past.specs.Past.{intact_record}
use Rattle.redo_skip.specs.Checks.{asking, asks, falls, has_state, lacks, shown, standing, stands, stands_if, told}
use Rattle.redo_skip.specs.NewBook.{check_by}
use Rattle.redo_skip.specs.Sources.{Sources}
use Rattle.redo_rules.specs.Build.{GivenView, checks_for, last_run_of, rules_for, sources_for}
use Rattle.redo_rules.specs.inside.Worlds.{World, progress_in, world_of}
use Rattle.redo_core.specs.declared.check.Check.{Check}
use Rattle.redo_skip.specs.inside.Stood.{HaveStood, StandAlone, asked_by}
use Rattle.redo_core.specs.inside.Checking.{FallsBehind, IsBegunBehind, IsCheckedBy, IsDueCheck, IsInCheck}
use Rattle.redo_core.specs.inside.Checking.{IsWaitingCheck, IsWalkedTo, entries_in, entries_of_record}
use Rattle.redo_core.specs.inside.Checking.{state_of_entry}
use Rattle.redo_core.proofs.CheckingLemmas.{falls-behind, none-behind}
use Rattle.redo_skip.proofs.NewBookLemmas.{found-target}
use Rattle.redo_skip.proofs.StoodLemmas.{always, answered-path, asked-at, asked-on, asks-path, not-falling, plus-one}
use Rattle.redo_skip.proofs.StoodLemmas.{stood-more, stood-none, stood-on, unasked}
use Rattle.redo_core.proofs.NumberLemmas.{same-some}

-- ---- records of the book

all-at : (P : Record → Type 0) (rs : List Record) (n : ℕ) (r : Record) → AllByRecursion P rs → slice_get rs n ≡ Some r → P r
all-at P [] n r all h = absurd cc
all-at P (x ∷ rs) zero r all h = let is : x ≡ r = cc in subst P is all.0
all-at P (x ∷ rs) (suc n) r all h = all-at P rs n r all.1 h

-- one that was read is a record
pub read-record : (rs : List BookRecord) (book : List Record) (n : ℕ) (x : BookRecord) → map record_of rs ≡ book → IsBook book → n < length book → x ≡ slice_index_or rs n x → IsRecord (record_of x)
read-record rs book n x same is within read =
    let inside : n < length rs = subst (λ k. n < k) (ap length (sym same) ∙ length-map rs record_of) within in
    let there : slice_get book n ≡ Some (record_of x) = ap (λ b. slice_get b n) (sym same) ∙ slice_get-map record_of rs n ∙ ap (option_map record_of) (slice_get_read rs (length rs) n x refl inside read) in
    all-at IsRecord book n (record_of x) is.records there

-- ---- entries as a report shows them

same-shown : (d e : BookEntry) → same_entry d e ≡ false → is_entered (shown e ∷ []) (shown d).kind (shown d).path ≡ false
same-shown (Change s p) (Change t q) h = rw h refl
same-shown (Create p) (Create q) h = rw h refl
same-shown Always Always h = absurd cc
same-shown _ _ h = refl

entered-first : (e : Dep) (es : List Dep) (d : Dep) → is_entered (e ∷ []) d.kind d.path ≡ false → is_entered es d.kind d.path ≡ false → is_entered (e ∷ es) d.kind d.path ≡ false
entered-first e es d = by (same_kind d.kind e.kind && bytes_eq d.path e.path) (is_entered es d.kind d.path)
  where
    by : (a b : Bool) → (a || false) ≡ false → b ≡ false → (a || b) ≡ false
    by true b h g = h
    by false b h g = g

new-shown : (d : BookEntry) (es : List BookEntry) (n : ℕ) → AllByRecursion (λ e. same_entry d e ≡ false) es → is_entered (map shown (take n es)) (shown d).kind (shown d).path ≡ false
new-shown d es zero h = refl
new-shown d [] (suc n) h = refl
new-shown d (e ∷ es) (suc n) h = entered-first (shown e) (map shown (take n es)) (shown d) (same-shown d e h.0) (new-shown d es n h.1)

shown-once : (es : List BookEntry) (n : ℕ) → IsDistinct same_entry es → AreOnce (map shown (take n es))
unfolding IsDistinct
shown-once es zero h = tt
shown-once [] (suc n) h = tt
shown-once (e ∷ es) (suc n) h = (new-shown e es n h.0, shown-once es n h.1)

-- a book's entries, put in one by one, stand as they are
pub shown-some : (es : List BookEntry) (n : ℕ) → IsDistinct same_entry es → with_all [] (map shown (take n es)) ≡ map shown (take n es)
shown-some es n once = put-in (map shown (take n es)) (shown-once es n once)

pub shown-all : (es : List BookEntry) → IsDistinct same_entry es → with_all [] (map shown es) ≡ map shown es
shown-all es once =
    let whole : take (length es) es ≡ es = take_all (length es) es (omega arith) in
    subst (λ l. with_all [] (map shown l) ≡ map shown l) whole (shown-some es (length es) once)

all-more : (ds es : List Dep) (d : Dep) → with_all ds (es ++ d ∷ []) ≡ with_entry (with_all ds es) d.kind d.path
all-more ds [] d = refl
all-more ds (e ∷ es) d = all-more (with_entry ds e.kind e.path) es d

-- one more
pub shown-more : (es : List BookEntry) (ds : List Dep) (i : ℕ) (e : BookEntry) → i < length es → e ≡ slice_index_or es i e → ds ≡ with_all [] (map shown (take i es)) → with_entry ds (shown e).kind (shown e).path ≡ with_all [] (map shown (take (i + 1) es))
shown-more es ds i e within is same =
    ap (λ d. with_entry d (shown e).kind (shown e).path) same ∙ sym (all-more [] (map shown (take i es)) (shown e)) ∙
    ap (with_all []) (sym (map-append shown (take i es) (e ∷ []))) ∙
    ap (λ y. with_all [] (map shown (take i es ++ y ∷ []))) is ∙ ap (λ l. with_all [] (map shown l)) (sym (take_more es i e within))

-- ---- a target that may be in check

-- by whether its record is intact
by-record : (given : GivenView) (p : List ℕ) (o : Option Record) → is_among given.request p ≡ false → (rules_for given).has_rule p ≡ true → ((r : Record) → o ≡ Some r → r.target ≡ p) →
    option_and_then (λ r. if not (is_among given.request p) && ((rules_for given).has_rule r.target && is_intact (file_at given.past.tree) r) then Some (check_by (last_run_of given.past) r) else None) o
    ≡ option_map (check_by (last_run_of given.past)) (option_and_then (λ r. if is_intact (file_at given.past.tree) r then Some r else None) o)
by-record given p None free rule of = refl
by-record given p (Some r) free rule of =
    let ruled : (rules_for given).has_rule r.target ≡ true = ap (rules_for given).has_rule (of r refl) ∙ rule in
    rw (free, ruled) (elim (is_intact (file_at given.past.tree) r) as (λ b. (if b then Some (check_by (last_run_of given.past) r) else None) ≡ option_map (check_by (last_run_of given.past)) (if b then Some r else None)) [
      | true ↦ refl
      | false ↦ refl
    ])

intact-check : (given : GivenView) (p : List ℕ) → is_among given.request p ≡ false → (rules_for given).has_rule p ≡ true → checks_for given p ≡ option_map (check_by (last_run_of given.past)) (intact_record given.past p)
intact-check given p free rule = by-record given p (record_at given.past.book p) free rule (λ r is. found-target given.past.book p r is)

slice_get_inside : (rs : List Record) (n : ℕ) → n < length rs → slice_get rs n ≡ None → ⊥
slice_get_inside [] n l h = omega (arith, l)
slice_get_inside (r ∷ rs) zero l h = cc
slice_get_inside (r ∷ rs) (suc n) l h = slice_get_inside rs n (omega (arith, l)) h

-- what is found is its check
pub found-check : (given : GivenView) (p : List ℕ) (o : Option ℕ) → is_among given.request p ≡ false → (rules_for given).has_rule p ≡ true → option_and_then (λ n. slice_get given.past.book n) o ≡ intact_record given.past p →
    IfSome o (λ n. n < length given.past.book) → MatchOption o (checks_for given p ≡ None) (IsCheckedBy given p)
found-check given p None free rule found within =
    intact-check given p free rule ∙ ap (option_map (check_by (last_run_of given.past))) (sym found)
found-check given p (Some n) free rule found within = by (slice_get given.past.book n) refl
  where
    by : (o : Option Record) → slice_get given.past.book n ≡ o → IsCheckedBy given p n
    by None is = absurd (slice_get_inside given.past.book n within is)
    by (Some r) is = record {
      made = r;
      there = is;
      check = intact-check given p free rule ∙ ap (option_map (check_by (last_run_of given.past))) (sym found ∙ is);
    }

-- ---- the walk over entries

walked-more : (s : Sources) (es : List BookEntry) (from i : ℕ) (e : BookEntry) → StandAlone s es from i → slice_get es i ≡ Some e → standing s nothing_known e ≡ stands → StandAlone s es from (i + 1)
walked-more s es from i e alone there is k x g l h = elim (cases_lt k i) [
  | inl below ↦ alone k x g below h
  | inr above ↦
      let at : k ≡ i = omega (arith, l, above) in
      let same : x ≡ e = same-some _ _ _ h (ap (slice_get es) at ∙ there) in
      ap (standing s nothing_known) same ∙ is
]

-- one entry more
pub walk-more : (s : Sources) (es : List BookEntry) (from i : ℕ) (e : BookEntry) → StandAlone s es from i → i < length es → e ≡ slice_index_or es i e → standing s nothing_known e ≡ stands → StandAlone s es from (i + 1)
walk-more s es from i e alone within is = walked-more s es from i e alone (slice_get_read es (length es) i e refl within is)

-- the end
pub walk-end : (s : Sources) (es : List BookEntry) (from : ℕ) → from ≤ length es → StandAlone s es from (length es) → IsWalkedTo s es from (length es)
walk-end s es from on alone = record {
  on = on;
  within = omega arith;
  alone = alone;
  next = subst (λ o. MatchOption o (Unit {0}) (λ e. standing s nothing_known e ≡ lacks)) (sym (slice_get_past es (length es) (omega arith))) tt;
}

-- ---- a script's own record, put in entry by entry

once-all : (es ds : List Dep) → AreOnce es → AreOnce (with_all es ds)
once-all es [] once = once
once-all es (d ∷ ds) once = once-all (with_entry es d.kind d.path) ds (once-with es d once)

script_once : (missing : List (List ℕ)) (do_file : List ℕ) (ds : List Dep) → AreOnce (with_all (search_deps missing do_file) ds)
script_once missing do_file ds =
    once-all (search_deps missing do_file) ds
    (once-with (with_entries [] kinds.Create missing) (record { kind = kinds.Change; path = do_file }) (once-entries [] kinds.Create missing tt))

script-again : (setting : Setting) (missing : List (List ℕ)) (do_file : List ℕ) (r : Result Script ScriptFault) (ask : Ask) → with_all [] (by_script setting (search_deps missing do_file) r ask).deps ≡ (by_script setting (search_deps missing do_file) r ask).deps
script-again setting missing do_file (Err fault) ask = put-in (search_deps missing do_file) (script_once missing do_file [])
script-again setting missing do_file (Ok script) ask =
    put-in (by_script setting (search_deps missing do_file) (Ok script) ask).deps (script_once missing do_file (end_state (meaning setting ask script)).entries)

own-again : (w : World) (p : List ℕ) (f : Found) (b : Ask) → is_rule f ≡ true → with_all [] (progress_in w p f b).deps ≡ (progress_in w p f b).deps
own-again w p (Rule do_file missing a) b h =
    script-again (setting_by w.tree w.found w.limit p a) missing do_file (script_in (unwrap_or (file_at w.tree do_file) [])) b
own-again w p _ b h = absurd cc

module _ (given : GivenView) (p : List ℕ) where
  abbrev s : Sources
  s = sources_for given

  -- a target that is in no check
  pub check-none : (rules_for given).has_rule p ≡ true → checks_for given p ≡ None → IsBegunBehind given p [] nothing_known
  check-none rule none =
      let w = world_of given.past.sources given.limits in
      none-behind given p nothing_known none (λ b. own-again w p (found_of given.past.sources p) b rule)

  -- its check by a record of the book
  abbrev pub in-check : (n : ℕ) (r : Record) → IsCheckedBy given p n → slice_get given.past.book n ≡ Some r → IsRecord r → IsInCheck given p n
  in-check n r k there is =
      let both : Some k.made ≡ Some r = sym k.there ∙ there in
      let same : k.made ≡ r = ap (λ (o : Option Record). unwrap_or o r) both in
      record { made = r; there = there; check = k.check ∙ ap (λ x. Some (check_by (last_run_of given.past) x)) same; once = is.once }

  -- an entry falls before one asks
  pub check-falls : (n : ℕ) (k : IsInCheck given p n) → FallsBehind (sources_for given) k.made.entries 0 → IsBegunBehind given p [] nothing_known
  check-falls n k f =
      let es = k.made.entries in
      let l = slice_get_within es f.at f.entry f.there in
      let none : asked_by s (take f.at es) ++ asks s f.entry ≡ [] =
      ap (λ qs. qs ++ asks s f.entry) (asked-on s es 0 f.at (omega arith) f.alone) ∙ unasked s f.entry (λ bad. not-falling s (sym f.fallen ∙ bad)) in
      falls-behind given p n k nothing_known f.at f.entry []
      (stood-on s nothing_known es 0 f.at (stood-none s nothing_known es) (omega (arith, l)) f.alone) f.there f.fallen (ap asking (sym none))

  -- or the check is due
  pub check-due : (c : Check) (k : IsInCheck given p c.number) → IsWalkedTo (sources_for given) k.made.entries 0 c.stood → c.asked ≡ [] → (a : Ask) → IsDueCheck given p a c
  check-due c k w none a =
      let es = k.made.entries in
      let same : es ≡ entries_in given c = sym (ap entries_of_record k.there) in
      record {
        in_check = k;
        stood = subst (λ l. HaveStood s a l c.stood) same (stood-on s a es 0 c.stood (stood-none s a es) w.within w.alone);
        asked = none ∙ ap asking (sym (asked-on s es 0 c.stood w.on w.alone)) ∙ ap (λ l. asking (asked_by s (take c.stood l))) same;
        next = subst (λ l. MatchOption (slice_get l c.stood) (Unit {0}) (λ e. standing s nothing_known e ≡ lacks)) same w.next;
      }

  -- ---- a check goes on

  module _ (c : Check) (a : Ask) (q : List ℕ) (o : Outcome) (w : IsWaitingCheck given p a q c) (some : a q ≡ Some o) (state : State)
      (there : Some state ≡ option_and_then state_of_entry (slice_get (entries_in given c) c.stood)) where
    same-state : state ≡ w.state
    same-state = let both : Some state ≡ Some w.state = there ∙ ap (option_and_then state_of_entry) w.awaited in cc

    -- the entry that it waited for falls
    pub go-fallen : has_state state (told (Some o)) ≡ false → IsBegunBehind given p c.asked a
    go-fallen h =
        let k = w.in_check in
        let same : entries_in given c ≡ k.made.entries = ap entries_of_record k.there in
        let fallen : standing s a (Change w.state q) ≡ falls =
        answered-path s w.state q a o w.asks some ∙ ap (λ t. stands_if (has_state t (told (Some o)))) (sym same-state) ∙ ap stands_if h in
        falls-behind given p c.number k a c.stood (Change w.state q) c.asked
        (subst (λ l. HaveStood s a l c.stood) same w.stood) (subst (λ l. slice_get l c.stood ≡ Some (Change w.state q)) same w.awaited) fallen
        (w.asked ∙ ap (λ qs. asking (asked_by s (take c.stood (entries_in given c)) ++ qs)) (sym (asks-path s w.state q w.asks)) ∙
        ap (λ l. asking (asked_by s (take c.stood l) ++ asks s (Change w.state q))) same)

    go-stood : has_state state (told (Some o)) ≡ true → HaveStood (sources_for given) a (entries_in given c) (c.stood + 1)
    go-stood h =
        stood-more s a (entries_in given c) c.stood (Change w.state q) w.stood w.awaited
        (answered-path s w.state q a o w.asks some ∙ ap (λ t. stands_if (has_state t (told (Some o)))) (sym same-state) ∙ ap stands_if h)

    go-asked : c.asked ≡ asking (asked_by (sources_for given) (take (c.stood + 1) (entries_in given c)))
    go-asked =
        let es = entries_in given c in
        w.asked ∙ ap (λ qs. asking (asked_by s (take c.stood es) ++ qs)) (sym (asks-path s w.state q w.asks)) ∙
        ap asking (sym (asked-at s es c.stood (Change w.state q) w.awaited)) ∙ ap (λ n. asking (asked_by s (take n es))) (plus-one c.stood)

    -- or a later one does
    pub go-later : has_state state (told (Some o)) ≡ true → FallsBehind (sources_for given) (entries_in given c) (c.stood + 1) → IsBegunBehind given p c.asked a
    go-later h f =
        let k = w.in_check in
        let es = entries_in given c in
        let same : es ≡ k.made.entries = ap entries_of_record k.there in
        let l = slice_get_within es f.at f.entry f.there in
        let none : asks s f.entry ≡ [] = unasked s f.entry (λ bad. not-falling s (sym f.fallen ∙ bad)) in
        falls-behind given p c.number k a f.at f.entry c.asked
        (subst (λ l. HaveStood s a l f.at) same (stood-on s a es (c.stood + 1) f.at (go-stood h) (omega (arith, l)) f.alone))
        (subst (λ l. slice_get l f.at ≡ Some f.entry) same f.there)
        (always s f.entry falls f.fallen (not-falling s) a)
        (go-asked ∙ ap asking (sym (asked-on s es (c.stood + 1) f.at f.on f.alone)) ∙
        ap asking (sym (ap (λ qs. asked_by s (take f.at es) ++ qs) none ∙ append-nil (asked_by s (take f.at es)))) ∙
        ap (λ l. asking (asked_by s (take f.at l) ++ asks s f.entry)) same)

    -- or it is due again
    pub go-due : has_state state (told (Some o)) ≡ true → (n : ℕ) → IsWalkedTo (sources_for given) (entries_in given c) (c.stood + 1) n → IsDueCheck given p a (record c { stood = n })
    go-due h n t =
        let es = entries_in given c in
        record {
          in_check = w.in_check;
          stood = stood-on s a es (c.stood + 1) n (go-stood h) t.within t.alone;
          asked = go-asked ∙ ap asking (sym (asked-on s es (c.stood + 1) n t.on t.alone));
          next = t.next;
        }
