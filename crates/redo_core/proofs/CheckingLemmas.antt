-- What the check of a target has come to, and what follows for the target.
use Rattle.redo_names.proofs.ListLemmas.{IsAmong-left, IsAmong-right}
use Rattle.redo_skip.proofs.NewBookLemmas.{found-target}
use Rattle.std.proofs.Common.{◌≡◌, ◌∙◌, ◌<◌, ℕ, true, false, not, ◌&&◌, inl, inr, List, [], ◌∷◌}
use Rattle.std.proofs.Common.{◌++◌, Option, Some, None, refl, sym, ap, subst, length, map, take, slice_get}
use Rattle.std.proofs.lemmas.Bool.{cases_Bool}
use Rattle.std.proofs.lemmas.List.{append-nil, map-append}
use Rattle.std.proofs.lemmas.Option.{slice_get_within}
use Rattle.redo_digest.specs.Digest.{State}
use Rattle.redo_record.specs.declared.deps.Dep.{Dep}
use Rattle.redo_record.specs.declared.deps.DepKind.TheVariants as kinds
use Rattle.redo_record.specs.Entries.{with_all, with_entry}
use Rattle.redo_record.specs.Paths.{IsAmong, is_among}
use Rattle.redo_book.specs.declared.book.BookEntry.{BookEntry}
use Rattle.redo_book.specs.declared.book.BookEntry.TheVariants.{Change}
use Rattle.redo_book.specs.Book.{Record, record_at}
use Rattle.redo_build.specs.Rules.{Ask, operands}
use Rattle.redo_build.specs.Schedule.{nothing_known, only}
use Rattle.redo_build.proofs.TurnLemmas.{only-among}
use Rattle.redo_skip.specs.Checks.{Finding, asking, asks, built, falls, finding}
use Rattle.redo_skip.specs.Checks.{is_asked, lacks, progress_checked, progress_found, record_by, record_checked}
use Rattle.redo_skip.specs.Checks.{shown, standing, stands}
use Rattle.redo_skip.specs.NewBook.{check_by, is_valid}
use Rattle.redo_skip.proofs.CheckLemmas.{begins_checked, is_fallen, not-or, standing-same}
use Rattle.std.specs.List.{IsDistinct}
use Rattle.std.specs.Prelude.{MatchOption, if◌then◌else◌, option_and_then}
use Rattle.redo_book.specs.Book.{same_entry}
use Rattle.redo_skip.specs.Sources.{Sources}
use Rattle.redo_tree.specs.Tree.{file_at}
use Rattle.redo_rules.specs.Build.{GivenView, checks_for, last_run_of, rules_for, sources_for}
use Rattle.redo_core.specs.declared.check.Check.{Check}
use Rattle.redo_skip.specs.inside.Stood.{HaveStood, asked_by}
use Rattle.redo_core.specs.inside.Checking.{IsBegunBehind, IsDueCheck, IsInCheck, IsWaitingCheck}
use Rattle.redo_core.specs.inside.Checking.{TellsAlike, asks_next, entries_in}
use Rattle.redo_core.specs.inside.Checking.{entries_of_record, path_of_entry, seen_entries}
use Rattle.redo_skip.proofs.StoodLemmas.{asked-in, asked-out, asked-target, asking-more}
use Rattle.redo_skip.proofs.StoodLemmas.{asks-target}
use Rattle.redo_skip.proofs.StoodLemmas.{asking-one, asks-path, behind, found-end, found-next, lacks-path, new-path}
use Rattle.redo_skip.proofs.StoodLemmas.{only-none, plus-one, stood-moves, take-at, take-end}

module _ (given : GivenView) (p : List ℕ) where
  abbrev s : Sources
  s = sources_for given

  pub number-within : (n : ℕ) → IsInCheck given p n → n < length given.past.book
  number-within n k = slice_get_within given.past.book n k.made k.there

  -- ---- by what the check finds

  module _ (n : ℕ) (k : IsInCheck given p n) (b : Ask) (f : Finding) (is : finding (sources_for given) b k.made.entries ≡ f) where
    progress-found : (rules_for given).progress p b ≡ progress_found (file_at given.past.tree k.made.target) f ((sources_for given).progress p b)
    progress-found =
        ap (λ c. progress_checked s p c b) k.check ∙ ap (λ g. progress_found (file_at given.past.tree k.made.target) g (s.progress p b)) is

    begins-found : (rules_for given).begins p b ≡ is_fallen f.standing
    begins-found = ap (λ c. begins_checked s c b) k.check ∙ ap (λ g. is_fallen g.standing) is

    recorded-found : (rules_for given).recorded p b ≡ record_by f.seen ((sources_for given).progress p b).deps f.standing
    recorded-found =
        ap (λ c. record_checked s p c b) k.check ∙ ap (λ g. record_by g.seen (s.progress p b).deps g.standing) is

  -- the record is that of the target, whose file stands as it says
  pub file-is : (n : ℕ) (k : IsInCheck given p n) → file_at given.past.tree k.made.target ≡ file_at given.past.tree p
  file-is n k = by (record_at given.past.book p) refl k.check
    where
      by : (o : Option Record) → record_at given.past.book p ≡ o → option_and_then (λ r. if not (is_among given.request p) && is_valid s (last_run_of given.past) r then Some (check_by (last_run_of given.past) r) else None) o ≡ Some (check_by (last_run_of given.past) k.made) → file_at given.past.tree k.made.target ≡ file_at given.past.tree p
      by None is h = absurd cc
      by (Some r) is h = elim (cases_Bool (not (is_among given.request p) && is_valid s (last_run_of given.past) r)) [
        | inl t ↦
            let same : Some (check_by (last_run_of given.past) r) ≡ Some (check_by (last_run_of given.past) k.made) = rw t at h in
            let one : check_by (last_run_of given.past) r ≡ check_by (last_run_of given.past) k.made = cc in
            sym (ap (λ c. c.file) one) ∙ ap (file_at given.past.tree) (found-target given.past.book p r is)
        | inr f ↦ let bad : None ≡ Some (check_by (last_run_of given.past) k.made) = rw f at h in absurd cc
      ]

  -- ---- a script that is begun behind its check

  pub falls-behind : (n : ℕ) (k : IsInCheck given p n) (a : Ask) (at : ℕ) (e : BookEntry) (asked : List Dep) → HaveStood (sources_for given) a k.made.entries at → slice_get k.made.entries at ≡ Some e → standing (sources_for given) a e ≡ falls → asked ≡ asking (asked_by (sources_for given) (take at k.made.entries) ++ asks (sources_for given) e) → IsBegunBehind given p asked a
  falls-behind n k a at e asked stood there fallen same = record {
    begins = λ b alike. begins-found n k b _ (found b alike);
    progress = λ b alike. progress-found n k b _ (found b alike) ∙ ap (λ d. record { outcome = (s.progress p b).outcome; deps = with_all d (s.progress p b).deps }) (sym same);
    recorded = λ b alike. recorded-found n k b _ (found b alike);
  }
    where
      es : List BookEntry
      es = k.made.entries

      tells : (b : Ask) → TellsAlike (rules_for given) asked a b → (q : List ℕ) → IsAmong (asked_by s (take at es) ++ asks s e) q → s.is_source q ≡ false → a q ≡ b q
      tells b alike q m target = alike q (subst (λ d. IsAmong (operands (rules_for given) d) q) (sym same) (asked-in s.is_source (asked_by s (take at es) ++ asks s e) q m target))

      found : (b : Ask) → TellsAlike (rules_for given) asked a b → finding s b es ≡ behind s (take at es) (record { standing = falls; asked = asks s e; seen = shown e ∷ [] })
      found b alike =
          found-next s b es at e falls
          (stood-moves s a b es at stood (λ q m. tells b alike q (IsAmong-left (asked_by s (take at es)) (asks s e) q m) (asked-target s (take at es) q m)))
          there
          (sym (standing-same s e a b (λ q m. tells b alike q (IsAmong-right (asked_by s (take at es)) (asks s e) q m) (asks-target s e q m))) ∙ fallen)

  -- where a target is in no check its script is begun at once
  pub none-behind : (a : Ask) → checks_for given p ≡ None → ((b : Ask) → with_all [] ((sources_for given).progress p b).deps ≡ ((sources_for given).progress p b).deps) → IsBegunBehind given p [] a
  none-behind a none once = record {
    begins = λ b alike. ap (λ c. begins_checked s c b) none;
    progress = λ b alike. ap (λ c. progress_checked s p c b) none ∙ ap (λ d. record { outcome = (s.progress p b).outcome; deps = d }) (sym (once b));
    recorded = λ b alike. ap (λ c. record_checked s p c b) none;
  }

  -- ---- a check that is due or waits

  module _ (c : Check) where
    entries-made : (k : IsInCheck given p c.number) → entries_in given c ≡ k.made.entries
    entries-made k = ap entries_of_record k.there

    -- what it knows by the answers to what it asked for, of an ask
    abbrev pub known : Ask → Ask
    known a = only (operands (rules_for given) c.asked) a

    knows : (a : Ask) (qs : List (List ℕ)) → c.asked ≡ asking qs → (q : List ℕ) → IsAmong qs q → (sources_for given).is_source q ≡ false → a q ≡ known a q
    knows a qs same q m target =
        sym (only-among (operands (rules_for given) c.asked) a q (subst (λ d. IsAmong (operands (rules_for given) d) q) (sym same) (asked-in s.is_source qs q m target)))

    knows-none : (a : Ask) (qs : List (List ℕ)) → c.asked ≡ asking qs → (q : List ℕ) → (IsAmong qs q → ⊥) → known a q ≡ None
    knows-none a qs same q other =
        only-none (operands (rules_for given) c.asked) a q
        (λ m. other (asked-out s.is_source qs q (subst (λ d. IsAmong (operands (rules_for given) d) q) same m)))

    module _ (k : IsInCheck given p c.number) (b : Ask) (state : State) (q : List ℕ) (stood : HaveStood (sources_for given) b (entries_in given c) c.stood)
        (there : slice_get (entries_in given c) c.stood ≡ Some (Change state q)) (asked : is_asked (sources_for given) q ≡ true) (none : b q ≡ None) where
      -- what is found where the next entry lacks its answer
      found-lacking : finding s b k.made.entries ≡ behind s (take c.stood (entries_in given c)) (record { standing = lacks; asked = asks s (Change state q); seen = shown (Change state q) ∷ [] })
      found-lacking =
          ap (finding s b) (sym (entries-made k)) ∙
          found-next s b (entries_in given c) c.stood (Change state q) lacks stood there (lacks-path s state q b asked none)

      lacking-progress : (rules_for given).progress p b ≡ record { outcome = None; deps = asking (asked_by (sources_for given) (take c.stood (entries_in given c)) ++ q ∷ []) }
      lacking-progress =
          progress-found c.number k b _ found-lacking ∙
          ap (λ qs. record { outcome = None; deps = asking (asked_by s (take c.stood (entries_in given c)) ++ qs) }) (asks-path s state q asked)

      lacking-begins : (rules_for given).begins p b ≡ false
      lacking-begins = begins-found c.number k b _ found-lacking

      lacking-recorded : (rules_for given).recorded p b ≡ seen_entries given c
      lacking-recorded =
          let es = entries_in given c in
          recorded-found c.number k b _ found-lacking ∙ sym (map-append shown (take c.stood es) (Change state q ∷ [])) ∙
          ap (map shown) (sym (take-at es c.stood (Change state q) there)) ∙ ap (λ n. map shown (take n es)) (plus-one c.stood)

    -- the next entry of a due check that asks
    due-next : (a : Ask) → IsDueCheck given p a c → (q : List ℕ) → asks_next given c ≡ Some q → (state : State) × (slice_get (entries_in given c) c.stood ≡ Some (Change state q)) × (is_asked (sources_for given) q ≡ true)
    due-next a due q next = by (slice_get (entries_in given c) c.stood) refl due.next next
      where
        by : (o : Option BookEntry) → slice_get (entries_in given c) c.stood ≡ o → MatchOption o (Unit {0}) (λ e. standing s nothing_known e ≡ lacks) → option_and_then path_of_entry o ≡ Some q → (state : State) × (slice_get (entries_in given c) c.stood ≡ Some (Change state q)) × (is_asked s q ≡ true)
        by None is h n = absurd cc
        by (Some e) is h n =
            let one = asking-one s e h in
            let same : one.1 ≡ q = let path : path_of_entry e ≡ Some one.1 = ap path_of_entry one.2 in let both : Some one.1 ≡ Some q = sym path ∙ n in cc in
            (one.0, is ∙ ap Some one.2 ∙ ap (λ x. Some (Change one.0 x)) same, subst (λ x. is_asked s x ≡ true) same one.3)

    due-end : (a : Ask) → IsDueCheck given p a c → asks_next given c ≡ None → slice_get (entries_in given c) c.stood ≡ None
    due-end a due next = by (slice_get (entries_in given c) c.stood) refl due.next next
      where
        by : (o : Option BookEntry) → slice_get (entries_in given c) c.stood ≡ o → MatchOption o (Unit {0}) (λ e. standing s nothing_known e ≡ lacks) → option_and_then path_of_entry o ≡ None → slice_get (entries_in given c) c.stood ≡ None
        by None is h n = is
        by (Some e) is h n =
            let one = asking-one s e h in
            let path : path_of_entry e ≡ Some one.1 = ap path_of_entry one.2 in let bad : Some one.1 ≡ None = sym path ∙ n in absurd cc

    due-stood : (a : Ask) → IsDueCheck given p a c → HaveStood (sources_for given) (known a) (entries_in given c) c.stood
    due-stood a due =
        let es = entries_in given c in
        stood-moves s a (known a) es c.stood due.stood (λ q m. knows a (asked_by s (take c.stood es)) due.asked q m (asked-target s (take c.stood es) q m))

    -- the path that a due check asks for next wasn't asked for
    due-new : (a : Ask) → IsDueCheck given p a c → (q : List ℕ) → asks_next given c ≡ Some q → IsAmong (asked_by (sources_for given) (take c.stood (entries_in given c))) q → ⊥
    due-new a due q next =
        let one = due-next a due q next in
        new-path s (entries_in given c) c.stood one.0 q (subst (IsDistinct same_entry) (sym (entries-made due.in_check)) due.in_check.once) one.1

    -- it asks for the next path, which is no source and wasn't asked for
    pub due-asks : (a : Ask) → IsDueCheck given p a c → (q : List ℕ) → asks_next given c ≡ Some q →
        ((rules_for given).progress p (only (operands (rules_for given) c.asked) a) ≡ record { outcome = None; deps = with_entry c.asked kinds.Change q }) ×
        ((rules_for given).begins p (only (operands (rules_for given) c.asked) a) ≡ false) ×
        ((rules_for given).is_source q ≡ false) × (IsAmong (operands (rules_for given) c.asked) q → ⊥)
    due-asks a due q next =
        let one = due-next a due q next in
        let qs = asked_by s (take c.stood (entries_in given c)) in
        let none : known a q ≡ None = knows-none a qs due.asked q (due-new a due q next) in (
          lacking-progress due.in_check (known a) one.0 q (due-stood a due) one.1 one.2 none ∙
              ap (λ d. record { outcome = None; deps = d }) (asking-more qs q ∙ ap (λ d. with_entry d kinds.Change q) (sym due.asked)),
          lacking-begins due.in_check (known a) one.0 q (due-stood a due) one.1 one.2 none,
          (not-or (s.is_source q) (s.is_script q) one.2).0,
          λ m. due-new a due q next (asked-out s.is_source qs q (subst (λ d. IsAmong (operands (rules_for given) d) q) due.asked m)),
        )

    -- the target is kept where all entries stand
    pub due-kept : (a : Ask) → IsDueCheck given p a c → asks_next given c ≡ None →
        ((rules_for given).progress p (only (operands (rules_for given) c.asked) a) ≡ built (file_at given.past.tree p) c.asked) ×
        ((rules_for given).begins p (only (operands (rules_for given) c.asked) a) ≡ false) ×
        ((rules_for given).recorded p (only (operands (rules_for given) c.asked) a) ≡ map shown (entries_in given c))
    due-kept a due next =
        let k = due.in_check in
        let es = entries_in given c in
        let end = due-end a due next in
        let qs = asked_by s (take c.stood es) in
        let found : finding s (known a) k.made.entries ≡ behind s (take c.stood es) (record { standing = stands; asked = []; seen = [] }) =
        ap (finding s (known a)) (sym (entries-made k)) ∙ found-end s (known a) es c.stood (due-stood a due) end in (
          progress-found c.number k (known a) _ found ∙ ap (λ d. built (file_at given.past.tree k.made.target) d) (ap asking (append-nil qs) ∙ sym due.asked) ∙
              ap (λ f. built f c.asked) (file-is c.number k),
          begins-found c.number k (known a) _ found,
          recorded-found c.number k (known a) _ found ∙ append-nil (map shown (take c.stood es)) ∙ ap (map shown) (take-end es c.stood end),
        )

    -- ---- a check that waits

    pub waiting-asked : (a : Ask) (q : List ℕ) → IsWaitingCheck given p a q c → IsAmong (operands (rules_for given) c.asked) q
    waiting-asked a q waits =
        let qs = asked_by s (take c.stood (entries_in given c)) in
        subst (λ d. IsAmong (operands (rules_for given) d) q) (sym waits.asked)
        (asked-in s.is_source (qs ++ q ∷ []) q (IsAmong-right qs (q ∷ []) q (inl refl)) (not-or (s.is_source q) (s.is_script q) waits.asks).0)

    waiting-stood : (a b : Ask) (q : List ℕ) → IsWaitingCheck given p a q c → ((x : List ℕ) → IsAmong (operands (rules_for given) c.asked) x → (x ≡ q → ⊥) → a x ≡ b x) → HaveStood (sources_for given) b (entries_in given c) c.stood
    waiting-stood a b q waits alike =
        let es = entries_in given c in
        let qs = asked_by s (take c.stood es) in
        stood-moves s a b es c.stood waits.stood (λ x m.
        alike x
        (subst (λ d. IsAmong (operands (rules_for given) d) x) (sym waits.asked)
        (asked-in s.is_source (qs ++ q ∷ []) x (IsAmong-left qs (q ∷ []) x m) (asked-target s (take c.stood es) x m)))
        (λ same. new-path s es c.stood waits.state q (subst (IsDistinct same_entry) (sym (entries-made waits.in_check)) waits.in_check.once) waits.awaited (subst (IsAmong qs) same m)))

    pub waiting-moves : (a b : Ask) (q : List ℕ) → IsWaitingCheck given p a q c → ((x : List ℕ) → IsAmong (operands (rules_for given) c.asked) x → (x ≡ q → ⊥) → a x ≡ b x) → IsWaitingCheck given p b q c
    waiting-moves a b q waits alike = record {
      in_check = waits.in_check;
      stood = waiting-stood a b q waits alike;
      state = waits.state;
      awaited = waits.awaited;
      asks = waits.asks;
      asked = waits.asked;
    }

    pub due-moves : (a b : Ask) → IsDueCheck given p a c → TellsAlike (rules_for given) c.asked a b → IsDueCheck given p b c
    due-moves a b due alike = record {
      in_check = due.in_check;
      stood =
          let es = entries_in given c in
          stood-moves s a b es c.stood due.stood (λ q m.
          alike q (subst (λ d. IsAmong (operands (rules_for given) d) q) (sym due.asked) (asked-in s.is_source (asked_by s (take c.stood es)) q m (asked-target s (take c.stood es) q m))));
      asked = due.asked;
      next = due.next;
    }

    -- while its path has no answer it asks for nothing more
    pub waiting-shows : (a : Ask) (q : List ℕ) → IsWaitingCheck given p a q c → (b : Ask) → ((x : List ℕ) → IsAmong (operands (rules_for given) c.asked) x → (x ≡ q → ⊥) → a x ≡ b x) → b q ≡ None →
        ((rules_for given).progress p b ≡ record { outcome = None; deps = c.asked }) ×
        ((rules_for given).begins p b ≡ false) ×
        ((rules_for given).recorded p b ≡ seen_entries given c)
    waiting-shows a q waits b alike none =
        let stood = waiting-stood a b q waits alike in (
          lacking-progress waits.in_check b waits.state q stood waits.awaited waits.asks none ∙ ap (λ d. record { outcome = None; deps = d }) (sym waits.asked),
          lacking-begins waits.in_check b waits.state q stood waits.awaited waits.asks none,
          lacking-recorded waits.in_check b waits.state q stood waits.awaited waits.asks none,
        )

  -- a due check that asks for the next path waits for it
  pub due-waits : (a : Ask) (q : List ℕ) (c : Check) → IsDueCheck given p a c → asks_next given c ≡ Some q → IsWaitingCheck given p a q (record c { asked = with_entry c.asked kinds.Change q })
  due-waits a q c due next =
      let one = due-next c a due q next in
      record {
        in_check = due.in_check;
        stood = due.stood;
        state = one.0;
        awaited = one.1;
        asks = one.2;
        asked = ap (λ d. with_entry d kinds.Change q) due.asked ∙ sym (asking-more (asked_by s (take c.stood (entries_in given c))) q);
      }

-- what is begun behind a check stays so
pub behind-moves : (given : GivenView) (p : List ℕ) (asked : List Dep) (a b : Ask) → IsBegunBehind given p asked a → TellsAlike (rules_for given) asked a b → IsBegunBehind given p asked b
behind-moves given p asked a b begun alike = record {
  begins = λ c more. begun.begins c (λ q m. alike q m ∙ more q m);
  progress = λ c more. begun.progress c (λ q m. alike q m ∙ more q m);
  recorded = λ c more. begun.recorded c (λ q m. alike q m ∙ more q m);
}
