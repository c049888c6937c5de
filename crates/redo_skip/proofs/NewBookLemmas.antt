-- The records of the new book are true; and what the checks of the last run's book are.
use Rattle.std.proofs.Common.{◌≡◌, ℕ, zero, suc, ◌≤◌, true, false, not, ◌&&◌, inl, inr, List, [], ◌∷◌}
use Rattle.std.proofs.Common.{length, cond}
use Rattle.std.proofs.Common.{Option, Some, None, refl, sym, ap, subst, ◌∙◌, arith}
use Rattle.std.specs.Prelude.{option_and_then}
use Rattle.std.specs.List.{AllByRecursion}
use Rattle.std.specs.Str.{bytes_eq}
use Rattle.std.proofs.lemmas.Bool.{cases_Bool, both_ways, and_parts}
use Rattle.std.proofs.lemmas.Slice.Eq.{bytes_eq-Decides}
use Rattle.redo_digest.specs.Digest.{State, state_of}
use Rattle.redo_names.proofs.PathLemmas.{among-told}
use Rattle.redo_record.specs.declared.deps.Dep.{Dep}
use Rattle.redo_record.specs.declared.deps.DepKind.{DepKind}
use Rattle.redo_record.specs.declared.deps.DepKind.TheVariants as kinds
use Rattle.redo_record.specs.declared.outcome.Outcome.{Outcome}
use Rattle.redo_record.specs.declared.outcome.Outcome.TheVariants.{Source, Built, Failed, Cyclic}
use Rattle.redo_record.specs.Paths.{IsAmong, is_among}
use Rattle.redo_record.specs.Progress.{Progress}
use Rattle.redo_book.specs.declared.book.BookEntry.{BookEntry}
use Rattle.redo_book.specs.declared.book.BookEntry.TheVariants.{Change, Create, Always}
use Rattle.redo_book.specs.Book.{Record, record_at}
use Rattle.redo_build.specs.Rules.{Ask, AreLawful, Rules}
use Rattle.redo_build.specs.Outcomes.{outcome_at, needed_at, record_of}
use Rattle.redo_build.proofs.DepthLemmas.{cases_Option, outcome_at-step, outcome_at-zero, reached-target, settled}
use Rattle.redo_skip.specs.Sources.{File, Sources, without_book}
use Rattle.redo_skip.specs.Checks.{told, stands, standing, shown, finding, Check}
use Rattle.redo_skip.specs.Checks.{Checks, built}
use Rattle.redo_skip.specs.Checks.{progress_checked, record_checked, with_book, AreChecks, AreSame}
use Rattle.redo_skip.specs.Truth.{shown_all, HasState, IsHonest, AreHonest}
use Rattle.redo_book.specs.Intact.{is_intact}
use Rattle.redo_book.specs.Noted.{entry_as, new_record, noted}
use Rattle.redo_skip.specs.NewBook.{LastRun, is_valid, check_by, checks_of, state_known}
use Rattle.redo_skip.specs.NewBook.{carried, built_with, record_with, new_book, AreTrue, CanBeNoted}
use Rattle.redo_skip.specs.NewBook.{IsGood, IsOfRun, IsHonestRecord, AreHonestRecords}
use Rattle.redo_skip.proofs.CheckLemmas.{found-stands}
use Rattle.redo_skip.proofs.AskedLemmas.{progress-ended}
use Rattle.redo_skip.proofs.LawfulLemmas.{with_book-lawful}
use Rattle.redo_skip.proofs.AgreeLemmas.{same_state-true, finding-seen, stands-file}

-- Builds without records

pub unchecked-same : (s : Sources) (k : Checks) → ((p : List ℕ) → k p ≡ None) → AreSame (with_book s k) (without_book s)
unchecked-same s k none = record {
  is_source = λ p. refl;
  has_rule = λ p. refl;
  progress = λ p a. rw (none p) refl;
  begins = λ p a. rw (none p) refl;
  recorded = λ p a. rw (none p) refl;
}

pub unrecorded-same : (s : Sources) (last : LastRun) (request : List (List ℕ)) → last.book ≡ [] →
    AreSame (with_book s (checks_of s last request)) (without_book s)
unrecorded-same s last request e = unchecked-same s (checks_of s last request) (λ p. rw e refl)

-- Entries as a book has them

module _ (s : Sources) (a : Ask) where
  shown-as : (k : DepKind) (q : List ℕ) → CanBeNoted s a k q →
      shown (entry_as (state_known s a) k q) ≡ record { kind = k; path = q }
  shown-as kinds.Change q can = refl
  shown-as kinds.Create q can = refl
  shown-as kinds.Always q can = ap (λ (y : List ℕ). record { kind = kinds.Always; path = y }) (sym can)

  -- noting entries changes nothing of what is shown
  noted-shown : (deps : List Dep) → AllByRecursion (λ d. CanBeNoted s a d.kind d.path) deps →
      shown_all (noted (state_known s a) deps) ≡ deps
  noted-shown [] h = refl
  noted-shown (d ∷ ds) h =
      ap (λ (x : Dep). x ∷ shown_all (noted (state_known s a) ds)) (shown-as d.kind d.path h.0)
      ∙ ap (λ (xs : List Dep). d ∷ xs) (noted-shown ds h.1)

  state-as : (k : DepKind) (q : List ℕ) → CanBeNoted s a k q → HasState s a (entry_as (state_known s a) k q)
  state-as kinds.Change q can = (can.0, can.1, cc)
  state-as kinds.Create q can = tt
  state-as kinds.Always q can = tt

  noted-states : (deps : List Dep) → AllByRecursion (λ d. CanBeNoted s a d.kind d.path) deps →
      AllByRecursion (HasState s a) (noted (state_known s a) deps)
  noted-states [] h = tt
  noted-states (d ∷ ds) h = (state-as d.kind d.path h.0, noted-states ds h.1)

  -- while all entries stand the new record is the old one
  noted-kept : (es : List BookEntry) → (finding s a es).standing ≡ stands → noted (state_known s a) (shown_all es) ≡ es
  noted-kept [] t = refl
  noted-kept (Change state x ∷ es) t =
      let both = found-stands s (Change state x) (standing s a (Change state x)) (finding s a es) t in
      let has = stands-file s state x a both.0 in
      let is : state_known s a x ≡ state = ap (λ known. option_and_then state_of known) has.1 ∙ has.2 in
      ap (λ (y : State). Change y x ∷ noted (state_known s a) (shown_all es)) is
      ∙ ap (λ (xs : List BookEntry). Change state x ∷ xs) (noted-kept es both.1)
  noted-kept (Create x ∷ es) t =
      let both = found-stands s (Create x) (standing s a (Create x)) (finding s a es) t in
      ap (λ (xs : List BookEntry). Create x ∷ xs) (noted-kept es both.1)
  noted-kept (Always ∷ es) t = absurd cc

-- The record of a path is that of a target with this path

pub found-target : (book : List Record) (p : List ℕ) (r : Record) → record_at book p ≡ Some r → r.target ≡ p
found-target [] p r e = absurd cc
found-target (x ∷ book) p r e = elim (cases_Bool (bytes_eq x.target p)) [
  | inl t ↦
      let here : Some x ≡ Some r = rw t at e in
      let same : x ≡ r = cc in
      ap (λ (y : Record). y.target) (sym same) ∙ (bytes_eq-Decides x.target p).0 t
  | inr f ↦ found-target book p r (rw f at e)
]

-- What is in check

module _ (s : Sources) (last : LastRun) (request : List (List ℕ)) where
  -- a check by the record of a path
  record IsCheckOf (p : List ℕ) (c : Check) (r : Record) : Type 0 where
    found : record_at last.book p ≡ Some r
    valid : is_valid s last r ≡ true
    is : check_by last r ≡ c

  by_record : (p : List ℕ) (c : Check) (o : Option Record) → record_at last.book p ≡ o →
      option_and_then (λ r. cond (not (is_among request p) && is_valid s last r) (Some (check_by last r)) None) o ≡
      Some c →
      (r : Record) × IsCheckOf p c r
  by_record p c None is e = absurd cc
  by_record p c (Some r) is e = elim (cases_Bool (not (is_among request p) && is_valid s last r)) [
    | inl t ↦
        let this : Some (check_by last r) ≡ Some c = rw t at e in
        (r, record { found = is; valid = (and_parts (not (is_among request p)) (is_valid s last r) t).1; is = cc })
    | inr f ↦ absurd (let bad : None ≡ Some c = rw f at e in cc)
  ]

  in_check : (p : List ℕ) (c : Check) → checks_of s last request p ≡ Some c → (r : Record) × IsCheckOf p c r
  in_check p c e = by_record p c (record_at last.book p) refl e

  -- its target has a rule
  check-ruled : (p : List ℕ) (c : Check) (r : Record) → IsCheckOf p c r → s.has_rule p ≡ true
  check-ruled p c r is =
      let parts = and_parts (s.has_rule r.target) (is_intact last.file r) is.valid in
      ap s.has_rule (sym (found-target last.book p r is.found)) ∙ parts.0

  -- its record is that of its target, with the state of the file that it keeps
  check-record : (p : List ℕ) (c : Check) (r : Record) → IsCheckOf p c r →
      r ≡ record { target = p; state = state_of c.file; entries = c.entries }
  check-record p c r is =
      let parts = and_parts (s.has_rule r.target) (is_intact last.file r) is.valid in
      let state : state_of (last.file r.target) ≡ r.state =
      same_state-true (state_of (last.file r.target)) r.state parts.1 in
      let P : Check → Type 0 = λ x. r ≡ record { target = p; state = state_of x.file; entries = x.entries } in
      subst P is.is (ap (λ (y : State). record { target = r.target; state = y; entries = r.entries }) (sym state)
      ∙ ap (λ (y : List ℕ). record { target = y; state = state_of (last.file r.target); entries = r.entries })
      (found-target last.book p r is.found))

  pub are-checks : AreChecks s (checks_of s last request)
  are-checks = record { ruled = λ p c e. let found = in_check p c e in check-ruled p c found.0 found.1 }

  -- it is the record of the last book
  pub check-known : (p : List ℕ) (c : Check) → checks_of s last request p ≡ Some c →
      record_at last.book p ≡ Some (record { target = p; state = state_of c.file; entries = c.entries })
  check-known p c e =
      let found = in_check p c e in
      found.1.found ∙ ap (λ (r : Record). Some r) (check-record p c found.0 found.1)

  module _ (a : Ask) where
    honest-check : (p : List ℕ) (c : Check) (r : Record) → IsCheckOf p c r → IsHonestRecord s last a r →
        IsHonest s p c a
    honest-check p c r is honest =
        let file : last.file p ≡ c.file =
        ap last.file (sym (found-target last.book p r is.found)) ∙ ap (λ (x : Check). x.file) is.is in
        let same : IsHonestRecord s last a (record { target = p; state = state_of c.file; entries = c.entries }) =
        subst (λ x. IsHonestRecord s last a x) (check-record p c r is) honest in
        let P : File → Type 0 = λ y. state_of same.truth.witness.file ≡ state_of y → same.truth.witness.file ≡ y in
        record { truth = same.truth; alike = same.alike; result = subst P file same.result; apart = same.apart }

    pub honest-checks : AreHonestRecords s last a → AreHonest s (checks_of s last request) a
    honest-checks all p c e =
        let found = in_check p c e in honest-check p c found.0 found.1 (all p found.0 found.1.found)

-- The new book

pub built_eta : (x : Progress) (file : File) → x.outcome ≡ Some (Built file) → x ≡ built file x.deps
built_eta x file e = ap (λ (o : Option Outcome). record { outcome = o; deps = x.deps }) e

built_with-built : (o : Option Outcome) (file : File) → option_and_then built_with o ≡ Some file → o ≡ Some (Built file)
built_with-built None file e = absurd cc
built_with-built (Some Source) file e = absurd cc
built_with-built (Some (Built other)) file e = let same : other ≡ file = cc in ap (λ (x : File). Some (Built x)) same
built_with-built (Some (Failed why)) file e = absurd cc
built_with-built (Some Cyclic) file e = absurd cc

module _ (s : Sources) (last : LastRun) (request : List (List ℕ)) (limit : ℕ) (lawful : AreLawful (without_book s))
    (good : IsGood s) (few : length (needed_at (with_book s (checks_of s last request)) request limit) ≤ limit) where
  abbrev k : Checks
  k = checks_of s last request

  abbrev rules : Rules
  rules = with_book s k

  abbrev end : Ask
  end = outcome_at rules limit

  rules-lawful : AreLawful rules
  rules-lawful = with_book-lawful s k lawful (are-checks s last request)

  target : (p : List ℕ) → IsAmong (needed_at rules request limit) p →
      s.is_source p ≡ false
  target p m = reached-target rules rules-lawful request limit limit p m

  -- no build comes to a .do file that isn't there
  sane-step : (q : List ℕ) (a : Ask) (o : Option Check) → s.is_source q ≡ false →
      ((c : Check) → o ≡ Some c → s.has_rule q ≡ true) →
      s.is_script q ≡ true → told (progress_checked s q o a).outcome ≡ None
  sane-step q a None made ruled t = elim (cases_Option (told (s.progress q a).outcome)) [
    | inl none ↦ none
    | inr some ↦ absurd (both_ways _ (good.scripts q t) (good.ruled q a some.0 made some.1))
  ]
  sane-step q a (Some c) made ruled t = absurd (both_ways _ (good.scripts q t) (ruled c refl))

  pub sane : (n : ℕ) (q : List ℕ) → s.is_script q ≡ true → s.is_source q ≡ false →
      told (outcome_at rules n q) ≡ None
  sane zero q t made = ap told (outcome_at-zero rules rules-lawful q made)
  sane (suc n) q t made =
      ap told (outcome_at-step rules rules-lawful n q made)
      ∙ sane-step q (outcome_at rules n) (k q) made
      (λ c e. (are-checks s last request).ruled q c e) t

  abbrev IsHere : List ℕ → Record → Type 0
  IsHere p r = IsOfRun s last request limit p r

  -- by its script: this run itself is the witness
  begun-here : (p : List ℕ) (file : File) → s.is_source p ≡ false → (s.progress p end).outcome ≡ Some (Built file) →
      IsHere p (new_record (state_known s end) p file (s.progress p end).deps)
  begun-here p file made e =
      let is : s.progress p end ≡ built file (s.progress p end).deps = built_eta (s.progress p end) file e in
      let can : AllByRecursion (λ d. CanBeNoted s end d.kind d.path) (s.progress p end).deps =
      good.notable p end file (s.progress p end).deps (λ q t none. sane limit q t none) is in
      inl (record {
        ruled = good.ruled p end file made (ap told e);
        file = file;
        came = is ∙ ap (λ ds. built file ds) (sym (noted-shown s end (s.progress p end).deps can));
        state = refl;
        states = noted-states s end (s.progress p end).deps can;
      })

  built-here : (p : List ℕ) (file : File) (o : Option Check) → s.is_source p ≡ false →
      ((c : Check) → o ≡ Some c →
      record_at last.book p ≡ Some (record { target = p; state = state_of c.file; entries = c.entries })) →
      (progress_checked s p o end).outcome ≡ Some (Built file) →
      IsHere p (new_record (state_known s end) p file (record_checked s p o end))
  built-here p file None made h e = begun-here p file made e
  built-here p file (Some c) made h e =
      elim (progress-ended c.file (finding s end c.entries) (s.progress p end) (Built file) e) [
        | inl stood ↦
            let same : c.file ≡ file = let is = stood.1 in cc in
            let seen : noted (state_known s end) (finding s end c.entries).seen ≡ c.entries =
            ap (λ ds. noted (state_known s end) ds) (finding-seen s c.entries end stood.0)
            ∙ noted-kept s end c.entries stood.0 in
            let P : File → Type 0 = λ y. IsHere p (new_record (state_known s end) p y (finding s end c.entries).seen) in
            let Q : List BookEntry → Type 0 =
            λ y. IsHere p (record { target = p; state = state_of c.file; entries = y }) in
            rw stood.0 (subst P same (subst Q (sym seen) (inr (h c refl))))
        | inr begun ↦ rw begun.0 (begun-here p file made begun.1)
      ]

  carried-by : (p : List ℕ) (o : Option Record) (r : Record) → record_at last.book p ≡ o →
      option_and_then (λ x. cond (is_valid s last x) (Some x) None) o ≡ Some r → record_at last.book p ≡ Some r
  carried-by p None r is e = absurd cc
  carried-by p (Some old) r is e = elim (cases_Bool (is_valid s last old)) [
    | inl t ↦ is ∙ (let this : Some old ≡ Some r = rw t at e in this)
    | inr f ↦ absurd (let bad : None ≡ Some r = rw f at e in cc)
  ]

  carried-here : (p : List ℕ) (r : Record) → carried s last p ≡ Some r → IsHere p r
  carried-here p r e = inr (carried-by p (record_at last.book p) r refl e)

  needed-end : (p : List ℕ) → IsAmong (needed_at rules request limit) p →
      (progress_checked s p (k p) end).outcome ≡ end p
  needed-end p m = sym (outcome_at-step rules rules-lawful limit p (target p m))
      ∙ (settled rules rules-lawful request limit few).same (suc limit) p (omega arith) m

  new-here : (p : List ℕ) (o : Option File) (r : Record) → ((file : File) → o ≡ Some file → (s.is_source p ≡ false) ×
      ((progress_checked s p (k p) end).outcome ≡ Some (Built file))) →
      record_with s last k limit p o ≡ Some r → IsHere p r
  new-here p None r h e = carried-here p r e
  new-here p (Some file) r h e =
      let this : new_record (state_known s end) p file (record_of rules limit p) ≡ r = cc in
      let both = h file refl in
      subst (λ x. IsHere p x) this
      (built-here p file (k p) both.0 (λ c is. check-known s last request p c is) both.1)

  -- each record of the new book is of this run, or of the last book
  pub all-here : (p : List ℕ) (r : Record) → new_book s last request limit p ≡ Some r → IsHere p r
  all-here p r e = elim (cases_Bool (is_among (needed_at rules request limit) p)) [
    | inl t ↦
        let m = among-told (needed_at rules request limit) p t in
        new-here p (option_and_then built_with (end p)) r
        (λ file is. (target p m, needed-end p m ∙ built_with-built (end p) file is)) (rw t at e)
    | inr f ↦ carried-here p r (rw f at e)
  ]

  -- so the new book is true where the last one was
  pub leaves : AreTrue (record_at last.book) → AreTrue (new_book s last request limit)
  leaves true_book p r e = elim (all-here p r e) [
    | inl here ↦ record { sources = s; ask = end; witness = here }
    | inr old ↦ true_book p r old
  ]
