-- What a list says of the report of its run.
use Rattle.std.proofs.Common.{◌≡◌, ◌∙◌, ◌⊎◌, ℕ, Bool, true, false, inl, inr, List, [], Option, Some, None}
use Rattle.std.proofs.Common.{ap, refl, subst, sym}
use Rattle.std.proofs.lemmas.Bool.{cases_Bool}
use Rattle.std.specs.Prelude.{codes, if◌then◌else◌}
use Rattle.redo_names.specs.Paths.{IsAmong, is_among}
use Rattle.redo_names.proofs.PathLemmas.{among-told, told-absent, told-among}
use Rattle.redo_which.specs.Rule.{found_of}
use Rattle.redo_book.specs.Book.{Record, record_at}
use Rattle.redo_book.specs.Intact.{is_intact}
use Rattle.redo_build.specs.Rules.{Rules}
use Rattle.redo_build.proofs.DepthLemmas.{cases_Option, reached-target}
use Rattle.redo_skip.specs.NewBook.{LastRun}
use Rattle.redo_skip.specs.Sources.{Sources}
use Rattle.redo_skip.specs.Truth.{IsBegun}
use Rattle.redo_skip.proofs.NewBookLemmas.{found-target}
use Rattle.redo_why.specs.OutOfDate.{Word, Stale, Maybe, Ring, Lost, may_begin}
use Rattle.redo_why.specs.Reasons.{Altered, Unrecorded}
use Rattle.redo_why.specs.Runs.{IsKept, IsRecordInCheck}
use Rattle.redo_explain.specs.Words.{reason_words}
use Rattle.redo_list.specs.Lists.{ListedView}
use Rattle.redo_list.specs.declared.listed.State.{State}
use Rattle.redo_list.specs.declared.listed.State.TheVariants as states
use Rattle.redo_report.specs.Reports.{IsReport}
use Rattle.redo_report.specs.declared.report.Report.{Report}
use Rattle.redo_rules.specs.Build.{GivenView, checks_for, last_run_of, rules_for, sources_for}
use Rattle.redo_rules.proofs.Public.{lawful_for}
use Rattle.redo_why_trees.specs.TreeWhy.{IsToldCyclic, IsToldKept}
use Rattle.redo_why_trees.proofs.TreeWhyLemmas.{told-cyclic, told-kept}
use Rattle.redo_ood.specs.Foreseen.{IsListed, IsListedAs, IsNeededIn, IsUnforeseen, end_for, is_new, is_open, is_ring, is_unknown}
use Rattle.redo_ood.specs.Listing.{IsList, Itself, RestsOn, as_listed, first_waiting, listed_at, listed_by, listed_if, state_by}
use Rattle.redo_ood.specs.Listing.{verdicts_for, word_with}
use Rattle.redo_ood.proofs.ForeseenLemmas.{needed-known, rests-asked}
use Rattle.redo_ood.proofs.ListLemmas.{listed-from, listed-path, listed-to}
use Rattle.redo_ood.proofs.WordLemmas.{altered-word, told-else}

-- of a word

open-state : (w : Word) → may_begin w ≡ true → is_open (state_by w) ≡ true
open-state (Stale why) h = refl
open-state (Maybe on) h = refl
open-state Ring h = absurd (let bad : false ≡ true = h in cc)
open-state Lost h = absurd (let bad : false ≡ true = h in cc)

ring-state : (w : Word) → is_ring (state_by w) ≡ true → w ≡ Ring
ring-state (Stale why) h = absurd (let bad : false ≡ true = h in cc)
ring-state (Maybe on) h = absurd (let bad : false ≡ true = h in cc)
ring-state Ring h = refl
ring-state Lost h = absurd (let bad : false ≡ true = h in cc)

module _ (given : GivenView) where
  abbrev s : Sources
  s = sources_for given

  abbrev last : LastRun
  last = last_run_of given.past

  -- a target without a record
  pub new-at : (p : List ℕ) (is : State → Bool) → is states.New ≡ true → s.is_source p ≡ false → s.has_rule p ≡ true →
      record_at given.past.book p ≡ None → IsListedAs (listed_at given p) p is
  new-at p is here other rule none =
      let P : Option Record → Type 0 = λ o. IsListedAs (listed_by given p o) p is in
      subst P (sym none) (rw (other, rule) (inl (refl, here)))

  -- neither a source nor a target
  pub unknown-at : (p : List ℕ) (is : State → Bool) → is states.Unknown ≡ true → IsAmong given.request p →
      s.is_source p ≡ false → s.has_rule p ≡ false → record_at given.past.book p ≡ None → IsListedAs (listed_at given p) p is
  unknown-at p is here asked other rule none =
      let P : Option Record → Type 0 = λ o. IsListedAs (listed_by given p o) p is in
      let told : is_among given.request p ≡ true = told-among given.request p asked in
      subst P (sym none) (rw (other, rule, told) (inl (refl, here)))

  -- one of which the record tells a word
  pub recorded-at : (p : List ℕ) (r : Record) → record_at given.past.book p ≡ Some r → (w : Word) →
      word_with s last given.request r ≡ Some w → (is : State → Bool) → is (state_by w) ≡ true →
      IsListedAs (listed_at given p) p is
  recorded-at p r at w told is here =
      let P : Option Record → Type 0 = λ o. IsListedAs (listed_by given p o) p is in
      let waited = first_waiting s (checks_for given) (verdicts_for given) r.entries in
      let Q : Option Word → Type 0 = λ o. IsListedAs (listed_if given.past.sources r.target waited o) p is in
      subst P (sym at) (subst Q (sym told) (inl (found-target given.past.book p r at, here)))

  -- one that isn't listed is told nothing
  pub unsaid : (p : List ℕ) (r : Record) → record_at given.past.book p ≡ Some r →
      ((is : State → Bool) → IsListedAs (listed_at given p) p is → ⊥) → word_with s last given.request r ≡ None
  unsaid p r at told = elim (cases_Option (word_with s last given.request r)) [
    | inl none ↦ none
    | inr some ↦ absurd (told (λ x. true) (recorded-at p r at some.0 some.1 (λ x. true) refl))
  ]

  no-ring : (q p : List ℕ) (x y : List ℕ) (a b c : Bool) → IsListedAs (if a then [] else if b then as_listed q states.New x
      else if c then as_listed q states.Unknown y else []) p is_ring → ⊥
  no-ring q p x y true b c m = m
  no-ring q p x y false true c m = elim m [ inl h ↦ let bad : false ≡ true = h.1 in cc | inr none ↦ none ]
  no-ring q p x y false false true m = elim m [ inl h ↦ let bad : false ≡ true = h.1 in cc | inr none ↦ none ]
  no-ring q p x y false false false m = m

  by-word : (target waited p : List ℕ) (o : Option Word) →
      IsListedAs (listed_if given.past.sources target waited o) p is_ring → (target ≡ p) × (o ≡ Some Ring)
  by-word target waited p None m = absurd m
  by-word target waited p (Some w) m = elim m [
    | inl h ↦ (h.0, ap (λ (x : Word). Some x) (ring-state w h.1))
    | inr none ↦ absurd none
  ]

  -- what is listed as a ring has a record of which a ring is told
  ring-by : (q p : List ℕ) (o : Option Record) → record_at given.past.book q ≡ o → IsListedAs (listed_by given q o) p is_ring →
      (r : Record) × (record_at given.past.book r.target ≡ Some r) × (r.target ≡ p) ×
      (word_with s last given.request r ≡ Some Ring)
  ring-by q p None at m = absurd (no-ring q p (reason_words (found_of given.past.sources) Unrecorded)
      (codes "it is no file, and no rule makes it") (s.is_source q) (s.has_rule q) (is_among given.request q) m)
  ring-by q p (Some r) at m =
      let found = by-word r.target (first_waiting s (checks_for given) (verdicts_for given) r.entries) p
      (word_with s last given.request r) m in
      (r, ap (record_at given.past.book) (found-target given.past.book q r at) ∙ at, found.0, found.1)

  module _ (listed : List ListedView) (list : IsList given listed) where
    -- what is listed of a path that is rested on is in the list
    pub in-list : (p : List ℕ) (is : State → Bool) → RestsOn given p → IsListedAs (listed_at given p) p is →
        IsListedAs listed p is
    in-list p is on m = subst (λ its. IsListedAs its p is) (sym list.targets)
        (listed-to (listed_at given) list.asked p p is ((list.about.each p).1 (rests-asked given p on)) m)

    ring-of : (p : List ℕ) → IsListedAs listed p is_ring →
        (r : Record) × (record_at given.past.book r.target ≡ Some r) × (r.target ≡ p) ×
        (word_with s last given.request r ≡ Some Ring)
    ring-of p m =
        let found = listed-from (listed_at given) list.asked p is_ring (subst (λ its. IsListedAs its p is_ring) list.targets m) in
        ring-by found.0 p (record_at given.past.book found.0) refl found.2

    -- a requested path that isn't listed
    pub silent-at : (p : List ℕ) → IsAmong given.request p → (IsListed listed p → ⊥) → (s.is_source p ≡ true) ⊎ ((r : Record) ×
        (record_at given.past.book p ≡ Some r) × (s.has_rule p ≡ true) × (is_intact last.file r ≡ true) ×
        (word_with s last given.request r ≡ None))
    silent-at p asked unlisted =
        let told : (is : State → Bool) → IsListedAs (listed_at given p) p is → ⊥ =
        λ is m. unlisted (listed-path listed p is (in-list p is (Itself asked) m)) in
        elim (cases_Bool (s.is_source p)) [
          | inl source ↦ inl source
          | inr other ↦ elim (cases_Option (record_at given.past.book p)) [
            | inl none ↦ elim (cases_Bool (s.has_rule p)) [
              | inl rule ↦ absurd (told is_new (new-at p is_new refl other rule none))
              | inr lost ↦ absurd (told is_unknown (unknown-at p is_unknown refl asked other lost none))
            ]
            | inr some ↦ inr (with-record p some.0 some.1 other told)
          ]
        ]
      where
        with-record : (p : List ℕ) (r : Record) → record_at given.past.book p ≡ Some r → s.is_source p ≡ false →
            ((is : State → Bool) → IsListedAs (listed_at given p) p is → ⊥) → (r : Record) ×
            (record_at given.past.book p ≡ Some r) × (s.has_rule p ≡ true) × (is_intact last.file r ≡ true) ×
            (word_with s last given.request r ≡ None)
        with-record p r at other told =
            let t = found-target given.past.book p r at in
            let none = unsaid p r at told in
            let both = told-else s last given.request r (ap s.is_source t ∙ other) (λ e. cc) (λ e. cc) in
            (r, at, sym (ap s.has_rule t) ∙ both.0, both.1, none)

-- Of a run, given what words tell of it

module _ (given : GivenView) (report : Report)
    (is : IsReport (rules_for given) given.request given.limits.targets report) where
  abbrev limit : ℕ
  limit = given.limits.targets

  abbrev booked : Rules
  booked = rules_for given

  abbrev run_s : Sources
  run_s = sources_for given

  abbrev run_last : LastRun
  run_last = last_run_of given.past

  pub target : (p : List ℕ) → IsNeededIn given p → run_s.is_source p ≡ false
  target p needed = reached-target booked (lawful_for given) given.request limit limit p needed

  -- a record that is in check in the run
  record IsChecked (r : Record) : Type 0 where
    other : run_s.is_source r.target ≡ false
    needed : IsNeededIn given r.target
    check : IsRecordInCheck run_s run_last given.request r.target r

  checked : (p : List ℕ) (r : Record) → record_at given.past.book p ≡ Some r → IsNeededIn given p →
      run_s.has_rule p ≡ true → is_intact run_last.file r ≡ true → is_among given.request p ≡ false → IsChecked r
  checked p r at needed rule intact unasked =
      let t = found-target given.past.book p r at in
      record {
        other = ap run_s.is_source t ∙ target p needed;
        needed = subst (IsNeededIn given) (sym t) needed;
        check = record {
          at = ap (record_at given.past.book) t ∙ at;
          ruled = ap run_s.has_rule t ∙ rule;
          intact = intact;
          unasked = ap (is_among given.request) t ∙ unasked;
        };
      }

  module _ (listed : List ListedView) (list : IsList given listed) where
    -- what is begun, given that a begun target in check is told so
    module _ (word-begun : (r : Record) → IsRecordInCheck run_s run_last given.request r.target r → IsNeededIn given r.target →
        run_s.is_source r.target ≡ false → IsBegun booked given.request limit r.target →
        (w : Word) × (word_with run_s run_last given.request r ≡ Some w) × (may_begin w ≡ true)) where
      by-record : (p : List ℕ) (r : Record) → record_at given.past.book p ≡ Some r → is_among given.request p ≡ false →
          IsBegun booked given.request limit p → IsListedAs (listed_at given p) p is_open
      by-record p r at unasked begun =
          let t = found-target given.past.book p r at in
          elim (cases_Bool (is_intact run_last.file r)) [
            | inr altered ↦
                recorded-at given p r at (Stale Altered)
                (altered-word run_s run_last given.request r (ap run_s.is_source t ∙ target p begun.needed)
                (ap run_s.has_rule t ∙ begun.ruled) altered) is_open refl
            | inl intact ↦
                let c = checked p r at begun.needed begun.ruled intact unasked in
                let w = word-begun r c.check c.needed c.other
                (subst (λ q. IsBegun booked given.request limit q) (sym t) begun) in
                recorded-at given p r at w.0 w.1 is_open (open-state w.0 w.2)
          ]

      pub rests-begun : (p : List ℕ) → IsBegun booked given.request limit p → RestsOn given p →
          IsAmong given.request p ⊎ IsListedAs listed p is_open
      rests-begun p begun on = elim (cases_Bool (is_among given.request p)) [
        | inl t ↦ inl (among-told given.request p t)
        | inr unasked ↦ inr (in-list given listed list p is_open on (elim (cases_Option (record_at given.past.book p)) [
          | inl none ↦ new-at given p is_open refl (target p begun.needed) begun.ruled none
          | inr some ↦ by-record p some.0 some.1 unasked begun
        ]))
      ]

      pub all-begun : (p : List ℕ) → IsAmong report.begun.items p →
          IsAmong given.request p ⊎ (IsListedAs listed p is_open ⊎ IsUnforeseen given p)
      all-begun p m =
          let parts = (is.begun p).0 m in
          let begun : IsBegun booked given.request limit p =
          record { needed = parts.0; ruled = parts.1; begins = parts.2 } in
          elim (needed-known given is.within p parts.0) [
            | inr un ↦ inr (inr un)
            | inl on ↦ elim (rests-begun p begun on) [ inl asked ↦ inl asked | inr told ↦ inr (inl told) ]
          ]

    -- what is kept, given that what isn't listed is
    pub rests-kept : ((r : Record) → IsRecordInCheck run_s run_last given.request r.target r → IsNeededIn given r.target →
        run_s.is_source r.target ≡ false → word_with run_s run_last given.request r ≡ None →
        IsKept run_s run_last given.request limit r.target) →
        (p : List ℕ) → IsNeededIn given p → RestsOn given p → run_s.has_rule p ≡ true →
        (IsAmong given.request p → ⊥) → (IsListed listed p → ⊥) → IsToldKept given report p
    rests-kept word-kept p needed on rule free unlisted =
        let told : (is : State → Bool) → IsListedAs (listed_at given p) p is → ⊥ =
        λ is m. unlisted (listed-path listed p is (in-list given listed list p is on m)) in
        let unasked : is_among given.request p ≡ false = told-absent given.request p free in
        elim (cases_Option (record_at given.past.book p)) [
          | inl none ↦ absurd (told is_new (new-at given p is_new refl (target p needed) rule none))
          | inr some ↦
              let r = some.0 in
              let t = found-target given.past.book p r some.1 in
              let none = unsaid given p r some.1 told in
              let both = told-else run_s run_last given.request r (ap run_s.is_source t ∙ target p needed) (λ e. cc) (λ e. cc) in
              let c = checked p r some.1 needed rule both.1 unasked in
              told-kept given report is p (subst (λ q. IsKept run_s run_last given.request limit q) t
              (word-kept r c.check c.needed c.other none)) needed
        ]

    -- what is cyclic, given that what is told as a ring is
    pub ring-told : ((r : Record) → IsRecordInCheck run_s run_last given.request r.target r → IsNeededIn given r.target →
        run_s.is_source r.target ≡ false → word_with run_s run_last given.request r ≡ Some Ring →
        (end_for given r.target ≡ None) × (booked.begins r.target (end_for given) ≡ false)) →
        (p : List ℕ) → IsNeededIn given p → (IsAmong given.request p → ⊥) → IsListedAs listed p is_ring → IsToldCyclic report p
    ring-told word-ring p needed free m =
        let found = ring-of given listed list p m in
        let r = found.0 in
        let t = found.2 in
        let other : run_s.is_source r.target ≡ false = ap run_s.is_source t ∙ target p needed in
        let unasked : is_among given.request p ≡ false = told-absent given.request p free in
        let ring : word_with run_s run_last given.request r ≡ Some Ring = found.3 in
        let stands = told-else run_s run_last given.request r other (λ e. cc) (λ e. cc) in
        let there : IsNeededIn given r.target = subst (IsNeededIn given) (sym t) needed in
        let both = word-ring r (record {
          at = found.1;
          ruled = stands.0;
          intact = stands.1;
          unasked = ap (is_among given.request) t ∙ unasked;
        }) there other ring in
        told-cyclic given report is p (sym (ap (end_for given) t) ∙ both.0)
        (sym (ap (λ q. booked.begins q (end_for given)) t) ∙ both.1) needed
