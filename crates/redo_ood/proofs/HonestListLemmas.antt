-- With an honest book the script of a target of whose record all holds asks only for what the record names.
use Rattle.std.proofs.Common.{◌≡◌, ◌∙◌, ℕ, suc, Bool, true, false, inl, inr, List, [], Some, None}
use Rattle.std.proofs.Common.{ap, flat_map, length, refl, subst, sym}
use Rattle.redo_names.specs.Paths.{IsAmong}
use Rattle.redo_record.specs.declared.outcome.Outcome.{Outcome}
use Rattle.redo_record.specs.declared.outcome.Outcome.TheVariants.{Built}
use Rattle.redo_record.specs.Progress.{Progress, operands}
use Rattle.redo_book.specs.Book.{Record, record_at}
use Rattle.redo_book.specs.Intact.{is_intact}
use Rattle.redo_build.specs.Outcomes.{IsSettled, needed_at, outcome_at}
use Rattle.redo_build.specs.Rules.{Ask, AreLawful, asked_under}
use Rattle.redo_build.proofs.DepthLemmas.{cases_Option, reached-target, settled}
use Rattle.redo_skip.specs.Checks.{AreChecks, Check, Checks, built, finding, stands}
use Rattle.redo_skip.specs.NewBook.{AreHonestRecords, IsGood, LastRun, check_by}
use Rattle.redo_skip.specs.Sources.{Sources, without_book}
use Rattle.redo_skip.specs.Truth.{AreHonest, IsHonest, shown_all}
use Rattle.redo_skip.proofs.AgreeLemmas.{check-asked, check-kept, finding-all}
use Rattle.redo_skip.proofs.NeededLemmas.{needed-plain}
use Rattle.redo_skip.proofs.NewBookLemmas.{are-checks, found-target, honest-checks}
use Rattle.redo_skip.proofs.SkipLemmas.{outcomes-agree, sound_at}
use Rattle.redo_why.specs.OutOfDate.{first_drop, first_unsure}
use Rattle.redo_why.specs.Verdicts.{Keeps, verdict}
use Rattle.redo_why.proofs.KeptLemmas.{kept-at, lost-at}
use Rattle.redo_why.proofs.ListedLemmas.{check-intact, word-kept}
use Rattle.redo_why.proofs.MarkLemmas.{FitsAt, keeps-stands}
use Rattle.redo_rules.specs.Build.{GivenView, checks_for, last_run_of, plain_rules_for, rules_for, sources_for}
use Rattle.redo_rules.proofs.Public.{rules_lawful, trees-good}
use Rattle.redo_why_trees.proofs.TreeWhyLemmas.{honest-records}
use Rattle.redo_report.specs.Reports.{IsReport}
use Rattle.redo_report.specs.declared.report.Report.{Report}
use Rattle.redo_list.specs.Lists.{ListedView}
use Rattle.redo_ood.specs.Foreseen.{IsFirstAsked, IsHonestGiven, IsListed, IsListedAs, IsNeededIn, IsUnforeseen, Behind, First, end_for, is_new}
use Rattle.redo_ood.specs.Listing.{IsList, RestsOn, changed, listed_at, verdicts_for, word_with}
use Rattle.redo_ood.proofs.ForeseenLemmas.{asks-changed}
use Rattle.redo_ood.proofs.ListLemmas.{listed-path}
use Rattle.redo_ood.proofs.ReportLemmas.{in-list, new-at, recorded-at, target}
use Rattle.redo_ood.proofs.WordLemmas.{entries-word, told-else}
use Rattle.redo_list.specs.declared.listed.State.{State}

module _ (given : GivenView) (honest : IsHonestGiven given) where
  abbrev s : Sources
  s = sources_for given

  abbrev last : LastRun
  last = last_run_of given.past

  abbrev k : Checks
  k = checks_for given

  abbrev limit : ℕ
  limit = given.limits.targets

  abbrev end : Ask
  end = end_for given

  abbrev final : Ask
  final = outcome_at (plain_rules_for given) limit

  abbrev IsNeededPlain : List ℕ → Type 0
  IsNeededPlain p = IsAmong (needed_at (without_book s) given.request limit) p

  lawful : AreLawful (without_book s)
  lawful = rules_lawful given.past.sources given.limits

  good : IsGood s
  good = trees-good given.past.sources given.limits

  are : AreChecks s k
  are = are-checks s last given.request

  records : AreHonestRecords s last final
  records = honest-records given honest.honest

  checks : AreHonest s k final
  checks = honest-checks s last given.request final records

  still : IsSettled (without_book s) given.request limit
  still = settled (without_book s) lawful given.request limit honest.few

  agree : (q : List ℕ) → IsNeededPlain q → end q ≡ final q
  agree q m = outcomes-agree s k lawful are given.request limit honest.few checks q m

  sound : (n : ℕ) (q : List ℕ) (o : Outcome) → IsNeededPlain q → outcome_at (rules_for given) n q ≡ Some o → final q ≡ Some o
  sound n q o m e = sound_at s k lawful are given.request limit honest.few checks n q o m e

  plain-target : (q : List ℕ) → IsNeededPlain q → s.is_source q ≡ false
  plain-target q m = reached-target (without_book s) lawful given.request limit limit q m

  fits : (n : ℕ) (q : List ℕ) → IsNeededPlain q → FitsAt s k (verdicts_for given) end q
  fits n q m = record {
    kept = λ c is keeps.
        agree q m ∙ sound (suc (length last.book)) q (Built c.file) m
        (kept-at s k lawful are good (length last.book) q c (plain-target q m) is keeps);
    lost = λ unruled.
        let fails = lost-at s k lawful are good 0 q (plain-target q m) unruled in
        (fails.0, agree q m ∙ sound 1 q fails.0 m fails.1, fails.2);
  }

  module _ (p : List ℕ) (r : Record) (at : record_at given.past.book p ≡ Some r) (needed : IsNeededIn given p)
      (rule : s.has_rule p ≡ true) (intact : is_intact last.file r ≡ true)
      (none : word_with s last given.request r ≡ None) where
    abbrev c : Check
    c = check_by last r

    needed-p : IsNeededPlain p
    needed-p = needed-plain s k lawful are given.request limit honest.few checks p needed

    own : IsHonest s p c final
    own = honest-checks s last [] final records p c (check-intact s last [] p r refl at rule intact)

    closed : (q : List ℕ) → IsAmong (asked_under (without_book s) p final) q → IsNeededPlain q
    closed q m = still.closed limit p q needed-p m

    ends : (q : List ℕ) (o : Outcome) → IsAmong (asked_under (without_book s) p final) q → end q ≡ Some o → final q ≡ Some o
    ends q o m e = sym (agree q (closed q m)) ∙ e

    holds : verdict s k (verdicts_for given) r.entries ≡ Some Keeps
    holds =
        let t = found-target given.past.book p r at in
        word-kept (first_unsure s k (verdicts_for given) r.entries) (first_drop s k (verdicts_for given) r.entries)
        (verdict s k (verdicts_for given) r.entries)
        (sym (entries-word s last given.request r (ap s.is_source t ∙ plain-target p needed-p) (ap s.has_rule t ∙ rule) intact)
        ∙ none)

    all : (finding s end r.entries).standing ≡ stands
    all = keeps-stands s k (verdicts_for given) end r.entries holds
        (λ q m. fits 0 q (closed q (check-asked s p c final end rule own ends q m)))

    came : s.progress p final ≡ built c.file (shown_all r.entries)
    came = check-kept s p c final end rule own ends all

    same : s.progress p final ≡ s.progress p end
    same = (lawful.each p).local final end (λ q m. sym (agree q (closed q m)))

    -- what its script asks for is named by its record
    pub script-named : (q : List ℕ) → IsAmong (asked_under (without_book s) p end) q → IsAmong (flat_map changed r.entries) q
    script-named q m =
        let P : Progress → Type 0 = λ x. IsAmong (operands s.is_source x.deps) q in
        asks-changed s r.entries end q (finding-all s r.entries end q all (subst P (sym same ∙ came) m))

  module _ (report : Report) (is : IsReport (rules_for given) given.request limit report) (listed : List ListedView)
      (list : IsList given listed) where
    by-record : (p q : List ℕ) (r : Record) → RestsOn given p → IsFirstAsked given p q → record_at given.past.book p ≡ Some r →
        IsListed listed p
    by-record p q r on first at =
        let t = found-target given.past.book p r at in
        let told : (test : State → Bool) → IsListedAs (listed_at given p) p test → IsListed listed p =
        λ test m. listed-path listed p test (in-list given listed list p test on m) in
        elim (cases_Option (word_with s last given.request r)) [
          | inr w ↦ told (λ x. true) (recorded-at given p r at w.0 w.1 (λ x. true) refl)
          | inl none ↦
              let other = ap s.is_source t ∙ target given report is p first.begun.needed in
              let both = told-else s last given.request r other (λ e. cc) (λ e. cc) in
              absurd (first.unnamed r at
              (script-named p r at first.begun.needed first.begun.ruled both.1 none q first.asked))
        ]

    -- only a listed target's script asks for what no list can know
    pub first-listed : (p q : List ℕ) → RestsOn given p → IsFirstAsked given p q → IsListed listed p
    first-listed p q on first = elim (cases_Option (record_at given.past.book p)) [
      | inl none ↦ listed-path listed p is_new (in-list given listed list p is_new on
          (new-at given p is_new refl (target given report is p first.begun.needed) first.begun.ruled none))
      | inr some ↦ by-record p q some.0 on first some.1
    ]

-- where nothing is listed nothing is unforeseen
pub none-unforeseen : (given : GivenView) → ((p q : List ℕ) → RestsOn given p → IsFirstAsked given p q → ⊥) →
    {p : List ℕ} → IsUnforeseen given p → ⊥
none-unforeseen given none {p} (First {target = t} on first) = none t p on first
none-unforeseen given none {p} (Behind un asks) = none-unforeseen given none un
