-- What a run needs is what its request rests on, or what no list can know.
use Rattle.std.proofs.Common.{◌≡◌, ◌∙◌, ◌≤◌, ◌⊎◌, ℕ, true, false, not, inl, inr, List, [], ◌∷◌, Option, Some, None}
use Rattle.std.proofs.Common.{ap, arith, filter, flat_map, length, refl, subst, sym}
use Rattle.std.proofs.lemmas.Bool.{cases_Bool}
use Rattle.redo_names.specs.Paths.{IsAmong, is_among}
use Rattle.redo_names.proofs.ListLemmas.{IsAmong-left, IsAmong-right, filter-from, with_new-cases}
use Rattle.redo_names.proofs.PathLemmas.{among-told, told-among}
use Rattle.redo_record.specs.Progress.{operands}
use Rattle.redo_book.specs.declared.book.BookEntry.{BookEntry}
use Rattle.redo_book.specs.declared.book.BookEntry.TheVariants.{Change, Create, Always}
use Rattle.redo_build.specs.Outcomes.{IsSettled, needed_at, requested_targets}
use Rattle.redo_build.specs.Rules.{Ask, AreLawful, Rules, asked_under}
use Rattle.redo_build.proofs.DepthLemmas.{reached-more, reached-within, settled}
use Rattle.redo_skip.specs.Checks.{Check, Checks, asks, finding, progress_checked, standing}
use Rattle.redo_skip.specs.NewBook.{LastRun}
use Rattle.redo_skip.specs.Sources.{Sources, without_book}
use Rattle.redo_skip.proofs.AskedLemmas.{asked-cases}
use Rattle.redo_skip.proofs.CheckLemmas.{asks-among, begins_checked, found-cases, is_fallen}
use Rattle.redo_skip.proofs.NewBookLemmas.{are-checks, check-known}
use Rattle.redo_rules.specs.Build.{GivenView, checks_for, last_run_of, rules_for, sources_for}
use Rattle.redo_rules.proofs.Public.{lawful_for, rules_lawful}
use Rattle.redo_ood.specs.Foreseen.{Behind, First, IsNeededIn, IsUnforeseen, end_for}
use Rattle.redo_ood.specs.Listing.{IsAskedAbout, Itself, RestsOn, Through, changed}
use Rattle.redo_ood.specs.inside.Resting.{changes_in}
use Rattle.redo_ood.proofs.RestingLemmas.{through}

-- What a check asks for is named by a `change`

asks-one : (s : Sources) (e : BookEntry) (q : List ℕ) → IsAmong (asks s e) q → IsAmong (changed e) q
asks-one s (Change state x) q m = let is = asks-among s state x q m in inl is.0
asks-one s (Create x) q m = absurd m
asks-one s Always q m = absurd m

pub asks-changed : (s : Sources) (es : List BookEntry) (a : Ask) (q : List ℕ) → IsAmong (finding s a es).asked q →
    IsAmong (flat_map changed es) q
asks-changed s [] a q m = absurd m
asks-changed s (e ∷ es) a q m = elim (found-cases s e (standing s a e) (finding s a es) q m) [
  | inl first ↦ IsAmong-left (changed e) (flat_map changed es) q (asks-one s e q first)
  | inr later ↦ IsAmong-right (changed e) (flat_map changed es) q (asks-changed s es a q later.1)
]

-- Without a request nothing is rested on

none-rests : (given : GivenView) → given.request ≡ [] → {p : List ℕ} → RestsOn given p → ⊥
none-rests given none {p} (Itself m) = subst (λ ps. IsAmong ps p) none m
none-rests given none {p} (Through on rule at m) = none-rests given none on

asked-by : (given : GivenView) (request : List (List ℕ)) → given.request ≡ request → (p : List ℕ) → RestsOn given p →
    IsAskedAbout given request p
asked-by given [] same p on = absurd (none-rests given same on)
asked-by given (q ∷ qs) same p on = on

-- a run is asked about what its request rests on
pub rests-asked : (given : GivenView) (p : List ℕ) → RestsOn given p → IsAskedAbout given given.request p
rests-asked given p on = asked-by given given.request refl p on

module _ (given : GivenView)
    (few : length (needed_at (rules_for given) given.request given.limits.targets) ≤ given.limits.targets) where
  abbrev s : Sources
  s = sources_for given

  abbrev last : LastRun
  last = last_run_of given.past

  abbrev k : Checks
  k = checks_for given

  abbrev limit : ℕ
  limit = given.limits.targets

  abbrev booked : Rules
  booked = rules_for given

  lawful : AreLawful (without_book s)
  lawful = rules_lawful given.past.sources given.limits

  still : IsSettled booked given.request limit
  still = settled booked (lawful_for given) given.request limit few

  -- only a target with a rule has a script that asks for something
  asks-ruled : (p q : List ℕ) (a : Ask) → IsAmong (asked_under (without_book s) p a) q → s.has_rule p ≡ true
  asks-ruled p q a m = elim (cases_Bool (s.has_rule p)) [
    | inl t ↦ t
    | inr f ↦ absurd (subst (λ ps. IsAmong ps q) (lawful.unruled p a f).0 m)
  ]

  -- what the script of a begun target asks for
  by-script : (p q : List ℕ) → IsNeededIn given p → RestsOn given p → booked.begins p (end_for given) ≡ true →
      IsAmong (asked_under (without_book s) p (end_for given)) q → RestsOn given q ⊎ IsUnforeseen given q
  by-script p q needed on begins m =
      let rule = asks-ruled p q (end_for given) m in
      elim (cases_Bool (is_among (changes_in given.past p) q)) [
        | inl t ↦ inl (through given p on q (among-told (changes_in given.past p) q t))
        | inr f ↦ inr (First on (record {
          begun = record { needed = needed; ruled = rule; begins = begins };
          asked = m;
          unnamed = λ r at named.
              let there : IsAmong (changes_in given.past p) q = rw (rule, at) named in
              let bad : true ≡ false = sym (told-among (changes_in given.past p) q there) ∙ f in
              absurd cc;
        }))
      ]

  -- what a target asks for that the request rests on
  next : (p q : List ℕ) → IsNeededIn given p → RestsOn given p → IsAmong (asked_under booked p (end_for given)) q →
      RestsOn given q ⊎ IsUnforeseen given q
  next p q needed on m = by (k p) refl m
    where
      by : (o : Option Check) → k p ≡ o → IsAmong (operands s.is_source (progress_checked s p o (end_for given)).deps) q →
          RestsOn given q ⊎ IsUnforeseen given q
      by None is asks = by-script p q needed on (ap (λ o. begins_checked s o (end_for given)) is) asks
      by (Some c) is asks =
          elim (asked-cases s.is_source c.file (finding s (end_for given) c.entries) (s.progress p (end_for given)) q asks) [
            | inl first ↦ inl (
                Through on ((are-checks s last given.request).ruled p c is) (check-known s last given.request p c is)
                (asks-changed s c.entries (end_for given) q first))
            | inr own ↦ by-script p q needed on (ap (λ o. begins_checked s o (end_for given)) is ∙ ap is_fallen own.0) own.1
          ]

  requested : (p : List ℕ) → IsAmong (requested_targets booked given.request) p → IsAmong given.request p
  requested p m = elim (with_new-cases [] (filter (λ x. not (booked.is_source x)) given.request) p m) [
    | inl none ↦ absurd none
    | inr some ↦ filter-from (λ x. not (booked.is_source x)) given.request p some
  ]

  -- a needed target is rested on, or unforeseen
  pub needed-known : (p : List ℕ) → IsNeededIn given p → RestsOn given p ⊎ IsUnforeseen given p
  needed-known p m =
      (reached-within booked (lawful_for given) given.request limit limit
      (λ q. IsNeededIn given q × (RestsOn given q ⊎ IsUnforeseen given q))
      (λ q first. (
        reached-more booked (lawful_for given) given.request limit 0 limit q (omega arith) first,
        inl (Itself (requested q first)),
      ))
      (λ x q both asks. (
        still.closed limit x q both.0 asks,
        elim both.1 [ inl on ↦ next x q both.0 on asks | inr un ↦ inr (Behind un asks) ],
      )) p m).1
