-- The check of a true record against the build without the book.
use Rattle.std.proofs.Common.{◌≡◌, ℕ, true, false, inl, inr, List, [], ◌∷◌, ◌++◌, Option, Some, None, refl, sym}
use Rattle.std.proofs.Common.{ap, subst}
use Rattle.std.proofs.Common.{◌∙◌, append_assoc}
use Rattle.std.specs.List.{AllByRecursion}
use Rattle.std.proofs.lemmas.Bool.{cases_Bool}
use Rattle.std.proofs.lemmas.Slice.Eq.{bytes_eq-Decides}
use Rattle.redo_digest.specs.Digest.{State, state_of}
use Rattle.redo_record.specs.declared.deps.Dep.{Dep}
use Rattle.redo_record.specs.declared.deps.DepKind.TheVariants as kinds
use Rattle.redo_record.specs.declared.outcome.Outcome.{Outcome}
use Rattle.redo_record.specs.Paths.{IsAmong}
use Rattle.redo_book.specs.declared.book.BookEntry.{BookEntry}
use Rattle.redo_book.specs.declared.book.BookEntry.TheVariants.{Change, Create, Always}
use Rattle.redo_build.specs.Rules.{Ask, asked_under, operands}
use Rattle.redo_skip.specs.Sources.{File, Sources, without_book}
use Rattle.redo_skip.specs.Checks.{is_asked, told, source_file, known_file, same_state, has_state, stands}
use Rattle.redo_skip.specs.Checks.{standing, asks, shown, finding, Check, built}
use Rattle.redo_skip.specs.Truth.{shown_all, HasState, Agrees, AllAgree, IsHonest}
use Rattle.redo_skip.proofs.CheckLemmas.{stands_if-stands, stands-state, asks-among, among-asks, found-cases}
use Rattle.redo_skip.proofs.CheckLemmas.{found-first, found-later, found-stands, known-asked, known-fixed}
use Rattle.redo_skip.proofs.CheckLemmas.{standing-fixed}

pub same_state-true : (s t : State) → same_state s t ≡ true → s ≡ t
same_state-true None None e = refl
same_state-true None (Some y) e = absurd cc
same_state-true (Some x) None e = absurd cc
same_state-true (Some x) (Some y) e = ap (λ (d : List ℕ). Some d) ((bytes_eq-Decides x y).0 e)

has_state-true : (state : State) (known : Option File) → has_state state known ≡ true →
    (file : File) × (known ≡ Some file) × (state_of file ≡ state)
has_state-true state None e = absurd cc
has_state-true state (Some file) e = (file, refl, same_state-true (state_of file) state e)

all-agree-append : (s : Sources) (a : Ask) (t : Sources) (b : Ask) (ds es : List Dep) → AllAgree s a t b ds →
    AllAgree s a t b es →
    AllAgree s a t b (ds ++ es)
all-agree-append s a t b [] es h g = g
all-agree-append s a t b (d ∷ ds) es h g = (h.0, all-agree-append s a t b ds es h.1 g)

module _ (s : Sources) where
  -- what stands has a known file of the recorded state
  pub stands-file : (state : State) (x : List ℕ) (a : Ask) → standing s a (Change state x) ≡ stands →
      (file : File) × (known_file s a x ≡ Some file) × (state_of file ≡ state)
  stands-file state x a e = has_state-true state (known_file s a x) (stands-state s a state x e)

  -- a check whose entries all stand has looked at all
  pub finding-seen : (es : List BookEntry) (a : Ask) → (finding s a es).standing ≡ stands →
      (finding s a es).seen ≡ shown_all es
  finding-seen [] a e = refl
  finding-seen (x ∷ es) a e =
      let both = found-stands s x (standing s a x) (finding s a es) e in
      rw (both.0) (ap (λ ds. shown x ∷ ds) (finding-seen es a both.1))

  -- what is no source and isn't asked for has no file
  unasked : (state : State) (x : List ℕ) (a : Ask) → s.is_source x ≡ false → is_asked s x ≡ false →
      standing s a (Change state x) ≡ stands → ⊥
  unasked state x a target not_asked t =
      let known : has_state state (source_file s x) ≡ true =
      stands_if-stands (has_state state (source_file s x)) (sym (standing-fixed s a state x not_asked) ∙ t) in
      let bad = rw target at known in cc

  -- a check whose entries all stand has asked for all that they wait for
  pub finding-all : (es : List BookEntry) (a : Ask) (q : List ℕ) → (finding s a es).standing ≡ stands →
      IsAmong (operands (without_book s) (shown_all es)) q → IsAmong (finding s a es).asked q
  finding-all [] a q t m = absurd m
  finding-all (Change state x ∷ es) a q t m =
      let both = found-stands s (Change state x) (standing s a (Change state x)) (finding s a es) t in
      let later : IsAmong (operands (without_book s) (shown_all es)) q →
      IsAmong (finding s a (Change state x ∷ es)).asked q =
      λ n. found-later s (Change state x) (standing s a (Change state x)) (finding s a es) q both.0
      (finding-all es a q both.1 n) in
      elim (cases_Bool (s.is_source x)) [
        | inl source ↦ later (rw source at m)
        | inr target ↦ elim (rw target at m) as (λ _. IsAmong (finding s a (Change state x ∷ es)).asked q) [
          | inl here ↦ found-first s (Change state x) (standing s a (Change state x)) (finding s a es) q
              (elim (cases_Bool (is_asked s x)) [
                | inl asked ↦
                    let P : List ℕ → Type 0 =
                    λ y. IsAmong (asks s (Change state x)) y in subst P here (among-asks s state x asked)
                | inr not_asked ↦ absurd (unasked state x a target not_asked both.0)
              ])
          | inr rest ↦ later rest
        ]
      ]
  finding-all (Create x ∷ es) a q t m =
      let both = found-stands s (Create x) (standing s a (Create x)) (finding s a es) t in
      found-later s (Create x) (standing s a (Create x)) (finding s a es) q both.0 (finding-all es a q both.1 m)
  finding-all (Always ∷ es) a q t m = absurd cc

module _ (s : Sources) (p : List ℕ) (c : Check) (final a : Ask) (ruled : s.has_rule p ≡ true)
    (honest : IsHonest s p c final)
    (sound : (q : List ℕ) (o : Outcome) → IsAmong (asked_under (without_book s) p final) q → a q ≡ Some o →
    final q ≡ Some o) where
  abbrev then : Sources
  then = honest.truth.sources

  abbrev earlier : Ask
  earlier = honest.truth.ask

  -- what is asked for has in the end the file that is known here
  file-kept : (x : List ℕ) (file : File) → (is_asked s x ≡ true → IsAmong (asked_under (without_book s) p final) x) →
      known_file s a x ≡ Some file → known_file s final x ≡ Some file
  file-kept x file asked e = elim (cases_Bool (is_asked s x)) [
    | inl t ↦
        let here : told (a x) ≡ Some file = sym (known-asked s a x t) ∙ e in
        let there : told (final x) ≡ Some file =
        (elim (a x) as (λ o. a x ≡ o → told o ≡ Some file → told (final x) ≡ Some file) [
          | None ↦ λ _ bad. absurd cc
          | Some o ↦ λ is now. ap told (sound x o (asked t) is) ∙ now
        ]) refl here in
        known-asked s final x t ∙ there
    | inr f ↦ known-fixed s final x f ∙ sym (known-fixed s a x f) ∙ e
  ]

  agree-change : (state : State) (x : List ℕ) →
      (is_asked s x ≡ true → IsAmong (asked_under (without_book s) p final) x) →
      HasState then earlier (Change state x) → standing s a (Change state x) ≡ stands →
      Agrees then earlier s final kinds.Change x
  agree-change state x asked recorded t =
      let now = stands-file s state x a t in
      let there : known_file s final x ≡ Some now.0 = file-kept x now.0 asked now.1 in
      let same : recorded.0 ≡ now.0 = honest.apart x recorded.0 now.0 recorded.1 there (recorded.2 ∙ sym now.2) in
      (recorded.0, recorded.1, there ∙ sym (ap (λ (d : File). Some d) same))

  -- what one entry asks for is asked for in the end, and where it stands it agrees
  agree-entry : (ds : List Dep) (e : BookEntry) (es : List BookEntry) →
      shown_all c.entries ≡ ds ++ shown e ∷ shown_all es → AllAgree then earlier s final ds →
      HasState then earlier e → ((q : List ℕ) → IsAmong (asks s e) q → IsAmong (asked_under (without_book s) p final) q) ×
      (standing s a e ≡ stands → AllAgree then earlier s final (shown e ∷ []))
  agree-entry ds (Change state x) es is all has =
      let asked : is_asked s x ≡ true → IsAmong (asked_under (without_book s) p final) x =
      λ t. honest.alike.next honest.truth.witness.file ds (shown_all es) x
      honest.truth.witness.ruled ruled
      (honest.truth.witness.came ∙ ap (built honest.truth.witness.file) is) all t in (
        λ q m. let this = asks-among s state x q m in
            subst (λ y. IsAmong (asked_under (without_book s) p final) y) this.0 (asked this.1),
        λ t. (agree-change state x asked has t, tt),
      )
  agree-entry ds (Create x) es is all has = (λ q m. absurd m, λ t. (stands_if-stands (s.is_free x) t, tt))
  agree-entry ds Always es is all has = (λ q m. absurd m, λ t. absurd cc)

  -- entry by entry: what the check asks for is asked for in the end, and what stands agrees
  agreed : (ds : List Dep) (es : List BookEntry) → shown_all c.entries ≡ ds ++ shown_all es →
      AllAgree then earlier s final ds →
      AllByRecursion (HasState then earlier) es →
      ((q : List ℕ) → IsAmong (finding s a es).asked q → IsAmong (asked_under (without_book s) p final) q) ×
      ((finding s a es).standing ≡ stands → AllAgree then earlier s final (shown_all es))
  agreed ds [] e all states = (λ q m. absurd m, λ _. tt)
  agreed ds (x ∷ es) e all states =
      let this = agree-entry ds x es e all states.0 in
      let rest : (t : standing s a x ≡ stands) →
      ((q : List ℕ) → IsAmong (finding s a es).asked q → IsAmong (asked_under (without_book s) p final) q) ×
      ((finding s a es).standing ≡ stands → AllAgree then earlier s final (shown_all es)) =
      λ t. agreed (ds ++ shown x ∷ []) es (e ∙ sym (append_assoc ds (shown x ∷ []) (shown_all es)))
      (all-agree-append then earlier s final ds (shown x ∷ []) all (this.1 t)) states.1 in (
        λ q m. elim (found-cases s x (standing s a x) (finding s a es) q m) [
          | inl first ↦ this.0 q first
          | inr later ↦ (rest later.0).0 q later.1
        ],
        λ t. let both = found-stands s x (standing s a x) (finding s a es) t in
            ((this.1 both.0).0, (rest both.0).1 both.1),
      )

  -- what the check asks for is asked for in the end
  pub check-asked : (q : List ℕ) → IsAmong (finding s a c.entries).asked q →
      IsAmong (asked_under (without_book s) p final) q
  check-asked q m = (agreed [] c.entries refl tt honest.truth.witness.states).0 q m

  -- where all entries stand, it is built in the end as it was
  pub check-kept : (finding s a c.entries).standing ≡ stands → s.progress p final ≡ built c.file (shown_all c.entries)
  check-kept t =
      honest.alike.whole honest.truth.witness.file (shown_all c.entries)
      honest.truth.witness.ruled ruled honest.truth.witness.came
      ((agreed [] c.entries refl tt honest.truth.witness.states).1 t)
      ∙ ap (λ x. built x (shown_all c.entries)) (honest.result honest.truth.witness.state)
