-- What a ring waits for.
use Rattle.std.proofs.Common.{◌≡◌, ◌∙◌, ◌||◌, ℕ, Bool, true, false, inl, inr, List, [], ◌∷◌, Option, Some, None}
use Rattle.std.proofs.Common.{refl, sym, ap, subst}
use Rattle.std.proofs.lemmas.Bool.{cases_Bool, false_from_ne_true, not-true, or_parts, true_from_ne_false}
use Rattle.std.specs.Prelude.{flat_map}
use Rattle.redo_names.specs.Paths.{IsAmong, is_among}
use Rattle.redo_names.proofs.ListLemmas.{IsAmong-left, IsAmong-right}
use Rattle.redo_digest.specs.Digest.{State, state_of}
use Rattle.redo_book.specs.declared.book.BookEntry.{BookEntry}
use Rattle.redo_book.specs.declared.book.BookEntry.TheVariants.{Change, Create, Always}
use Rattle.redo_book.specs.Book.{Record, record_at}
use Rattle.redo_book.specs.Intact.{is_intact}
use Rattle.redo_skip.specs.Checks.{Check, Checks, has_state, is_asked, same_state, source_file}
use Rattle.redo_skip.specs.NewBook.{LastRun, checks_of}
use Rattle.redo_skip.proofs.NewBookLemmas.{are-checks, check-known, found-target}
use Rattle.redo_skip.specs.Sources.{Sources}
use Rattle.redo_why.proofs.ListedLemmas.{check-altered}
use Rattle.redo_why.specs.OutOfDate.{Ring, entry_path, first_drop, first_unsure, word_by}
use Rattle.redo_why.specs.Runs.{IsRecordInCheck, verdict_with}
use Rattle.redo_why.specs.Verdicts.{Verdict, Keeps, Begins, Either, Verdicts, Mark, Holds, Drops, Unsure, Waits}
use Rattle.redo_why.specs.Verdicts.{holds_if, mark, mark_asked, mark_checked, verdict}
use Rattle.redo_ood.specs.Listing.{IsRingOf, changed, first_waiting, word_with}
use Rattle.redo_ood.proofs.ItemLemmas.{requested-unchecked}
use Rattle.redo_ood.proofs.WordLemmas.{checked-word, ring-verdict}

-- an entry that waits is a `change` of a target in check without a verdict
record IsWaiting (s : Sources) (k : Checks) (v : Verdicts) (changes : List (List ℕ)) (q : List ℕ) : Type 0 where
  named : IsAmong changes q
  other : s.is_source q ≡ false
  check : Check
  checked : k q ≡ Some check
  unknown : v q ≡ None

module _ (s : Sources) (k : Checks) (v : Verdicts) where
  never-by : (b : Bool) → holds_if b ≡ Waits → ⊥
  never-by true h = let bad : Holds ≡ Waits = h in cc
  never-by false h = let bad : Drops ≡ Waits = h in cc

  waits-checked : (same : Bool) (o : Option Verdict) → mark_checked same o ≡ Waits → o ≡ None
  waits-checked same None h = refl
  waits-checked true (Some Keeps) h = absurd (let bad : Holds ≡ Waits = h in cc)
  waits-checked false (Some Keeps) h = absurd (let bad : Drops ≡ Waits = h in cc)
  waits-checked same (Some Begins) h = absurd (let bad : Unsure ≡ Waits = h in cc)
  waits-checked same (Some Either) h = absurd (let bad : Unsure ≡ Waits = h in cc)

  waits-asked : (ruled : Bool) (state : State) (o : Option Check) (x : Option Verdict) → mark_asked ruled state o x ≡ Waits →
      (c : Check) × (o ≡ Some c) × (x ≡ None)
  waits-asked true state None x h = absurd (let bad : Unsure ≡ Waits = h in cc)
  waits-asked false state None x h = absurd (let bad : Drops ≡ Waits = h in cc)
  waits-asked ruled state (Some c) x h = (c, refl, waits-checked (same_state (state_of c.file) state) x h)

  waiting : (e : BookEntry) → mark s k v e ≡ Waits → IsWaiting s k v (changed e) (entry_path e)
  waiting (Change state q) h = elim (cases_Bool (is_asked s q)) [
    | inl t ↦
        let found = waits-asked (s.has_rule q) state (k q) (v q) (rw t at h) in
        record {
          named = inl refl;
          other = (or_parts (s.is_source q) (s.is_script q) (not-true (s.is_source q || s.is_script q) t)).0;
          check = found.0;
          checked = found.1;
          unknown = found.2;
        }
    | inr f ↦ absurd (never-by (has_state state (source_file s q)) (rw f at h))
  ]
  waiting (Create q) h = absurd (never-by (s.is_free q) h)
  waiting Always h = absurd (let bad : Drops ≡ Waits = h in cc)

  wider : (xs ys : List (List ℕ)) (q : List ℕ) → (IsAmong xs q → IsAmong ys q) → IsWaiting s k v xs q → IsWaiting s k v ys q
  wider xs ys q more is = record {
    named = more is.named;
    other = is.other;
    check = is.check;
    checked = is.checked;
    unknown = is.unknown;
  }

  -- a record without a verdict has an entry that waits, and the first is told
  ring-waits : (es : List BookEntry) → verdict s k v es ≡ None → IsWaiting s k v (flat_map changed es) (first_waiting s k v es)
  ring-waits [] h = absurd (let bad : Some Keeps ≡ None = h in cc)
  ring-waits (e ∷ es) h = by (mark s k v e) refl (ring-waits es)
    where
      by : (m : Mark) → mark s k v e ≡ m →
          (verdict s k v es ≡ None → IsWaiting s k v (flat_map changed es) (first_waiting s k v es)) → IsWaiting s k v (flat_map changed (e ∷ es)) (first_waiting s k v (e ∷ es))
      by Holds is further =
          rw is (wider (flat_map changed es) (flat_map changed (e ∷ es)) (first_waiting s k v es)
          (IsAmong-right (changed e) (flat_map changed es) (first_waiting s k v es)) (further (rw is at h)))
      by Drops is further = absurd (let bad : Some Begins ≡ None = rw is at h in cc)
      by Unsure is further = absurd (let bad : Some Either ≡ None = rw is at h in cc)
      by Waits is further =
          rw is (wider (changed e) (flat_map changed (e ∷ es)) (entry_path e)
          (IsAmong-left (changed e) (flat_map changed es) (entry_path e)) (waiting e is))

module _ (s : Sources) (last : LastRun) (request : List (List ℕ)) where
  -- a target that is in check
  in-check : (q : List ℕ) (c : Check) → checks_of s last request q ≡ Some c → (m : Record) × IsRecordInCheck s last request q m
  in-check q c check =
      let m : Record = record { target = q; state = state_of c.file; entries = c.entries } in
      let at : record_at last.book q ≡ Some m = check-known s last request q c check in (
        m,
        record {
          at = at;
          ruled = (are-checks s last request).ruled q c check;
          intact = true_from_ne_false (is_intact last.file m) (λ f. let none = check-altered s last request q m at f in cc);
          unasked = false_from_ne_true (is_among request q) (λ t. let none = requested-unchecked s last request q t in cc);
        },
      )

  -- it is a ring where it has no verdict
  unknown-ring : (q : List ℕ) (m : Record) → m.target ≡ q → s.is_source q ≡ false → IsRecordInCheck s last request q m →
      verdict_with s last request q ≡ None → word_with s last request m ≡ Some Ring
  unknown-ring q m same other is unknown =
      let there : IsRecordInCheck s last request m.target m = subst (λ p. IsRecordInCheck s last request p m) (sym same) is in
      checked-word s last request m (ap s.is_source same ∙ other) there
      ∙ ap (word_by (first_unsure s (checks_of s last request) (verdict_with s last request) m.entries)
      (first_drop s (checks_of s last request) (verdict_with s last request) m.entries))
      (ap (verdict_with s last request) same ∙ unknown)

  pub ring-of-ring : (r : Record) → word_with s last request r ≡ Some Ring → IsRingOf s last request r
  ring-of-ring r ring =
      let k = checks_of s last request in
      let v = verdict_with s last request in
      let waits = ring-waits s k v r.entries (ring-verdict s last request r ring) in
      let q = first_waiting s k v r.entries in
      let m = in-check q waits.check waits.checked in
      let same : m.0.target ≡ q = found-target last.book q m.0 m.1.at in
      record {
        on = m.0;
        there = m.1.at;
        named = waits.named;
        ring = unknown-ring q m.0 same waits.other m.1 waits.unknown;
      }
