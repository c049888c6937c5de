-- Entries of a record that have stood in a check, and what the check finds behind them.
use Rattle.std.proofs.Common.{◌≡◌, ◌∙◌, ◌+◌, ◌<◌, ◌≤◌, ℕ, zero, suc, Bool, true, false, inl, inr, List, [], ◌∷◌}
use Rattle.std.proofs.Common.{◌++◌, Some, None, refl, sym, ap, subst, arith, append_assoc, length, map, take, drop}
use Rattle.std.proofs.Common.{slice_get}
use Rattle.std.proofs.lemmas.Bool.{cases_Bool, cases_lt}
use Rattle.std.proofs.lemmas.Grind.{flat_map-append}
use Rattle.std.proofs.lemmas.List.{append-nil, take-append-drop}
use Rattle.std.proofs.lemmas.Option.{slice_get_within}
use Rattle.std.proofs.lemmas.Slice.Eq.{bytes_eq-Decides}
use Rattle.std.specs.List.{AllByRecursion, IsDistinct}
use Rattle.std.specs.Str.{bytes_eq}
use Rattle.redo_digest.specs.Digest.{State}
use Rattle.redo_names.proofs.ListLemmas.{IsAmong-append, IsAmong-left, IsAmong-right}
use Rattle.redo_names.proofs.PathLemmas.{among-told}
use Rattle.redo_record.specs.declared.deps.Dep.{Dep}
use Rattle.redo_record.specs.declared.deps.DepKind.TheVariants as kinds
use Rattle.redo_record.specs.declared.outcome.Outcome.{Outcome}
use Rattle.redo_record.specs.Entries.{with_entries, with_entry}
use Rattle.redo_record.specs.Paths.{IsAmong, is_among}
use Rattle.redo_record.specs.Progress.{operands as operands_of}
use Rattle.redo_record.proofs.Public.{change_entered, entered_operand, operand_entered}
use Rattle.redo_book.specs.declared.book.BookEntry.{BookEntry}
use Rattle.redo_book.specs.declared.book.BookEntry.TheVariants.{Change, Create, Always}
use Rattle.redo_book.specs.Book.{same_entry}
use Rattle.redo_build.specs.Rules.{Ask}
use Rattle.redo_build.specs.Schedule.{nothing_known, only}
use Rattle.redo_skip.specs.Checks.{Finding, Standing, asking, asks, falls, finding, found_by, has_state, is_asked}
use Rattle.redo_skip.specs.Checks.{lacks, shown}
use Rattle.redo_skip.specs.Checks.{standing, stands, stands_if, told}
use Rattle.redo_skip.specs.Sources.{Sources}
use Rattle.redo_skip.proofs.CheckLemmas.{asks-among, asks-this, by_answer, not-or, standing-asked, standing-fixed}
use Rattle.redo_skip.proofs.AskedLemmas.{asking-from}
use Rattle.redo_skip.proofs.CheckLemmas.{standing-same, stands_if-lacks}
use Rattle.redo_skip.specs.inside.Stood.{HaveStood, StandAlone, asked_by}

-- ---- lists of entries

pub plus-one : (n : ℕ) → suc n ≡ n + 1
plus-one n = omega arith

drop-at : (es : List BookEntry) (n : ℕ) (e : BookEntry) → slice_get es n ≡ Some e → drop n es ≡ e ∷ drop (suc n) es
drop-at [] n e h = absurd cc
drop-at (x ∷ es) zero e h = let is : x ≡ e = cc in ap (λ y. y ∷ es) is
drop-at (x ∷ es) (suc n) e h = drop-at es n e h

pub take-at : (es : List BookEntry) (n : ℕ) (e : BookEntry) → slice_get es n ≡ Some e → take (suc n) es ≡ take n es ++ e ∷ []
take-at [] n e h = absurd cc
take-at (x ∷ es) zero e h = let is : x ≡ e = cc in ap (λ y. y ∷ []) is
take-at (x ∷ es) (suc n) e h = ap (λ ys. x ∷ ys) (take-at es n e h)

drop-end : (es : List BookEntry) (n : ℕ) → slice_get es n ≡ None → drop n es ≡ []
drop-end [] zero h = refl
drop-end [] (suc n) h = refl
drop-end (x ∷ es) zero h = absurd cc
drop-end (x ∷ es) (suc n) h = drop-end es n h

pub take-end : (es : List BookEntry) (n : ℕ) → slice_get es n ≡ None → take n es ≡ es
take-end [] zero h = refl
take-end [] (suc n) h = refl
take-end (x ∷ es) zero h = absurd cc
take-end (x ∷ es) (suc n) h = ap (λ ys. x ∷ ys) (take-end es n h)

all-taken : (P : BookEntry → Type 0) (es : List BookEntry) (n : ℕ) → ((k : ℕ) (e : BookEntry) → k < n → slice_get es k ≡ Some e → P e) → AllByRecursion P (take n es)
all-taken P es zero h = tt
all-taken P [] (suc n) h = tt
all-taken P (e ∷ es) (suc n) h = (h zero e (omega arith) refl, all-taken P es n (λ k x l g. h (suc k) x (omega arith) g))

all-at : (P : BookEntry → Type 0) (es : List BookEntry) (n : ℕ) (e : BookEntry) → AllByRecursion P es → slice_get es n ≡ Some e → P e
all-at P [] n e all h = absurd cc
all-at P (x ∷ es) zero e all h = let is : x ≡ e = cc in subst P is all.0
all-at P (x ∷ es) (suc n) e all h = all-at P es n e all.1 h

-- ---- entries that ask for paths

entries-more : (ds : List Dep) (ps : List (List ℕ)) (q : List ℕ) → with_entries ds kinds.Change (ps ++ q ∷ []) ≡ with_entry (with_entries ds kinds.Change ps) kinds.Change q
entries-more ds [] q = refl
entries-more ds (p ∷ ps) q = entries-more (with_entry ds kinds.Change p) ps q

-- one more
pub asking-more : (ps : List (List ℕ)) (q : List ℕ) → asking (ps ++ q ∷ []) ≡ with_entry (asking ps) kinds.Change q
asking-more ps q = entries-more [] ps q

module _ (source : List ℕ → Bool) where
  pub asked-in : (ps : List (List ℕ)) (q : List ℕ) → IsAmong ps q → source q ≡ false → IsAmong (operands_of source (asking ps)) q
  asked-in ps q m target = entered_operand source (asking ps) q target (change_entered [] ps q m)

  pub asked-out : (ps : List (List ℕ)) (q : List ℕ) → IsAmong (operands_of source (asking ps)) q → IsAmong ps q
  asked-out ps q m = asking-from ps q (operand_entered source (asking ps) q m)

pub only-none : (ps : List (List ℕ)) (a : Ask) (q : List ℕ) → (IsAmong ps q → ⊥) → only ps a q ≡ None
only-none ps a q other = elim (cases_Bool (is_among ps q)) [
  | inl t ↦ absurd (other (among-told ps q t))
  | inr f ↦ rw f refl
]

-- ---- how one entry stands

module _ (s : Sources) where
  -- what stands or falls without an answer asks for nothing
  pub unasked : (e : BookEntry) → (standing s nothing_known e ≡ lacks → ⊥) → asks s e ≡ []
  unasked (Change state q) fixed = elim (cases_Bool (is_asked s q)) [
    | inl t ↦ absurd (fixed (standing-asked s nothing_known state q t))
    | inr f ↦ rw f refl
  ]
  unasked _ fixed = refl

  -- and does so whatever is known
  pub always : (e : BookEntry) (v : Standing) → standing s nothing_known e ≡ v → (v ≡ lacks → ⊥) → (a : Ask) → standing s a e ≡ v
  always e v h fixed a =
      standing-same s e a nothing_known (λ q m. absurd (subst (λ qs. IsAmong qs q) (unasked e (λ l. fixed (sym h ∙ l))) m)) ∙ h

  pub not-lacking : stands ≡ lacks → ⊥
  not-lacking e = cc

  pub not-falling : falls ≡ lacks → ⊥
  not-falling e = cc

  -- what lacks an answer asks for a path
  pub asking-one : (e : BookEntry) → standing s nothing_known e ≡ lacks → (state : State) × (q : List ℕ) × (e ≡ Change state q) × (is_asked s q ≡ true)
  asking-one (Change state q) h = elim (cases_Bool (is_asked s q)) [
    | inl t ↦ (state, q, refl, t)
    | inr f ↦ absurd (stands_if-lacks _ (sym (standing-fixed s nothing_known state q f) ∙ h))
  ]
  asking-one (Create q) h = absurd (stands_if-lacks (s.is_free q) h)
  asking-one Always h = absurd (let bad : falls ≡ lacks = h in cc)

  pub asks-path : (state : State) (q : List ℕ) → is_asked s q ≡ true → asks s (Change state q) ≡ q ∷ []
  asks-path state q t = rw t refl

  pub lacks-path : (state : State) (q : List ℕ) (a : Ask) → is_asked s q ≡ true → a q ≡ None → standing s a (Change state q) ≡ lacks
  lacks-path state q a t none = standing-asked s a state q t ∙ ap (by_answer state) none

  -- by the answer it stands or falls
  pub answered-path : (state : State) (q : List ℕ) (a : Ask) (o : Outcome) → is_asked s q ≡ true → a q ≡ Some o → standing s a (Change state q) ≡ stands_if (has_state state (told (Some o)))
  answered-path state q a o t some = standing-asked s a state q t ∙ ap (by_answer state) some

  -- ---- what entries ask for

  pub asked-target : (es : List BookEntry) (q : List ℕ) → IsAmong (asked_by s es) q → s.is_source q ≡ false
  asked-target [] q m = absurd m
  asked-target (e ∷ es) q m = elim (IsAmong-append (asks s e) (asked_by s es) q m) [
    | inl here ↦ (not-or (s.is_source q) (s.is_script q) (asks-this s e q here)).0
    | inr later ↦ asked-target es q later
  ]

  pub asks-target : (e : BookEntry) (q : List ℕ) → IsAmong (asks s e) q → s.is_source q ≡ false
  asks-target e q m = (not-or (s.is_source q) (s.is_script q) (asks-this s e q m)).0

  pub among-taken : (es : List BookEntry) (n k : ℕ) (e : BookEntry) (q : List ℕ) → k < n → slice_get es k ≡ Some e → IsAmong (asks s e) q → IsAmong (asked_by s (take n es)) q
  among-taken es zero k e q l h m = absurd (omega arith)
  among-taken [] (suc n) k e q l h m = absurd cc
  among-taken (x ∷ es) (suc n) zero e q l h m =
      let is : x ≡ e = cc in IsAmong-left (asks s x) (asked_by s (take n es)) q (subst (λ y. IsAmong (asks s y) q) (sym is) m)
  among-taken (x ∷ es) (suc n) (suc k) e q l h m =
      IsAmong-right (asks s x) (asked_by s (take n es)) q (among-taken es n k e q (omega arith) h m)

  pub asked-at : (es : List BookEntry) (n : ℕ) (e : BookEntry) → slice_get es n ≡ Some e → asked_by s (take (suc n) es) ≡ asked_by s (take n es) ++ asks s e
  asked-at es n e h =
      ap (asked_by s) (take-at es n e h) ∙ flat_map-append (asks s) (take n es) (e ∷ []) ∙
      ap (λ qs. asked_by s (take n es) ++ qs) (append-nil (asks s e))

  -- entries that ask for nothing add nothing
  asked-still : (es : List BookEntry) (m n : ℕ) → m ≤ n → ((k : ℕ) (e : BookEntry) → m ≤ k → k < n → slice_get es k ≡ Some e → asks s e ≡ []) → asked_by s (take n es) ≡ asked_by s (take m es)
  asked-still es zero zero l h = refl
  asked-still [] zero (suc n) l h = refl
  asked-still (e ∷ es) zero (suc n) l h =
      ap (λ qs. qs ++ asked_by s (take n es)) (h zero e (omega arith) (omega arith) refl) ∙
      asked-still es zero n (omega arith) (λ k x g j is. h (suc k) x (omega arith) (omega arith) is)
  asked-still es (suc m) zero l h = absurd (omega arith)
  asked-still [] (suc m) (suc n) l h = refl
  asked-still (e ∷ es) (suc m) (suc n) l h =
      ap (λ qs. asks s e ++ qs) (asked-still es m n (omega arith) (λ k x g j is. h (suc k) x (omega arith) (omega arith) is))

  -- no path is asked for twice
  other-path : (e : BookEntry) (state : State) (q : List ℕ) → same_entry e (Change state q) ≡ false → IsAmong (asks s e) q → ⊥
  other-path (Change state' x) state q other m =
      let same : bytes_eq x q ≡ true = (bytes_eq-Decides x q).1 (asks-among s state' x q m).0 in cc
  other-path _ state q other m = m

  pub new-path : (es : List BookEntry) (n : ℕ) (state : State) (q : List ℕ) → IsDistinct same_entry es → slice_get es n ≡ Some (Change state q) → IsAmong (asked_by s (take n es)) q → ⊥
  unfolding IsDistinct
  new-path es zero state q once h m = m
  new-path [] (suc n) state q once h m = m
  new-path (e ∷ es) (suc n) state q once h m = elim (IsAmong-append (asks s e) (asked_by s (take n es)) q m) [
    | inl here ↦ other-path e state q (all-at (λ y. same_entry e y ≡ false) es n (Change state q) once.0 h) here
    | inr later ↦ new-path es n state q once.1 h later
  ]

  -- ---- what a check finds

  -- what is found behind entries that stand
  abbrev pub behind : List BookEntry → Finding → Finding
  behind xs f = record { standing = f.standing; asked = asked_by s xs ++ f.asked; seen = map shown xs ++ f.seen }

  found-behind : (a : Ask) (xs ys : List BookEntry) → AllByRecursion (λ e. standing s a e ≡ stands) xs → finding s a (xs ++ ys) ≡ behind xs (finding s a ys)
  found-behind a [] ys h = refl
  found-behind a (e ∷ xs) ys h =
      let f = finding s a ys in
      ap (λ v. found_by s e v (finding s a (xs ++ ys))) h.0 ∙ ap (found_by s e stands) (found-behind a xs ys h.1) ∙
      ap (λ qs. record { standing = f.standing; asked = qs; seen = shown e ∷ (map shown xs ++ f.seen) }) (sym (append_assoc (asks s e) (asked_by s xs) f.asked))

  -- by how the next entry stands
  pub found-next : (a : Ask) (es : List BookEntry) (n : ℕ) (e : BookEntry) (v : Standing) → HaveStood s a es n → slice_get es n ≡ Some e → standing s a e ≡ v → finding s a es ≡ behind (take n es) (found_by s e v (finding s a (drop (suc n) es)))
  found-next a es n e v stood h is =
      ap (finding s a) (sym (take-append-drop n es)) ∙ found-behind a (take n es) (drop n es) (all-taken _ es n stood.each) ∙
      ap (λ ys. behind (take n es) (finding s a ys)) (drop-at es n e h) ∙
      ap (λ w. behind (take n es) (found_by s e w (finding s a (drop (suc n) es)))) is

  pub found-end : (a : Ask) (es : List BookEntry) (n : ℕ) → HaveStood s a es n → slice_get es n ≡ None → finding s a es ≡ behind (take n es) (record { standing = stands; asked = []; seen = [] })
  found-end a es n stood h =
      ap (finding s a) (sym (take-append-drop n es)) ∙ found-behind a (take n es) (drop n es) (all-taken _ es n stood.each) ∙
      ap (λ ys. behind (take n es) (finding s a ys)) (drop-end es n h)

  -- ---- entries that have stood

  -- under another ask that tells alike of what they asked for
  pub stood-moves : (a b : Ask) (es : List BookEntry) (n : ℕ) → HaveStood s a es n → ((q : List ℕ) → IsAmong (asked_by s (take n es)) q → a q ≡ b q) → HaveStood s b es n
  stood-moves a b es n stood same = record {
    within = stood.within;
    each = λ k e l h. sym (standing-same s e a b (λ q m. same q (among-taken es n k e q l h m))) ∙ stood.each k e l h;
  }

  pub stood-none : (a : Ask) (es : List BookEntry) → HaveStood s a es 0
  stood-none a es = record { within = omega arith; each = λ k e l h. absurd (omega arith) }

  -- one more
  pub stood-more : (a : Ask) (es : List BookEntry) (n : ℕ) (e : BookEntry) → HaveStood s a es n → slice_get es n ≡ Some e → standing s a e ≡ stands → HaveStood s a es (n + 1)
  stood-more a es n e stood h is = record {
    within = let l = slice_get_within es n e h in omega (arith, l);
    each = λ k x l g. elim (cases_lt k n) [
      | inl below ↦ stood.each k x below g
      | inr there ↦
          let at : k ≡ n = omega (arith, l, there) in
          let same : Some x ≡ Some e = sym g ∙ ap (slice_get es) at ∙ h in
          let is-e : x ≡ e = cc in
          ap (standing s a) is-e ∙ is
    ];
  }

  -- and those behind them that stand alone
  pub stood-on : (a : Ask) (es : List BookEntry) (m n : ℕ) → HaveStood s a es m → n ≤ length es → StandAlone s es m n → HaveStood s a es n
  stood-on a es m n stood within alone = record {
    within = within;
    each = λ k e l h. elim (cases_lt k m) [
      | inl below ↦ stood.each k e below h
      | inr above ↦ always e stands (alone k e above l h) not-lacking a
    ];
  }

  -- which ask for nothing
  pub asked-on : (es : List BookEntry) (m n : ℕ) → m ≤ n → StandAlone s es m n → asked_by s (take n es) ≡ asked_by s (take m es)
  asked-on es m n on alone =
      asked-still es m n on (λ k e g l h. unasked e (λ bad. not-lacking (sym (alone k e g l h) ∙ bad)))
