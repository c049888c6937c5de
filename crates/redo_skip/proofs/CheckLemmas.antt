-- A check under more answers.
use Rattle.std.proofs.Common.{◌≡◌, ℕ, Bool, true, false, not, cond, ◌||◌, ◌&&◌, ◌⊎◌, inl, inr, List, [], ◌∷◌, Option, Some}
use Rattle.std.proofs.Common.{None}
use Rattle.std.proofs.Common.{is_none, refl, sym, ap, subst, ◌∙◌}
use Rattle.std.proofs.lemmas.Bool.{cases_Bool}
use Rattle.redo_digest.specs.Digest.{State}
use Rattle.redo_names.proofs.ListLemmas.{IsAmong-left, IsAmong-right, IsAmong-append}
use Rattle.redo_record.specs.declared.outcome.Outcome.{Outcome}
use Rattle.redo_record.specs.Paths.{IsAmong}
use Rattle.redo_book.specs.declared.book.BookEntry.{BookEntry}
use Rattle.redo_book.specs.declared.book.BookEntry.TheVariants.{Change, Create, Always}
use Rattle.redo_build.specs.Rules.{Ask, Extends}
use Rattle.redo_build.proofs.DepthLemmas.{cases_Option}
use Rattle.redo_skip.specs.Sources.{Sources, without_book}
use Rattle.redo_skip.specs.Checks.{is_asked, told, source_file, known_file, has_state, Standing, stands}
use Rattle.redo_skip.specs.Checks.{lacks}
use Rattle.redo_skip.specs.Checks.{Check, all_stand, is_kept, one_lacks, waits_in_check}
use Rattle.redo_skip.specs.Checks.{falls, stands_if, standing, asks, Finding, found_by, finding}

pub cases_Standing : (v : Standing) → (v ≡ stands) ⊎ ((v ≡ lacks) ⊎ (v ≡ falls))
cases_Standing stands = inl refl
cases_Standing lacks = inr (inl refl)
cases_Standing falls = inr (inr refl)

-- where each has what the other has they are the same
pub same-both : {A : Type 0} (x y : Option A) → ((z : A) → x ≡ Some z → y ≡ Some z) →
    ((z : A) → y ≡ Some z → x ≡ Some z) → x ≡ y
same-both (Some z) y more less = sym (more z refl)
same-both None (Some z) more less = less z refl
same-both None None more less = refl

-- whether the script of a target is begun, in check or not
abbrev pub begins_checked : Sources → Option Check → Ask → Bool
begins_checked s o a = not (is_kept s o a) && not (waits_in_check s o a)

-- and by how its entries stand: once one falls
abbrev pub is_fallen : Standing → Bool
is_fallen v = not (all_stand v) && not (one_lacks v)

pub not-or : (x y : Bool) → not (x || y) ≡ true → (x ≡ false) × (y ≡ false)
not-or true y e = absurd cc
not-or false true e = absurd cc
not-or false false e = (refl, refl)

pub stands_if-lacks : (t : Bool) → stands_if t ≡ lacks → ⊥
stands_if-lacks true e = absurd cc
stands_if-lacks false e = absurd cc

pub stands_if-stands : (t : Bool) → stands_if t ≡ stands → t ≡ true
stands_if-stands true e = refl
stands_if-stands false e = absurd cc

-- Of a change entry, by whether its path is asked for

-- how a change entry stands by the answer to its path
abbrev pub by_answer : State → Option Outcome → Standing
by_answer state answer = cond (is_none answer) lacks (stands_if (has_state state (told answer)))

by_answer-lacks : (state : State) (answer : Option Outcome) → by_answer state answer ≡ lacks → answer ≡ None
by_answer-lacks state None e = refl
by_answer-lacks state (Some o) e = absurd (stands_if-lacks (has_state state (told (Some o))) e)

by_answer-stands : (state : State) (answer : Option Outcome) → by_answer state answer ≡ stands →
    has_state state (told answer) ≡ true
by_answer-stands state None e = absurd cc
by_answer-stands state (Some o) e = stands_if-stands (has_state state (told (Some o))) e

module _ (s : Sources) where
  pub standing-asked : (a : Ask) (state : State) (x : List ℕ) → is_asked s x ≡ true →
      standing s a (Change state x) ≡ by_answer state (a x)
  standing-asked a state x t = rw t refl

  pub standing-fixed : (a : Ask) (state : State) (x : List ℕ) → is_asked s x ≡ false →
      standing s a (Change state x) ≡ stands_if (has_state state (source_file s x))
  standing-fixed a state x f = rw f refl

  pub known-asked : (a : Ask) (x : List ℕ) → is_asked s x ≡ true → known_file s a x ≡ told (a x)
  known-asked a x t = rw t refl

  pub known-fixed : (a : Ask) (x : List ℕ) → is_asked s x ≡ false → known_file s a x ≡ source_file s x
  known-fixed a x f = rw f refl

  -- what stands has a known file of the recorded state
  pub stands-state : (a : Ask) (state : State) (x : List ℕ) → standing s a (Change state x) ≡ stands →
      has_state state (known_file s a x) ≡ true
  stands-state a state x e = elim (cases_Bool (is_asked s x)) [
    | inl t ↦ rw t (by_answer-stands state (a x) (rw t at e))
    | inr f ↦ rw f (stands_if-stands (has_state state (source_file s x)) (rw f at e))
  ]

  pub asks-among : (state : State) (x q : List ℕ) → IsAmong (asks s (Change state x)) q →
      (x ≡ q) × (is_asked s x ≡ true)
  asks-among state x q m = elim (cases_Bool (is_asked s x)) [
    | inl t ↦ elim (rw t at m) as (λ _. (x ≡ q) × (is_asked s x ≡ true)) [
      | inl here ↦ (here, t)
      | inr none ↦ absurd none
    ]
    | inr f ↦ absurd (rw f at m)
  ]

  pub among-asks : (state : State) (x : List ℕ) → is_asked s x ≡ true → IsAmong (asks s (Change state x)) x
  among-asks state x t = rw t (inl refl)

  -- Of one entry

  -- an entry asks for one path at most, and only for what is asked for
  pub asks-this : (e : BookEntry) (q : List ℕ) → IsAmong (asks s e) q → is_asked s q ≡ true
  asks-this (Change state x) q m =
      let P : List ℕ → Type 0 = λ y. is_asked s y ≡ true in
      let is = asks-among state x q m in subst P is.0 is.1
  asks-this (Create x) q m = absurd m
  asks-this Always q m = absurd m

  one-asked : (e : BookEntry) (q q' : List ℕ) → IsAmong (asks s e) q → IsAmong (asks s e) q' → q ≡ q'
  one-asked (Change state x) q q' m m' = sym (asks-among state x q m).0 ∙ (asks-among state x q' m').0
  one-asked (Create x) q q' m m' = absurd m
  one-asked Always q q' m m' = absurd m

  pub standing-same : (e : BookEntry) (a b : Ask) → ((q : List ℕ) → IsAmong (asks s e) q → a q ≡ b q) →
      standing s a e ≡ standing s b e
  standing-same (Change state x) a b same = elim (cases_Bool (is_asked s x)) [
    | inl t ↦ let here = same x (among-asks state x t) in rw (t, here) refl
    | inr f ↦ rw f refl
  ]
  standing-same (Create x) a b same = refl
  standing-same Always a b same = refl

  standing-lacks : (e : BookEntry) (a : Ask) → standing s a e ≡ lacks →
      (q : List ℕ) × IsAmong (asks s e) q × (a q ≡ None)
  standing-lacks (Change state x) a e = elim (cases_Bool (is_asked s x)) [
    | inl t ↦ (x, among-asks state x t, by_answer-lacks state (a x) (sym (standing-asked a state x t) ∙ e))
    | inr f ↦ absurd (stands_if-lacks (has_state state (source_file s x)) (sym (standing-fixed a state x f) ∙ e))
  ]
  standing-lacks (Create x) a e = absurd (stands_if-lacks (s.is_free x) e)
  standing-lacks Always a e = absurd cc

  lacks-standing : (e : BookEntry) (a : Ask) (q : List ℕ) → IsAmong (asks s e) q → a q ≡ None → standing s a e ≡ lacks
  lacks-standing (Change state x) a q m none =
      let is = asks-among state x q m in
      standing-asked a state x is.1 ∙ ap (by_answer state) (ap a is.0 ∙ none)
  lacks-standing (Create x) a q m none = absurd m
  lacks-standing Always a q m none = absurd m

  -- what doesn't wait stands or falls the same under more answers
  pub standing-stays : (e : BookEntry) (a b : Ask) → Extends (without_book s) a b → (standing s a e ≡ lacks → ⊥) →
      standing s b e ≡ standing s a e
  standing-stays e a b more goes = sym (standing-same e a b (λ x n. elim (cases_Option (a x)) [
    | inl none ↦ absurd (goes (lacks-standing e a x n none))
    | inr some ↦ some.1 ∙ sym (more x some.0 (not-or (s.is_source x) (s.is_script x) (asks-this e x n)).0 some.1)
  ]))

  -- Of an entry and the further ones

  pub found-first : (e : BookEntry) (v : Standing) (rest : Finding) (q : List ℕ) → IsAmong (asks s e) q →
      IsAmong (found_by s e v rest).asked q
  found-first e stands rest q m = IsAmong-left (asks s e) rest.asked q m
  found-first e lacks rest q m = m
  found-first e falls rest q m = m

  pub found-cases : (e : BookEntry) (v : Standing) (rest : Finding) (q : List ℕ) →
      IsAmong (found_by s e v rest).asked q →
      IsAmong (asks s e) q ⊎ ((v ≡ stands) × IsAmong rest.asked q)
  found-cases e stands rest q m =
      elim (IsAmong-append (asks s e) rest.asked q m) [ inl l ↦ inl l | inr r ↦ inr (refl, r) ]
  found-cases e lacks rest q m = inl m
  found-cases e falls rest q m = inl m

  pub found-later : (e : BookEntry) (v : Standing) (rest : Finding) (q : List ℕ) → v ≡ stands → IsAmong rest.asked q →
      IsAmong (found_by s e v rest).asked q
  found-later e stands rest q t m = IsAmong-right (asks s e) rest.asked q m
  found-later e lacks rest q t m = absurd cc
  found-later e falls rest q t m = absurd cc

  pub found-stands : (e : BookEntry) (v : Standing) (rest : Finding) → (found_by s e v rest).standing ≡ stands →
      (v ≡ stands) × (rest.standing ≡ stands)
  found-stands e stands rest t = (refl, t)
  found-stands e lacks rest t = absurd cc
  found-stands e falls rest t = absurd cc

  found-lacks : (e : BookEntry) (v : Standing) (rest : Finding) → (found_by s e v rest).standing ≡ lacks →
      (v ≡ lacks) ⊎ ((v ≡ stands) × (rest.standing ≡ lacks))
  found-lacks e stands rest t = inr (refl, t)
  found-lacks e lacks rest t = inl refl
  found-lacks e falls rest t = absurd cc

  lacks-found : (e : BookEntry) (v : Standing) (rest : Finding) →
      (v ≡ lacks) ⊎ ((v ≡ stands) × (rest.standing ≡ lacks)) →
      (found_by s e v rest).standing ≡ lacks
  lacks-found e stands rest t = elim t [ inl bad ↦ absurd cc | inr some ↦ some.1 ]
  lacks-found e lacks rest t = refl
  lacks-found e falls rest t = elim t [ inl bad ↦ absurd cc | inr some ↦ absurd (let bad = some.0 in cc) ]

  found-same : (e : BookEntry) (v : Standing) (x y : Finding) → (v ≡ stands → x ≡ y) →
      found_by s e v x ≡ found_by s e v y
  found-same e stands x y h = ap (λ z. found_by s e stands z) (h refl)
  found-same e lacks x y h = refl
  found-same e falls x y h = refl

  -- Of the whole check

  pub finding-asked : (es : List BookEntry) (a : Ask) (q : List ℕ) → IsAmong (finding s a es).asked q →
      is_asked s q ≡ true
  finding-asked [] a q m = absurd m
  finding-asked (e ∷ es) a q m = elim (found-cases e (standing s a e) (finding s a es) q m) [
    | inl first ↦ asks-this e q first
    | inr later ↦ finding-asked es a q later.1
  ]

  pub finding-target : (es : List BookEntry) (a : Ask) (q : List ℕ) → IsAmong (finding s a es).asked q →
      s.is_source q ≡ false
  finding-target es a q m = (not-or (s.is_source q) (s.is_script q) (finding-asked es a q m)).0

  -- asks that agree on what it asks for give the same finding
  pub finding-same : (es : List BookEntry) (a b : Ask) → ((q : List ℕ) → IsAmong (finding s a es).asked q → a q ≡ b q) →
      finding s a es ≡ finding s b es
  finding-same [] a b same = refl
  finding-same (e ∷ es) a b same =
      let first : standing s a e ≡ standing s b e =
      standing-same e a b (λ q m. same q (found-first e (standing s a e) (finding s a es) q m)) in
      found-same e (standing s a e) (finding s a es) (finding s b es)
      (λ t. finding-same es a b (λ q m. same q (found-later e (standing s a e) (finding s a es) q t m)))
      ∙ ap (λ v. found_by s e v (finding s b es)) first

  -- what it asked for in vain is what it waits for
  pub finding-unanswered : (es : List BookEntry) (a : Ask) (q : List ℕ) → IsAmong (finding s a es).asked q →
      a q ≡ None →
      (finding s a es).standing ≡ lacks
  finding-unanswered [] a q m none = absurd m
  finding-unanswered (e ∷ es) a q m none = lacks-found e (standing s a e) (finding s a es)
      (elim (found-cases e (standing s a e) (finding s a es) q m) [
        | inl first ↦ inl (lacks-standing e a q first none)
        | inr later ↦ inr (later.0, finding-unanswered es a q later.1 none)
      ])

  pub finding-lacks : (es : List BookEntry) (a : Ask) → (finding s a es).standing ≡ lacks →
      (q : List ℕ) × IsAmong (finding s a es).asked q × (a q ≡ None)
  finding-lacks [] a l = absurd cc
  finding-lacks (e ∷ es) a l = elim (found-lacks e (standing s a e) (finding s a es) l) [
    | inl here ↦
        let found = standing-lacks e a here in
        (found.0, found-first e (standing s a e) (finding s a es) found.0 found.1, found.2)
    | inr later ↦
        let found = finding-lacks es a later.1 in
        (found.0, found-later e (standing s a e) (finding s a es) found.0 later.0 found.1, found.2)
  ]

  -- it waits for one path
  finding-one : (es : List BookEntry) (a : Ask) (q q' : List ℕ) → IsAmong (finding s a es).asked q →
      IsAmong (finding s a es).asked q' → a q ≡ None → a q' ≡ None → q ≡ q'
  finding-one [] a q q' m m' none none' = absurd m
  finding-one (e ∷ es) a q q' m m' none none' =
      elim (found-cases e (standing s a e) (finding s a es) q m) [
        | inl first ↦ elim (found-cases e (standing s a e) (finding s a es) q' m') [
          | inl first' ↦ one-asked e q q' first first'
          | inr later' ↦ absurd (let here = lacks-standing e a q first none in let there = later'.0 in cc)
        ]
        | inr later ↦ elim (found-cases e (standing s a e) (finding s a es) q' m') [
          | inl first' ↦ absurd (let here = lacks-standing e a q' first' none' in let there = later.0 in cc)
          | inr later' ↦ finding-one es a q q' later.1 later'.1 none none'
        ]
      ]

  -- a check that doesn't wait finds the same under more answers
  pub finding-stays : (es : List BookEntry) (a b : Ask) → Extends (without_book s) a b →
      ((finding s a es).standing ≡ lacks → ⊥) →
      finding s a es ≡ finding s b es
  finding-stays es a b more goes = finding-same es a b (λ q m. elim (cases_Option (a q)) [
    | inl none ↦ absurd (goes (finding-unanswered es a q m none))
    | inr some ↦ some.1 ∙ sym (more q some.0 (finding-target es a q m) some.1)
  ])

  -- one that still waits too
  pub finding-waits : (es : List BookEntry) (a b : Ask) (q : List ℕ) → Extends (without_book s) a b →
      IsAmong (finding s a es).asked q → a q ≡ None → b q ≡ None → finding s a es ≡ finding s b es
  finding-waits es a b q more m none none' = finding-same es a b (λ x n. elim (cases_Option (a x)) [
    | inl lack ↦
        let same : q ≡ x = finding-one es a q x m n none lack in
        let lack' : b x ≡ None = ap b (sym same) ∙ none' in
        lack ∙ sym lack'
    | inr some ↦ some.1 ∙ sym (more x some.0 (finding-target es a x n) some.1)
  ])

  -- under more answers it asks for no fewer paths
  pub finding-grows : (es : List BookEntry) (a b : Ask) (q : List ℕ) → Extends (without_book s) a b →
      IsAmong (finding s a es).asked q → IsAmong (finding s b es).asked q
  finding-grows [] a b q more m = absurd m
  finding-grows (e ∷ es) a b q more m =
      elim (found-cases e (standing s a e) (finding s a es) q m) [
        | inl first ↦ found-first e (standing s b e) (finding s b es) q first
        | inr later ↦
            found-later e (standing s b e) (finding s b es) q
            (standing-stays e a b more (λ l. let stood = later.0 in cc) ∙ later.0)
            (finding-grows es a b q more later.1)
      ]
