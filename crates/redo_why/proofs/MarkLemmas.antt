-- What marks and verdicts tell of a check under an ask that fits them.
use Rattle.std.proofs.Common.{◌≡◌, ℕ, Bool, true, false, ◌⊎◌, inl, inr, List, [], ◌∷◌, Option, Some, None}
use Rattle.std.proofs.Common.{flat_map, refl, sym, ap, ◌∙◌}
use Rattle.std.proofs.lemmas.Bool.{cases_Bool}
use Rattle.redo_digest.specs.Digest.{State, state_of}
use Rattle.redo_names.proofs.ListLemmas.{IsAmong-left, IsAmong-right}
use Rattle.redo_record.specs.declared.outcome.Outcome.{Outcome}
use Rattle.redo_record.specs.declared.outcome.Outcome.TheVariants.{Built}
use Rattle.redo_record.specs.Paths.{IsAmong}
use Rattle.redo_book.specs.declared.book.BookEntry.{BookEntry}
use Rattle.redo_book.specs.declared.book.BookEntry.TheVariants.{Change, Create, Always}
use Rattle.redo_build.specs.Rules.{Ask}
use Rattle.redo_skip.specs.Sources.{Sources}
use Rattle.redo_skip.specs.Checks.{is_asked, file_told, source_file, has_state, same_state, stands, lacks}
use Rattle.redo_skip.specs.Checks.{falls, stands_if, standing, asks, finding, Check, Checks}
use Rattle.redo_skip.proofs.CheckLemmas.{among-asks, found-first}
use Rattle.redo_skip.proofs.CheckLemmas.{found-later, found-stands, same-both}
use Rattle.redo_why.specs.Verdicts.{Verdict, Keeps, Begins, Either, Verdicts, Mark, Holds, Drops, Unsure, Waits}
use Rattle.redo_why.specs.Verdicts.{holds_if, mark_checked, mark_asked, mark, verdict_by, verdict, verdict_checked}
use Rattle.redo_why.specs.OutOfDate.{drop_by, entry_path, first_drop, first_unsure, named, unsure_by}
use Rattle.redo_why.specs.Reasons.{first_fallen}
use Rattle.redo_why.proofs.ReasonLemmas.{first-falls-all}

-- What the verdict tells of the first entry

keeps-by : (m : Mark) (rest : Option Verdict) → verdict_by m rest ≡ Some Keeps → (m ≡ Holds) × (rest ≡ Some Keeps)
keeps-by Holds rest h = (refl, h)
keeps-by _ rest h = absurd cc

begins-by : (m : Mark) (rest : Option Verdict) → verdict_by m rest ≡ Some Begins →
    ((m ≡ Holds) × (rest ≡ Some Begins)) ⊎ (m ≡ Drops)
begins-by Holds rest h = inl (refl, h)
begins-by Drops rest h = inr refl
begins-by _ rest h = absurd cc

either-by : (m : Mark) (rest : Option Verdict) → verdict_by m rest ≡ Some Either →
    ((m ≡ Holds) × (rest ≡ Some Either)) ⊎ (m ≡ Unsure)
either-by Holds rest h = inl (refl, h)
either-by Unsure rest h = inr refl
either-by _ rest h = absurd cc

none-by : (m : Mark) (rest : Option Verdict) → verdict_by m rest ≡ None → ((m ≡ Holds) × (rest ≡ None)) ⊎ (m ≡ Waits)
none-by Holds rest h = inl (refl, h)
none-by Waits rest h = inr refl
none-by _ rest h = absurd cc

-- Of a path that is asked for

holds_if-holds : (t : Bool) → holds_if t ≡ Holds → t ≡ true
holds_if-holds true e = refl
holds_if-holds false e = absurd cc

holds_if-drops : (t : Bool) → holds_if t ≡ Drops → t ≡ false
holds_if-drops true e = absurd cc
holds_if-drops false e = refl

holds_if-waits : (t : Bool) → holds_if t ≡ Waits → ⊥
holds_if-waits true e = cc
holds_if-waits false e = cc

holds_if-unsure : (t : Bool) → holds_if t ≡ Unsure → ⊥
holds_if-unsure true e = cc
holds_if-unsure false e = cc

-- in check, kept, and with the recorded state or without
record IsKept (state : State) (o : Option Check) (v : Option Verdict) (same : Bool) : Type 0 where
  check : Check
  at : o ≡ Some check
  keeps : v ≡ Some Keeps
  agrees : same_state (state_of check.file) state ≡ same

asked-holds : (ruled : Bool) (state : State) (o : Option Check) (v : Option Verdict) →
    mark_asked ruled state o v ≡ Holds → IsKept state o v true
asked-holds ruled state (Some c) (Some Keeps) e =
    record { check = c; at = refl; keeps = refl; agrees = holds_if-holds (same_state (state_of c.file) state) e }
asked-holds true state None v e = absurd cc
asked-holds _ state _ _ e = absurd cc

asked-drops : (ruled : Bool) (state : State) (o : Option Check) (v : Option Verdict) →
    mark_asked ruled state o v ≡ Drops → IsKept state o v false ⊎ (ruled ≡ false)
asked-drops ruled state (Some c) (Some Keeps) e =
    inl (record { check = c; at = refl; keeps = refl; agrees = holds_if-drops (same_state (state_of c.file) state) e })
asked-drops false state None v e = inr refl
asked-drops _ state _ _ e = absurd cc

asked-waits : (ruled : Bool) (state : State) (o : Option Check) (v : Option Verdict) →
    mark_asked ruled state o v ≡ Waits → ((c : Check) × (o ≡ Some c)) × (v ≡ None)
asked-waits ruled state (Some c) None e = ((c, refl), refl)
asked-waits ruled state (Some c) (Some Keeps) e = absurd (holds_if-waits (same_state (state_of c.file) state) e)
asked-waits true state None v e = absurd cc
asked-waits _ state _ _ e = absurd cc

module _ (s : Sources) (a : Ask) (P : List ℕ → Type 0) (e : BookEntry) (es : List BookEntry)
    (all : (q : List ℕ) → IsAmong (finding s a (e ∷ es)).asked q → P q) where
  -- what holds of all that is asked for, of the first entry and of the further ones
  at-first : (q : List ℕ) → IsAmong (asks s e) q → P q
  at-first q m = all q (found-first s e (standing s a e) (finding s a es) q m)

  at-later : standing s a e ≡ stands → (q : List ℕ) → IsAmong (finding s a es).asked q → P q
  at-later here q m = all q (found-later s e (standing s a e) (finding s a es) q here m)

module _ (s : Sources) (k : Checks) (v : Verdicts) (a : Ask) where
  -- the answer to a path is as its verdict says: it is kept; or it has no rule, and fails
  pub record FitsAt (q : List ℕ) : Type 0 where
    pub kept : (c : Check) → k q ≡ Some c → v q ≡ Some Keeps → a q ≡ Some (Built c.file)
    pub lost : s.has_rule q ≡ false → (o : Outcome) × (a q ≡ Some o) × (file_told o ≡ None)

  pub holds-stands : (e : BookEntry) → mark s k v e ≡ Holds → ((q : List ℕ) → IsAmong (asks s e) q → FitsAt q) →
      standing s a e ≡ stands
  holds-stands (Change state x) h fits = elim (cases_Bool (is_asked s x)) [
    | inl t ↦
        let is = asked-holds (s.has_rule x) state (k x) (v x) (rw t at h) in
        rw (t, (fits x (among-asks s state x t)).kept is.check is.at is.keeps) (ap stands_if is.agrees)
    | inr f ↦ rw f (ap stands_if (holds_if-holds (has_state state (source_file s x)) (rw f at h)))
  ]
  holds-stands (Create x) h fits = ap stands_if (holds_if-holds (s.is_free x) h)
  holds-stands Always h fits = absurd cc

  pub drops-falls : (e : BookEntry) → mark s k v e ≡ Drops → ((q : List ℕ) → IsAmong (asks s e) q → FitsAt q) →
      standing s a e ≡ falls
  drops-falls (Change state x) h fits = elim (cases_Bool (is_asked s x)) [
    | inl t ↦ elim (asked-drops (s.has_rule x) state (k x) (v x) (rw t at h)) [
      | inl is ↦ rw (t, (fits x (among-asks s state x t)).kept is.check is.at is.keeps) (ap stands_if is.agrees)
      | inr unruled ↦
          let fails = (fits x (among-asks s state x t)).lost unruled in
          rw (t, fails.1) (ap (λ file. stands_if (has_state state file)) fails.2)
    ]
    | inr f ↦ rw f (ap stands_if (holds_if-drops (has_state state (source_file s x)) (rw f at h)))
  ]
  drops-falls (Create x) h fits = ap stands_if (holds_if-drops (s.is_free x) h)
  drops-falls Always h fits = refl

  -- what is kept by its verdict stands in the check
  pub keeps-stands : (es : List BookEntry) → verdict s k v es ≡ Some Keeps →
      ((q : List ℕ) → IsAmong (finding s a es).asked q → FitsAt q) → (finding s a es).standing ≡ stands
  keeps-stands [] h fits = refl
  keeps-stands (e ∷ es) h fits =
      let both = keeps-by (mark s k v e) (verdict s k v es) h in
      let here = holds-stands e both.0 (at-first s a FitsAt e es fits) in
      rw here (keeps-stands es both.1 (at-later s a FitsAt e es fits here))

  drop-later : (e d : BookEntry) (m : Mark) (rest : Option BookEntry) → (m ≡ Drops → ⊥) → drop_by e m rest ≡ Some d →
      rest ≡ Some d
  drop-later e d Holds rest other is = is
  drop-later e d Drops rest other is = absurd (other refl)
  drop-later e d Unsure rest other is = is
  drop-later e d Waits rest other is = is

  -- where an entry drops, at any place, a check doesn't stand
  pub drop-refutes : (es : List BookEntry) (d : BookEntry) → first_drop s k v es ≡ Some d →
      (finding s a es).standing ≡ stands → ((q : List ℕ) → IsAmong (finding s a es).asked q → FitsAt q) → ⊥
  drop-refutes [] d is t fits = absurd cc
  drop-refutes (e ∷ es) d is t fits =
      let both = found-stands s e (standing s a e) (finding s a es) t in
      let not_here : mark s k v e ≡ Drops → ⊥ = λ drops.
      let fell = drops-falls e drops (at-first s a FitsAt e es fits) in let stood = both.0 in cc in
      drop-refutes es d (drop-later e d (mark s k v e) (first_drop s k v es) not_here is) both.1
      (at-later s a FitsAt e es fits both.0)

-- More verdicts

-- every verdict of the first is one of the second
abbrev pub Grows : Verdicts → Verdicts → Type 0
Grows v w = (q : List ℕ) (x : Verdict) → v q ≡ Some x → w q ≡ Some x

asked-grows : (ruled : Bool) (state : State) (o : Option Check) (x y : Option Verdict) →
    ((z : Verdict) → x ≡ Some z → y ≡ Some z) → (mark_asked ruled state o x ≡ Waits → ⊥) →
    mark_asked ruled state o y ≡ mark_asked ruled state o x
asked-grows ruled state None x y more goes = refl
asked-grows ruled state (Some c) None y more goes = absurd (goes refl)
asked-grows ruled state (Some c) (Some z) y more goes =
    ap (mark_checked (same_state (state_of c.file) state)) (more z refl)

grows-by : (m n : Mark) (rest rest' : Option Verdict) (x : Verdict) → ((m ≡ Waits → ⊥) → n ≡ m) →
    (rest ≡ Some x → rest' ≡ Some x) → verdict_by m rest ≡ Some x → verdict_by n rest' ≡ Some x
grows-by Waits n rest rest' x same more is = absurd cc
grows-by Holds n rest rest' x same more is = rw (same (λ bad. cc)) (more is)
grows-by _ n rest rest' x same more is = rw (same (λ bad. cc)) is

module _ (s : Sources) (k : Checks) (v w : Verdicts) (more : Grows v w) where
  mark-grows : (e : BookEntry) → (mark s k v e ≡ Waits → ⊥) → mark s k w e ≡ mark s k v e
  mark-grows (Change state x) goes = elim (cases_Bool (is_asked s x)) [
    | inl t ↦ rw t (asked-grows (s.has_rule x) state (k x) (v x) (w x) (more x) (rw t at goes))
    | inr f ↦ rw f refl
  ]
  mark-grows (Create x) goes = refl
  mark-grows Always goes = refl

  pub verdict-grows : (es : List BookEntry) (x : Verdict) → verdict s k v es ≡ Some x → verdict s k w es ≡ Some x
  verdict-grows [] x is = is
  verdict-grows (e ∷ es) x is = grows-by (mark s k v e) (mark s k w e) (verdict s k v es) (verdict s k w es) x
      (mark-grows e) (verdict-grows es x) is

  pub checked-grows : (o : Option Check) (x : Verdict) → verdict_checked s k v o ≡ Some x →
      verdict_checked s k w o ≡ Some x
  checked-grows None x is = is
  checked-grows (Some c) x is = verdict-grows c.entries x is

-- where each has the verdicts of the other they are the same
pub checked-same : (s : Sources) (k : Checks) (v w : Verdicts) → Grows v w → Grows w v → (o : Option Check) →
    verdict_checked s k v o ≡ verdict_checked s k w o
checked-same s k v w more less o = same-both (verdict_checked s k v o) (verdict_checked s k w o)
    (checked-grows s k v w more o) (checked-grows s k w v less o)

-- Other checks

-- alike at a path: in check with the same, and with the same verdict
abbrev pub AreAlikeAt : Checks → Verdicts → Checks → Verdicts → List ℕ → Type 0
AreAlikeAt k v l w q = (k q ≡ l q) × (v q ≡ w q)

module _ (s : Sources) (k l : Checks) (v w : Verdicts) where
  mark-same : (e : BookEntry) → ((q : List ℕ) → IsAmong (asks s e) q → AreAlikeAt k v l w q) →
      mark s k v e ≡ mark s l w e
  mark-same (Change state x) alike = elim (cases_Bool (is_asked s x)) [
    | inl t ↦ let here = alike x (among-asks s state x t) in rw (t, here.0, here.1) refl
    | inr f ↦ rw f refl
  ]
  mark-same (Create x) alike = refl
  mark-same Always alike = refl

  verdict-same : (es : List BookEntry) → ((q : List ℕ) → IsAmong (flat_map (asks s) es) q → AreAlikeAt k v l w q) →
      verdict s k v es ≡ verdict s l w es
  verdict-same [] alike = refl
  verdict-same (e ∷ es) alike =
      ap (λ m. verdict_by m (verdict s k v es))
      (mark-same e (λ q m. alike q (IsAmong-left (asks s e) (flat_map (asks s) es) q m)))
      ∙ ap (verdict_by (mark s l w e))
      (verdict-same es (λ q m. alike q (IsAmong-right (asks s e) (flat_map (asks s) es) q m)))

  pub drop-same : (es : List BookEntry) → ((q : List ℕ) → IsAmong (flat_map (asks s) es) q → AreAlikeAt k v l w q) →
      first_drop s k v es ≡ first_drop s l w es
  drop-same [] alike = refl
  drop-same (e ∷ es) alike =
      ap (λ m. drop_by e m (first_drop s k v es))
      (mark-same e (λ q m. alike q (IsAmong-left (asks s e) (flat_map (asks s) es) q m)))
      ∙ ap (drop_by e (mark s l w e))
      (drop-same es (λ q m. alike q (IsAmong-right (asks s e) (flat_map (asks s) es) q m)))

  pub others-same : (o : Option Check) → ((q : List ℕ) → IsAmong (named s o) q → AreAlikeAt k v l w q) →
      verdict_checked s k v o ≡ verdict_checked s l w o
  others-same None alike = refl
  others-same (Some c) alike = verdict-same c.entries alike

-- What waits

module _ (s : Sources) (k : Checks) (v : Verdicts) (a : Ask) where
  -- the answer to a path isn't against its verdict: what is kept has no other file, and what waits has no answer
  pub record LacksAt (q : List ℕ) : Type 0 where
    pub kept : (c : Check) → k q ≡ Some c → v q ≡ Some Keeps → (a q ≡ None) ⊎ (a q ≡ Some (Built c.file))
    pub waits : (c : Check) → k q ≡ Some c → v q ≡ None → a q ≡ None

  holds-lacks : (e : BookEntry) → mark s k v e ≡ Holds → ((q : List ℕ) → IsAmong (asks s e) q → LacksAt q) →
      (standing s a e ≡ lacks) ⊎ (standing s a e ≡ stands)
  holds-lacks (Change state x) h lack = elim (cases_Bool (is_asked s x)) [
    | inl t ↦
        let is = asked-holds (s.has_rule x) state (k x) (v x) (rw t at h) in
        elim ((lack x (among-asks s state x t)).kept is.check is.at is.keeps) [
          | inl none ↦ inl (rw (t, none) refl)
          | inr some ↦ inr (rw (t, some) (ap stands_if is.agrees))
        ]
    | inr f ↦ inr (rw f (ap stands_if (holds_if-holds (has_state state (source_file s x)) (rw f at h))))
  ]
  holds-lacks (Create x) h lack = inr (ap stands_if (holds_if-holds (s.is_free x) h))
  holds-lacks Always h lack = absurd cc

  waits-lacks : (e : BookEntry) → mark s k v e ≡ Waits → ((q : List ℕ) → IsAmong (asks s e) q → LacksAt q) →
      standing s a e ≡ lacks
  waits-lacks (Change state x) h lack = elim (cases_Bool (is_asked s x)) [
    | inl t ↦
        let is = asked-waits (s.has_rule x) state (k x) (v x) (rw t at h) in
        rw (t, (lack x (among-asks s state x t)).waits is.0.0 is.0.1 is.1) refl
    | inr f ↦ absurd (holds_if-waits (has_state state (source_file s x)) (rw f at h))
  ]
  waits-lacks (Create x) h lack = absurd (holds_if-waits (s.is_free x) h)
  waits-lacks Always h lack = absurd cc

  -- where there is no verdict a check waits
  pub none-lacks : (es : List BookEntry) → verdict s k v es ≡ None →
      ((q : List ℕ) → IsAmong (finding s a es).asked q → LacksAt q) → (finding s a es).standing ≡ lacks
  none-lacks [] h lack = absurd (let bad : Some Keeps ≡ None = h in cc)
  none-lacks (e ∷ es) h lack =
      let first = at-first s a LacksAt e es lack in
      elim (none-by (mark s k v e) (verdict s k v es) h) [
        | inl later ↦ elim (holds-lacks e later.0 first) [
          | inl l ↦ rw l refl
          | inr t ↦ rw t (none-lacks es later.1 (at-later s a LacksAt e es lack t))
        ]
        | inr waits ↦ let lacking = waits-lacks e waits first in rw lacking refl
      ]

-- The first entry that drops is the first that fell, where the verdict is that the script is begun

module _ (s : Sources) (k : Checks) (v : Verdicts) (a : Ask) where
  pub begins-first : (es : List BookEntry) → verdict s k v es ≡ Some Begins →
      ((q : List ℕ) → IsAmong (finding s a es).asked q → FitsAt s k v a q) → first_fallen s a es ≡ first_drop s k v es
  begins-first [] h fits = refl
  begins-first (e ∷ es) h fits =
      let first = at-first s a (FitsAt s k v a) e es fits in
      elim (begins-by (mark s k v e) (verdict s k v es) h) [
        | inl later ↦
            let here = holds-stands s k v a e later.0 first in
            rw (here, later.0) (begins-first es later.1 (at-later s a (FitsAt s k v a) e es fits here))
        | inr drops ↦ let fell = drops-falls s k v a e drops first in rw (fell, drops) refl
      ]

module _ (s : Sources) (k : Checks) (v : Verdicts) where
  drop-some : (e : BookEntry) (m : Mark) (rest : Option BookEntry) → (m ≡ Drops) ⊎ ((d : BookEntry) × (rest ≡ Some d)) →
      (d : BookEntry) × (drop_by e m rest ≡ Some d)
  drop-some e Drops rest some = (e, refl)
  drop-some e _ rest some = elim some [ inl bad ↦ absurd cc | inr later ↦ later ]

  -- some entry drops where the verdict is that the script is begun
  pub begins-drop : (es : List BookEntry) → verdict s k v es ≡ Some Begins →
      (d : BookEntry) × (first_drop s k v es ≡ Some d)
  begins-drop [] h = absurd (let bad : Some Keeps ≡ Some Begins = h in cc)
  begins-drop (e ∷ es) h = drop-some e (mark s k v e) (first_drop s k v es)
      (elim (begins-by (mark s k v e) (verdict s k v es) h) [
        | inl later ↦ inr (begins-drop es later.1)
        | inr drops ↦ inl drops
      ])

-- what is begun by its verdict falls in the check
pub begins-falls : (s : Sources) (k : Checks) (v : Verdicts) (a : Ask) (es : List BookEntry) →
    verdict s k v es ≡ Some Begins → ((q : List ℕ) → IsAmong (finding s a es).asked q → FitsAt s k v a q) →
    (finding s a es).standing ≡ falls
begins-falls s k v a es h fits =
    let drop = begins-drop s k v es h in
    first-falls-all s a es drop.0 (begins-first s k v a es h fits ∙ drop.1)

-- Where the verdict is that it may be either, an entry hangs on a script

-- begun by its verdict, or maybe
abbrev pub IsOpenVerdict : Option Verdict → Type 0
IsOpenVerdict v = (v ≡ Some Begins) ⊎ (v ≡ Some Either)

-- a path with a rule that is in no check, or is begun by its verdict, or may be
pub record IsUnsureAt (s : Sources) (k : Checks) (v : Verdicts) (q : List ℕ) : Type 0 where
  pub target : is_asked s q ≡ true
  pub why : ((k q ≡ None) × (s.has_rule q ≡ true)) ⊎ (((c : Check) × (k q ≡ Some c)) × IsOpenVerdict (v q))

asked-unsure : (ruled : Bool) (state : State) (o : Option Check) (v : Option Verdict) →
    mark_asked ruled state o v ≡ Unsure →
    ((o ≡ None) × (ruled ≡ true)) ⊎ (((c : Check) × (o ≡ Some c)) × IsOpenVerdict v)
asked-unsure true state None v e = inl (refl, refl)
asked-unsure ruled state (Some c) (Some Keeps) e = absurd (holds_if-unsure (same_state (state_of c.file) state) e)
asked-unsure ruled state (Some c) (Some Begins) e = inr ((c, refl), inl refl)
asked-unsure ruled state (Some c) (Some Either) e = inr ((c, refl), inr refl)
asked-unsure _ state _ _ e = absurd cc

module _ (s : Sources) (k : Checks) (v : Verdicts) where
  mark-unsure : (e : BookEntry) → mark s k v e ≡ Unsure →
      (q : List ℕ) × IsAmong (asks s e) q × IsUnsureAt s k v q × (q ≡ entry_path e)
  mark-unsure (Change state x) h = elim (cases_Bool (is_asked s x)) [
    | inl t ↦
        let why = asked-unsure (s.has_rule x) state (k x) (v x) (rw t at h) in
        (x, among-asks s state x t, record { target = t; why = why }, refl)
    | inr f ↦ absurd (holds_if-unsure (has_state state (source_file s x)) (rw f at h))
  ]
  mark-unsure (Create x) h = absurd (holds_if-unsure (s.is_free x) h)
  mark-unsure Always h = absurd cc

  pub either-unsure : (es : List BookEntry) → verdict s k v es ≡ Some Either →
      (q : List ℕ) × IsAmong (flat_map (asks s) es) q × IsUnsureAt s k v q × (q ≡ first_unsure s k v es)
  either-unsure [] h = absurd (let bad : Some Keeps ≡ Some Either = h in cc)
  either-unsure (e ∷ es) h = elim (either-by (mark s k v e) (verdict s k v es) h) [
    | inl both ↦
        let later = either-unsure es both.1 in (
          later.0,
          IsAmong-right (asks s e) (flat_map (asks s) es) later.0 later.1,
          later.2,
          later.3 ∙ sym (ap (λ m. unsure_by e m (first_unsure s k v es)) both.0),
        )
    | inr unsure ↦
        let found = mark-unsure e unsure in (
          found.0,
          IsAmong-left (asks s e) (flat_map (asks s) es) found.0 found.1,
          found.2,
          found.3 ∙ sym (ap (λ m. unsure_by e m (first_unsure s k v es)) unsure),
        )
  ]
