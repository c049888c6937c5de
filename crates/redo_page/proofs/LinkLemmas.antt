-- The number of each row, and the targets of diagnoses, one more at a time.
use Rattle.std.proofs.Common.{◌≡◌, ◌∙◌, ◌+◌, ◌<◌, ℕ, zero, suc, Bool, true, false, ◌||◌, List, [], ◌∷◌, ◌++◌, Option}
use Rattle.std.proofs.Common.{Some, None}
use Rattle.std.proofs.Common.{refl, sym, ap, subst}
use Rattle.std.proofs.Common.{arith, inl, inr, length, length-take, slice_index_or, take}
use Rattle.std.proofs.lemmas.Bool.{cases_Bool}
use Rattle.std.proofs.lemmas.List.{map-append, take_more}
use Rattle.std.proofs.lemmas.Slice.Eq.{bytes_eq-Decides}
use Rattle.std.specs.Map.{lookup}
use Rattle.std.specs.Option.{option_or}
use Rattle.std.specs.Prelude.{Vec, bytes_eq, cond, if◌then◌else◌, is_some}
use Rattle.std.specs.declared.alloc.Global.{Global}
use Rattle.redo_names.proofs.PathLemmas.{is_among-last, is_among-with}
use Rattle.redo_names.specs.Paths.{is_among, with_path}
use Rattle.redo_record.proofs.SearchLemmas.{same_way}
use Rattle.redo_report.specs.declared.report.Row.{Row}
use Rattle.redo_diagnose.specs.declared.diagnosis.Diagnosis.{Diagnosis}
use Rattle.redo_page.specs.Pages.{numbered, row_of, users_from, users_of}
use Rattle.redo_page.specs.inside.Links.{number_in, targets_of, users_at}

-- a look-up with one pair more
pub looked-on : {V : Type 0} (q : List ℕ) (es : List (List ℕ × V)) (e : List ℕ × V) →
    lookup (bytes_eq q) (es ++ e ∷ []) ≡ option_or (lookup (bytes_eq q) es) (cond (bytes_eq q e.0) (Some e.1) None)
looked-on q [] e = refl
looked-on {V} q (x ∷ es) e =
    elim (bytes_eq q x.0) as (λ b. cond b (Some x.1) (lookup (bytes_eq q) (es ++ e ∷ [])) ≡
    option_or (cond b (Some x.1) (lookup (bytes_eq q) es)) (cond (bytes_eq q e.0) (Some e.1) None)) [
      | true ↦ refl
      | false ↦ looked-on q es e
    ]

-- The number of each row

or-none : (o : Option ℕ) → o ≡ option_or o None
or-none None = refl
or-none (Some n) = refl

numbered-more : (n : ℕ) (rows : List Row) (x : Row) → numbered n (rows ++ x ∷ []) ≡ numbered n rows ++ (x.path, n + length rows) ∷ []
numbered-more n [] x =
    let same : n ≡ n + 0 = omega arith in
    ap (λ (m : ℕ). (x.path, m) ∷ []) same
numbered-more n (r ∷ rows) x =
    let same : n + 1 + length rows ≡ n + length (r ∷ rows) = omega arith in
    ap (λ es. (r.path, n) ∷ es) (numbered-more (n + 1) rows x ∙ ap (λ (m : ℕ). numbered (n + 1) rows ++ (x.path, m) ∷ []) same)

-- the rows so far, with one more
row-more : (rows : List Row) (i : ℕ) (x : Row) (q : List ℕ) → i < length rows → x ≡ slice_index_or rows i x →
    row_of (take (i + 1) rows) q ≡ option_or (row_of (take i rows) q) (cond (bytes_eq q x.path) (Some i) None)
row-more rows i x q within is =
    ap (λ rs. row_of rs q) (take_more rows i x within)
    ∙ ap (λ y. row_of (take i rows ++ y ∷ []) q) (sym is)
    ∙ ap (lookup (bytes_eq q)) (numbered-more 0 (take i rows) x)
    ∙ looked-on q (numbered 0 (take i rows)) (x.path, 0 + length (take i rows))
    ∙ ap (λ (m : ℕ). option_or (row_of (take i rows) q) (cond (bytes_eq q x.path) (Some m) None)) (simp length-take (omega arith))

-- whether a number was found
none-there : (o : Option ℕ) (found : Bool) → found ≡ is_some o → found ≡ false → o ≡ None
none-there None found is none = refl
none-there (Some r) found is none = absurd (cc)

some-there : (o : Option ℕ) (found : Bool) → found ≡ is_some o → found ≡ true → (r : ℕ) × (o ≡ Some r)
some-there None found is there = absurd (cc)
some-there (Some r) found is there = (r, refl)

-- a row whose path has a number already
pub number-old : (rows : List Row) (i : ℕ) (x : Row) (numbers : List (List ℕ × ℕ)) (found : Bool) → i < length rows →
    x ≡ slice_index_or rows i x → ((q : List ℕ) → lookup (bytes_eq q) numbers ≡ row_of (take i rows) q) →
    found ≡ is_some (lookup (bytes_eq x.path) numbers) → found ≡ true →
    (q : List ℕ) → lookup (bytes_eq q) numbers ≡ row_of (take (i + 1) rows) q
number-old rows i x numbers found within is are tells there q =
    let some = some-there (lookup (bytes_eq x.path) numbers) found tells there in
    are q ∙ sym (row-more rows i x q within is ∙ elim (cases_Bool (bytes_eq q x.path)) [
      | inl t ↦
          let same : q ≡ x.path = (bytes_eq-Decides q x.path).0 t in
          let had : row_of (take i rows) q ≡ Some some.0 =
          sym (are q) ∙ subst (λ p. lookup (bytes_eq p) numbers ≡ Some some.0) (sym same) some.1 in
          rw had refl
      | inr f ↦ ap (λ b. option_or (row_of (take i rows) q) (cond b (Some i) None)) f ∙ sym (or-none (row_of (take i rows) q))
    ])

-- a row whose path has none yet
pub number-new : (rows : List Row) (i : ℕ) (x : Row) (old new : List (List ℕ × ℕ)) (copy : List ℕ) (found : Bool) → i < length rows →
    x ≡ slice_index_or rows i x → ((q : List ℕ) → lookup (bytes_eq q) old ≡ row_of (take i rows) q) →
    found ≡ is_some (lookup (bytes_eq x.path) old) → found ≡ false → copy ≡ x.path →
    ((q : List ℕ) → lookup (bytes_eq q) new ≡ (if bytes_eq copy q then Some i else lookup (bytes_eq q) old)) →
    (q : List ℕ) → lookup (bytes_eq q) new ≡ row_of (take (i + 1) rows) q
number-new rows i x old new copy found within is are tells missing copied put q =
    let none = none-there (lookup (bytes_eq x.path) old) found tells missing in
    put q ∙ ap (λ p. if bytes_eq p q then Some i else lookup (bytes_eq q) old) copied
    ∙ sym (row-more rows i x q within is ∙ elim (cases_Bool (bytes_eq q x.path)) [
      | inl t ↦
          let same : q ≡ x.path = (bytes_eq-Decides q x.path).0 t in
          let gone : row_of (take i rows) q ≡ None =
          sym (are q) ∙ subst (λ p. lookup (bytes_eq p) old ≡ None) (sym same) none in
          let turned : bytes_eq x.path q ≡ true = same_way x.path q ∙ t in
          rw (gone, t, turned) refl
      | inr f ↦
          let turned : bytes_eq x.path q ≡ false = same_way x.path q ∙ f in
          rw (f, turned) (sym (or-none (row_of (take i rows) q)) ∙ sym (are q))
    ])

-- The targets of diagnoses

-- one diagnosis more
pub target-more : (ds : List Diagnosis) (qs : List (List ℕ)) (i : ℕ) (x : Diagnosis) (copy p : List ℕ) → i < length ds →
    x ≡ slice_index_or ds i x → copy ≡ x.target → is_among qs p ≡ is_among (targets_of (take i ds)) p →
    is_among (with_path qs copy) p ≡ is_among (targets_of (take (i + 1) ds)) p
target-more ds qs i x copy p within is copied same =
    ap (λ c. is_among (with_path qs c) p) copied
    ∙ is_among-with qs x.target p ∙ ap (λ b. b || bytes_eq x.target p) same
    ∙ sym (is_among-last (targets_of (take i ds)) x.target p)
    ∙ ap (λ (l : List (List ℕ)). is_among l p) (sym (map-append (λ (d : Diagnosis). d.target) (take i ds) (x ∷ [])))
    ∙ ap (λ y. is_among (targets_of (take i ds ++ y ∷ [])) p) is
    ∙ ap (λ l. is_among (targets_of l) p) (sym (take_more ds i x within))

-- The rows that need each row

-- no list has a number yet
pub none-yet : (users : List (Vec ℕ Global)) → users ≡ [] → (m : ℕ) → users_at users m ≡ []
none-yet users is m = ap (λ us. users_at us m) is

-- one empty list more
pub empty-more : (users : List (Vec ℕ Global)) (new : Vec ℕ Global) → new.items ≡ [] → ((m : ℕ) → users_at users m ≡ []) →
    (m : ℕ) → users_at (users ++ new ∷ []) m ≡ []
empty-more [] new empty none zero = empty
empty-more [] new empty none (suc m) = refl
empty-more (u ∷ us) new empty none zero = none zero
empty-more (u ∷ us) new empty none (suc m) = empty-more us new empty (λ k. none (suc k)) m

-- the same rows by the numbers that were found
pub same-users : (numbers : List (List ℕ × ℕ)) (rows : List Row) (m : ℕ) → ((p : List ℕ) → lookup (bytes_eq p) numbers ≡ row_of rows p) →
    users_from (number_in numbers) m 0 rows ≡ users_of rows m
same-users numbers rows m same = ap (λ (found : List ℕ → Option ℕ). users_from found m 0 rows) (λ i path. same path i)
