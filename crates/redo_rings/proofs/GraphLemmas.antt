-- What cyclic targets ask for, by numbers.
use Rattle.std.proofs.Common.{◌≡◌, ◌∙◌, ◌+◌, ◌<◌, ◌≢◌, set, ◌&&◌, ◌||◌, inl, inr, ℕ, zero, suc, Bool, true, false, List, [], ◌∷◌, ◌++◌, Option, Some, None, refl, sym, ap, subst, arith, length, take, map, filter, slice_get, cond, append-nil, true≢false}
use Rattle.std.specs.Prelude.{Contains, slice_index_or}
use Rattle.std.proofs.lemmas.Bool.{and_parts, cases_Bool, cond_both, or_cases}
use Rattle.std.proofs.lemmas.List.{get_or-set_same, length-set, map-append, take_more}
use Rattle.std.proofs.lemmas.List.Elements.{Contains-append_right, filter-append, filter_map-append, filter_more}
use Rattle.std.proofs.lemmas.Option.{slice_get-get_or}
use Rattle.std.specs.Str.{bytes_eq}
use Rattle.redo_names.specs.Paths.{AreDistinct, IsAmong, is_among}
use Rattle.redo_names.proofs.PathLemmas.{is_among-append, or-false, place-among, told-absent, told-among}
use Rattle.std.proofs.lemmas.Slice.Eq.{bytes_eq-Decides}
use Rattle.redo_record.specs.Progress.{changed, changes}
use Rattle.redo_record.specs.declared.deps.Dep.{Dep}
use Rattle.redo_report.specs.declared.report.Row.{Row}
use Rattle.redo_rings.specs.Rings.{is_cyclic}
use Rattle.redo_rings.specs.inside.Graph.{IsNumbering, asks_at, cyclic_among}
use Rattle.redo_rings.specs.declared.graph.Asks.{Asks}

-- one row, if it is cyclic
row-tells : (b : Bool) (row : Row) (p : List ℕ) → is_among (map (λ (r : Row). r.path) (cond b (row ∷ []) [])) p ≡ (b && bytes_eq row.path p)
row-tells true row p = or-false (bytes_eq row.path p)
row-tells false row p = refl

pub cyclic-more : (rows : List Row) (i : ℕ) (row : Row) (p : List ℕ) → i < length rows → row ≡ slice_index_or rows i row →
    is_among (map (λ (r : Row). r.path) (cyclic_among (take (i + 1) rows))) p
    ≡ (is_among (map (λ (r : Row). r.path) (cyclic_among (take i rows))) p || (is_cyclic row.outcome && bytes_eq row.path p))
cyclic-more rows i row p under is =
    let paths = λ (rs : List Row). map (λ (r : Row). r.path) rs in
    let here = slice_index_or rows i row in
    ap (λ rs. is_among (paths rs) p) (filter_more (λ (r : Row). is_cyclic r.outcome) rows i row under)
    ∙ ap (λ ps. is_among ps p) (map-append (λ (r : Row). r.path) (cyclic_among (take i rows)) (cyclic_among (here ∷ [])))
    ∙ is_among-append (paths (cyclic_among (take i rows))) (paths (cyclic_among (here ∷ []))) p
    ∙ ap (λ r. is_among (paths (cyclic_among (take i rows))) p || is_among (paths (cyclic_among (r ∷ []))) p) (sym is)
    ∙ ap (λ b. is_among (paths (cyclic_among (take i rows))) p || b) (row-tells (is_cyclic row.outcome) row p)

module _ (names : List (List ℕ)) where
  abbrev shown : List ℕ → List (Option (List ℕ))
  shown ns = map (slice_get names) ns

  abbrev kept : List (List ℕ) → List (Option (List ℕ))
  kept ps = map (λ (p : List ℕ). Some p) (filter (is_among names) ps)

  pub asked-there : (numbers : List ℕ) (n : ℕ) (p : List ℕ) → slice_get names n ≡ Some p →
      shown (numbers ++ n ∷ []) ≡ shown numbers ++ kept (p ∷ [])
  asked-there numbers n p at =
      let told : is_among names p ≡ true = told-among names p (place-among names n p at) in
      rw told (map-append (slice_get names) numbers (n ∷ []) ∙ ap (λ o. shown numbers ++ o ∷ []) at)

  pub asked-absent : (numbers : List ℕ) (p : List ℕ) → (IsAmong names p → ⊥) → shown numbers ≡ shown numbers ++ kept (p ∷ [])
  asked-absent numbers p absent =
      let told : is_among names p ≡ false = told-absent names p absent in
      rw told (sym (append-nil (shown numbers)))

  -- one entry more
  pub asked-more : (deps : List Dep) (i : ℕ) (d : Dep) → i < length deps → d ≡ slice_index_or deps i d →
      kept (changes (take (i + 1) deps)) ≡ kept (changes (take i deps)) ++ kept (changes (d ∷ []))
  asked-more deps i d under is =
      let here = slice_index_or deps i d in
      ap (λ ds. kept (changes ds)) (take_more deps i d under)
      ∙ ap kept (filter_map-append (λ (e : Dep). changed e.kind e.path) (take i deps) (here ∷ []))
      ∙ ap (map (λ (p : List ℕ). Some p)) (filter-append (is_among names) (changes (take i deps)) (changes (here ∷ [])))
      ∙ map-append (λ (p : List ℕ). Some p) (filter (is_among names) (changes (take i deps))) (filter (is_among names) (changes (here ∷ [])))
      ∙ ap (λ e. kept (changes (take i deps)) ++ kept (changes (e ∷ []))) (sym is)

-- a path has one number
pub one-number : (names : List (List ℕ)) (m n : ℕ) (p : List ℕ) → AreDistinct names → slice_get names m ≡ Some p → slice_get names n ≡ Some p → m ≡ n
one-number [] m n p distinct a b = absurd (let bad : None ≡ Some p = a in cc)
one-number (q ∷ qs) zero zero p distinct a b = refl
one-number (q ∷ qs) zero (suc n) p distinct a b =
    let same : q ≡ p = cc in
    absurd (distinct.0 (subst (IsAmong qs) (sym same) (place-among qs n p b)))
one-number (q ∷ qs) (suc m) zero p distinct a b =
    let same : q ≡ p = cc in
    absurd (distinct.0 (subst (IsAmong qs) (sym same) (place-among qs m p a)))
one-number (q ∷ qs) (suc m) (suc n) p distinct a b = ap suc (one-number qs m n p distinct.1 a b)

module _ {A : Type 0} where
  pub set-get : (xs : List A) (i : ℕ) (x : A) → i < length xs → slice_get (set xs i x) i ≡ Some x
  set-get xs i x under =
      let within : i < length (set xs i x) = let h = length-set xs i x in omega (arith, h) in
      slice_get-get_or (set xs i x) i x within ∙ ap (λ y. Some y) (get_or-set_same xs i x x under)

  pub set-other : (xs : List A) (i k : ℕ) (x : A) → k ≢ i → slice_get (set xs i x) k ≡ slice_get xs k
  set-other [] i k x other = refl
  set-other (y ∷ xs) zero zero x other = absurd (other refl)
  set-other (y ∷ xs) zero (suc k) x other = refl
  set-other (y ∷ xs) (suc i) zero x other = refl
  set-other (y ∷ xs) (suc i) (suc k) x other = set-other xs i k x (λ same. other (ap suc same))

pub contains-cyclic : (rows : List Row) (i : ℕ) (row : Row) → i < length rows → row ≡ slice_index_or rows i row → is_cyclic row.outcome ≡ true → Contains (cyclic_among rows) row
contains-cyclic [] i row under is cyclic = absurd (omega (arith, under))
contains-cyclic (r ∷ rows) zero row under is cyclic =
    let here : is_cyclic r.outcome ≡ true = ap (λ (x : Row). is_cyclic x.outcome) (sym is) ∙ cyclic in
    rw here (0, omega arith, sym is)
contains-cyclic (r ∷ rows) (suc i) row under is cyclic =
    let rest = contains-cyclic rows i row (omega (arith, under)) is cyclic in
    cond_both (is_cyclic r.outcome) (r ∷ cyclic_among rows) (cyclic_among rows) (λ l. Contains l row)
    (λ _. Contains-append_right (r ∷ []) (cyclic_among rows) row rest) (λ _. rest)

-- one row more whose asked numbers are noted
module _ (names : List (List ℕ)) (rows : List Row) (table new : List Asks) (i : ℕ) (row : Row) (under : i < length rows)
    (is : row ≡ slice_index_or rows i row)
    (here : (k : ℕ) → is_cyclic row.outcome ≡ true → slice_get names k ≡ Some row.path → IsNumbering names (asks_at new k) row)
    (others : (k : ℕ) → (slice_get names k ≡ Some row.path → ⊥) → asks_at new k ≡ asks_at table k)
    (source : is_cyclic row.outcome ≡ false → new ≡ table) where
  abbrev HasAsked : ℕ → List ℕ → List Asks → Type 0
  HasAsked k p noted = (r : Row) × Contains (cyclic_among rows) r × (r.path ≡ p) × IsNumbering names (asks_at noted k) r

  unchanged : (k : ℕ) (p : List ℕ) → slice_get names k ≡ Some p → (is_cyclic row.outcome && bytes_eq row.path p) ≡ false → asks_at new k ≡ asks_at table k
  unchanged k p at not = elim (cases_Bool (is_cyclic row.outcome)) [
    | inr no_ring ↦ ap (λ t. asks_at t k) (source no_ring)
    | inl cyclic ↦ others k (λ same.
        let one : row.path ≡ p = cc in
        true≢false (sym ((bytes_eq-Decides row.path p).1 one) ∙ (rw cyclic at not)))
  ]

  pub asks-step : ((k : ℕ) (p : List ℕ) → slice_get names k ≡ Some p →
      is_among (map (λ (r : Row). r.path) (cyclic_among (take i rows))) p ≡ true → HasAsked k p table) →
      (k : ℕ) (p : List ℕ) → slice_get names k ≡ Some p →
      is_among (map (λ (r : Row). r.path) (cyclic_among (take (i + 1) rows))) p ≡ true → HasAsked k p new
  asks-step before k p at told =
      elim (cases_Bool (is_cyclic row.outcome && bytes_eq row.path p)) [
        | inl new_row ↦
            let both = and_parts (is_cyclic row.outcome) (bytes_eq row.path p) new_row in
            let same : row.path ≡ p = (bytes_eq-Decides row.path p).0 both.1 in
            (row, contains-cyclic rows i row under is both.0, same, here k both.0 (at ∙ ap (λ (q : List ℕ). Some q) (sym same)))
        | inr not ↦
            let old : HasAsked k p table = elim (or_cases (is_among (map (λ (r : Row). r.path) (cyclic_among (take i rows))) p)
            (is_cyclic row.outcome && bytes_eq row.path p) (sym (cyclic-more rows i row p under is) ∙ told)) [
              | inl was ↦ before k p at was
              | inr new_row ↦ absurd (true≢false (sym new_row ∙ not))
            ] in
            (old.0, old.1, old.2, subst (λ ns. IsNumbering names ns old.0) (sym (unchanged k p at not)) old.3)
      ]
