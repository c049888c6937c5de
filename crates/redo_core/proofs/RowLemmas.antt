-- What the rows of a report say together, and their paths in order.
use Rattle.std.proofs.Common.{◌≡◌, ℕ, Bool, true, false, ◌⊎◌, inl, inr, List, [], ◌∷◌, ◌++◌}
use Rattle.std.proofs.Common.{map, if◌then◌else◌, Some, refl, sym, ap, subst, ◌∙◌}
use Rattle.std.proofs.lemmas.Bool.{cases_Bool}
use Rattle.std.proofs.lemmas.Grind.{flat_map-append}
use Rattle.std.proofs.lemmas.List.{append-nil, append_assoc}
use Rattle.std.proofs.lemmas.List.Elements.{All-nil, All-cons}
use Rattle.std.proofs.lemmas.List.Kept.{IsStrictlySortedBy-dedup}
use Rattle.std.proofs.lemmas.List.Sorted.{Contains-permutation, IsPermutation-sym}
use Rattle.std.proofs.lemmas.Map.Text.{is_eq-slice_cmp}
use Rattle.std.proofs.lemmas.Slice.Eq.{bytes_eq-Decides}
use Rattle.std.specs.Cmp.Lexicographic.{on_texts, slice_cmp}
use Rattle.std.specs.List.{AllByRecursion, dedup, dedup_from}
use Rattle.std.specs.List.Sorted.{IsPermutation, IsSorted, IsStrictlySortedBy}
use Rattle.std.specs.Ordering.{nat_cmp, eq_by_cmp}
use Rattle.std.specs.Prelude.{All, ◌↔◌, is_some}
use Rattle.std.specs.declared.cmp.Ordering.{Ordering}
use Rattle.std.specs.declared.cmp.Ordering.TheVariants.{Less}
use Rattle.redo_names.proofs.ListLemmas.{IsAmong-append, IsAmong-left, IsAmong-right, filter-from, filter-passes}
use Rattle.redo_record.specs.declared.outcome.Outcome.{Outcome}
use Rattle.redo_record.specs.declared.outcome.Outcome.TheVariants.{Built}
use Rattle.redo_record.specs.Paths.{IsAmong}
use Rattle.redo_core.specs.inside.Slots.{Table, GivenView}
use Rattle.redo_core.specs.inside.Reported.{AreRowsOf, IsRowOf, file_of, row_files, row_begun, sources_among}
use Rattle.redo_report.specs.declared.report.Row.{Row}
use Rattle.redo_core.proofs.OrderLemmas.{IsBefore, AreSorted, sorted-ascending}
use Rattle.redo_build.proofs.QueueLemmas.{filter-keeps}
use Rattle.redo_past.proofs.ItemLemmas.{IsItem, contained-item, item-contained}
use Rattle.redo_report.specs.Reports.{AreAscending}
use Rattle.redo_tree.specs.Tree.{Tree, file_at}

pub all_rows : {X : Type 0} (P : X → Type 0) (xs : List X) → AllByRecursion P xs → All P xs
all_rows P [] h = All-nil P
all_rows P (x ∷ xs) h = All-cons P x xs h.0 (all_rows P xs h.1)

module _ {X : Type 0} (key : X → List ℕ) where
  pub key-among : (xs : List X) (x : X) → IsItem xs x → IsAmong (map key xs) (key x)
  key-among [] x m = absurd m
  key-among (y ∷ xs) x m = elim m [ inl here ↦ inl (ap key here) | inr later ↦ inr (key-among xs x later) ]

  pub among-key : (xs : List X) (p : List ℕ) → IsAmong (map key xs) p → (x : X) × IsItem xs x × (key x ≡ p)
  among-key [] p m = absurd m
  among-key (y ∷ xs) p m = elim m [
    | inl here ↦ (y, inl refl, here)
    | inr later ↦ let found = among-key xs p later in (found.0, inr found.1, found.2)
  ]

-- One row more

module _ (given : GivenView) (t : Table) where
  pub rows-added : (rows : List Row) (bits : List Bool) (row : Row) (bit : Bool) → AreRowsOf given t rows bits → IsRowOf given t row bit →
      AreRowsOf given t (rows ++ row ∷ []) (bits ++ bit ∷ [])
  rows-added [] [] row bit h is = (is, tt)
  rows-added (x ∷ rows) (b ∷ bits) row bit h is = (h.0, rows-added rows bits row bit h.1 is)
  rows-added _ _ row bit h is = absurd h

  pub begun-added : (rows : List Row) (bits : List Bool) (row : Row) (bit : Bool) → AreRowsOf given t rows bits →
      row_begun (rows ++ row ∷ []) (bits ++ bit ∷ []) ≡ row_begun rows bits ++ (if bit then row.path ∷ [] else [])
  begun-added [] [] row bit h = append-nil (if bit then row.path ∷ [] else [])
  begun-added (x ∷ rows) (b ∷ bits) row bit h =
      let first : List (List ℕ) = if b then x.path ∷ [] else [] in
      ap (λ ps. first ++ ps) (begun-added rows bits row bit h.1)
      ∙ sym (append_assoc first (row_begun rows bits) (if bit then row.path ∷ [] else []))
  begun-added _ _ row bit h = absurd h

  -- what is true of each row
  pub rows-all : (Q : Row → Type 0) (rows : List Row) (bits : List Bool) → AreRowsOf given t rows bits →
      ((row : Row) (bit : Bool) → IsItem rows row → IsRowOf given t row bit → Q row) → AllByRecursion Q rows
  rows-all Q [] bits h f = tt
  rows-all Q (x ∷ rows) [] h f = absurd h
  rows-all Q (x ∷ rows) (b ∷ bits) h f = (f x b (inl refl) h.0, rows-all Q rows bits h.1 (λ row bit m is. f row bit (inr m) is))

  -- a path that is listed as begun is that of a row whose script was begun
  pub begun-from : (Q : List ℕ → Type 0) (rows : List Row) (bits : List Bool) → AreRowsOf given t rows bits →
      ((row : Row) → IsItem rows row → IsRowOf given t row true → Q row.path) → (p : List ℕ) → IsAmong (row_begun rows bits) p → Q p
  begun-from Q [] bits h f p m = absurd m
  begun-from Q (x ∷ rows) [] h f p m = absurd h
  begun-from Q (x ∷ rows) (true ∷ bits) h f p m = elim m [
    | inl here ↦ subst Q here (f x (inl refl) h.0)
    | inr later ↦ begun-from Q rows bits h.1 (λ row i is. f row (inr i) is) p later
  ]
  begun-from Q (x ∷ rows) (false ∷ bits) h f p m = begun-from Q rows bits h.1 (λ row i is. f row (inr i) is) p m

  -- each such row has its path there
  pub begun-to : (rows : List Row) (bits : List Bool) → AreRowsOf given t rows bits → (row : Row) → IsItem rows row →
      ((bit : Bool) → IsRowOf given t row bit → bit ≡ true) → IsAmong (row_begun rows bits) row.path
  begun-to [] bits h row m f = absurd m
  begun-to (x ∷ rows) [] h row m f = absurd h
  begun-to (x ∷ rows) (true ∷ bits) h row m f = elim m [
    | inl here ↦ inl (ap (λ (y : Row). y.path) here)
    | inr later ↦ inr (begun-to rows bits h.1 row later f)
  ]
  begun-to (x ∷ rows) (false ∷ bits) h row m f = elim m [
    | inl here ↦
        let P : Row → Type 0 = λ y. IsRowOf given t y false in
        let bad : false ≡ true = f false (subst P here h.0) in
        cc
    | inr later ↦ begun-to rows bits h.1 row later f
  ]

begun-paths : (rows : List Row) (bits : List Bool) (p : List ℕ) → IsAmong (row_begun rows bits) p → IsAmong (map (λ row. row.path) rows) p
begun-paths (x ∷ rows) (true ∷ bits) p m = elim m [ inl here ↦ inl here | inr later ↦ inr (begun-paths rows bits p later) ]
begun-paths (x ∷ rows) (false ∷ bits) p m = inr (begun-paths rows bits p m)
begun-paths _ _ p m = absurd m

pub begun-sorted : (rows : List Row) (bits : List Bool) → AreSorted (map (λ row. row.path) rows) → AreSorted (row_begun rows bits)
begun-sorted (x ∷ rows) (true ∷ bits) s = (λ q m. s.0 q (begun-paths rows bits q m), begun-sorted rows bits s.1)
begun-sorted (x ∷ rows) (false ∷ bits) s = begun-sorted rows bits s.1
begun-sorted _ _ s = tt

pub files-added : (rows : List Row) (row : Row) → row_files (rows ++ row ∷ []) ≡ row_files rows ++ file_of row.path row.outcome
files-added rows row =
    flat_map-append (λ x. file_of x.path x.outcome) rows (row ∷ [])
    ∙ ap (λ fs. row_files rows ++ fs) (append-nil (file_of row.path row.outcome))

-- Paths in order, each once

module _ {X : Type 0} (key : X → List ℕ) where
  -- a list in another order has the same keys
  permuted-among : (xs ys : List X) (p : List ℕ) → IsPermutation xs ys → IsAmong (map key xs) p → IsAmong (map key ys) p
  permuted-among xs ys p same m =
      let found = among-key key xs p m in
      let there = contained-item ys found.0 (Contains-permutation xs ys found.0 same (item-contained xs found.0 found.1)) in
      let P : List ℕ → Type 0 = IsAmong (map key ys) in
      subst P found.2 (key-among key ys found.0 there)

  module _ (same : X → X → Bool) (alike : (x y : X) → same x y ≡ true → key x ≡ key y) where
    -- a list without doubles has the same keys
    kept-from : (k : X) (xs : List X) (p : List ℕ) → IsAmong (map key (k ∷ xs)) p → IsAmong (map key (dedup_from same k xs)) p
    kept-from k [] p m = m
    kept-from k (x ∷ xs) p m = elim (cases_Bool (same x k)) [
      | inl t ↦ rw t (kept-from k xs p (elim m [
        | inl here ↦ inl here
        | inr rest ↦ elim rest [ inl next ↦ inl (sym (alike x k t) ∙ next) | inr later ↦ inr later ]
      ]))
      | inr f ↦ rw f (elim m [ inl here ↦ inl here | inr rest ↦ inr (kept-from x xs p rest) ])
    ]

    from-kept : (k : X) (xs : List X) (p : List ℕ) → IsAmong (map key (dedup_from same k xs)) p → IsAmong (map key (k ∷ xs)) p
    from-kept k [] p m = m
    from-kept k (x ∷ xs) p m = elim (cases_Bool (same x k)) [
      | inl t ↦ elim (from-kept k xs p (rw t at m)) [ inl here ↦ inl here | inr later ↦ inr (inr later) ]
      | inr f ↦ elim (rw f at m) [ inl here ↦ inl here | inr rest ↦ inr (from-kept x xs p rest) ]
    ]

    kept-keys : (xs : List X) (p : List ℕ) → IsAmong (map key xs) p → IsAmong (map key (dedup same xs)) p
    kept-keys [] p m = m
    kept-keys (x ∷ xs) p m = kept-from x xs p m

    keys-kept : (xs : List X) (p : List ℕ) → IsAmong (map key (dedup same xs)) p → IsAmong (map key xs) p
    keys-kept [] p m = m
    keys-kept (x ∷ xs) p m = from-kept x xs p m

  -- the order by the keys
  abbrev by_key : X → X → Ordering
  by_key x y = slice_cmp nat_cmp (key x) (key y)

  key-before : (x : X) (ys : List X) → AllByRecursion (λ y. by_key x y ≡ Less) ys → IsBefore (key x) (map key ys)
  key-before x [] h q m = absurd m
  key-before x (y ∷ ys) h q m = elim m [
    | inl here ↦ let P : List ℕ → Type 0 = λ p. slice_cmp nat_cmp (key x) p ≡ Less in subst P here h.0
    | inr later ↦ key-before x ys h.1 q later
  ]

  keys-sorted : (xs : List X) → IsStrictlySortedBy by_key xs → AreSorted (map key xs)
  unfolding IsStrictlySortedBy
  keys-sorted [] s = tt
  keys-sorted (x ∷ xs) s = (key-before x xs s.0, keys-sorted xs s.1)

  same_key : (x y : X) → eq_by_cmp by_key x y ≡ true → key x ≡ key y
  same_key x y e = (bytes_eq-Decides (key x) (key y)).0 (sym (is_eq-slice_cmp (key x) (key y)) ∙ e)

  module _ (same : X → X → Bool) (ties : (x y : X) → same x y ≡ eq_by_cmp by_key x y) where
    -- what a sort leaves without doubles has the same keys
    pub listed-among : (xs ys : List X) → IsPermutation xs ys → (p : List ℕ) → IsAmong (map key (dedup same ys)) p ↔ IsAmong (map key xs) p
    listed-among xs ys permuted p =
        let alike : (x y : X) → same x y ≡ true → key x ≡ key y = λ x y t. same_key x y (sym (ties x y) ∙ t) in (
          λ m. permuted-among ys xs p (IsPermutation-sym xs ys permuted) (keys-kept same alike ys p m),
          λ m. kept-keys same alike ys p (permuted-among xs ys p permuted m),
        )

    -- and has them in path order
    pub listed-ascending : (ys : List X) → IsSorted by_key ys → AreAscending (map key (dedup same ys))
    listed-ascending ys sorted =
        sorted-ascending (map key (dedup same ys)) (keys-sorted (dedup same ys) (IsStrictlySortedBy-dedup (on_texts key) ties ys sorted))

-- the targets and the sources among these are those that a report has
pub reported-from : (tree : Tree) (request targets : List (List ℕ)) (p : List ℕ) → IsAmong (targets ++ sources_among tree request) p →
    IsAmong targets p ⊎ (IsAmong request p × (is_some (file_at tree p) ≡ true))
reported-from tree request targets p m = elim (IsAmong-append targets (sources_among tree request) p m) [
  | inl target ↦ inl target
  | inr source ↦ let f : List ℕ → Bool = λ q. is_some (file_at tree q) in inr (filter-from f request p source, filter-passes f request p source)
]

pub reported-to : (tree : Tree) (request targets : List (List ℕ)) (p : List ℕ) → IsAmong targets p ⊎ (IsAmong request p × (is_some (file_at tree p) ≡ true)) →
    IsAmong (targets ++ sources_among tree request) p
reported-to tree request targets p m = elim m [
  | inl target ↦ IsAmong-left targets (sources_among tree request) p target
  | inr source ↦ IsAmong-right targets (sources_among tree request) p (filter-keeps (λ q. is_some (file_at tree q)) request p source.0 source.1)
]

-- Files

file_paths : (p : List ℕ) (o : Outcome) (fs : List (List ℕ × List ℕ)) (q : List ℕ) → IsAmong (map (λ f. f.0) (file_of p o ++ fs)) q → (p ≡ q) ⊎ IsAmong (map (λ f. f.0) fs) q
file_paths p (Built (Some bytes)) fs q m = m
file_paths p _ fs q m = inr m

file_sorted : (p : List ℕ) (o : Outcome) (fs : List (List ℕ × List ℕ)) → IsBefore p (map (λ f. f.0) fs) → AreSorted (map (λ f. f.0) fs) → AreSorted (map (λ f. f.0) (file_of p o ++ fs))
file_sorted p (Built (Some bytes)) fs b s = (b, s)
file_sorted p _ fs b s = s

files_paths : (rows : List Row) (q : List ℕ) → IsAmong (map (λ f. f.0) (row_files rows)) q → IsAmong (map (λ row. row.path) rows) q
files_paths [] q m = absurd m
files_paths (row ∷ rows) q m = elim (file_paths row.path row.outcome (row_files rows) q m) [
  | inl here ↦ inl here
  | inr later ↦ inr (files_paths rows q later)
]

pub files_sorted : (rows : List Row) → AreSorted (map (λ row. row.path) rows) → AreSorted (map (λ f. f.0) (row_files rows))
files_sorted [] s = tt
files_sorted (row ∷ rows) s = file_sorted row.path row.outcome (row_files rows) (λ q m. s.0 q (files_paths rows q m)) (files_sorted rows s.1)

file_cases : (p : List ℕ) (o : Outcome) (fs : List (List ℕ × List ℕ)) (f : List ℕ × List ℕ) → IsItem (file_of p o ++ fs) f → ((o ≡ Built (Some f.1)) × (p ≡ f.0)) ⊎ IsItem fs f
file_cases p (Built (Some bytes)) fs f m = elim m [
  | inl here ↦ inl (ap (λ (x : List ℕ × List ℕ). Built (Some x.1)) here, ap (λ (x : List ℕ × List ℕ). x.0) here)
  | inr later ↦ inr later
]
file_cases p _ fs f m = inr m

file_later : (p : List ℕ) (o : Outcome) (fs : List (List ℕ × List ℕ)) (f : List ℕ × List ℕ) → IsItem fs f → IsItem (file_of p o ++ fs) f
file_later p (Built (Some bytes)) fs f m = inr m
file_later p _ fs f m = m

-- each file is that of a row
pub file_row : (rows : List Row) (f : List ℕ × List ℕ) → IsItem (row_files rows) f → (row : Row) × IsItem rows row × (row.outcome ≡ Built (Some f.1)) × (row.path ≡ f.0)
file_row [] f m = absurd m
file_row (row ∷ rows) f m = elim (file_cases row.path row.outcome (row_files rows) f m) [
  | inl here ↦ (row, inl refl, here.0, here.1)
  | inr later ↦ let found = file_row rows f later in (found.0, inr found.1, found.2, found.3)
]

-- each row that was built with a file has it there
pub row_file : (rows : List Row) (row : Row) (bytes : List ℕ) → IsItem rows row → row.outcome ≡ Built (Some bytes) → IsItem (row_files rows) (row.path, bytes)
row_file [] row bytes m e = absurd m
row_file (x ∷ rows) row bytes m e = elim m [
  | inl here ↦
      let P : Outcome → Type 0 = λ o. IsItem (file_of x.path o ++ row_files rows) (row.path, bytes) in
      let is : x.outcome ≡ Built (Some bytes) = ap (λ (y : Row). y.outcome) here ∙ e in
      subst P (sym is) (inl (ap (λ (y : Row). (y.path, bytes)) here))
  | inr later ↦ file_later x.path x.outcome (row_files rows) (row.path, bytes) (row_file rows row bytes later e)
]
