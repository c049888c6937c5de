-- Which records go over into the new book.
use Rattle.std.proofs.Common.{◌≡◌, ◌&&◌, Bool, true, false, cond, not, ◌⊎◌, inl, inr, ℕ, List, [], ◌∷◌, Option, Some, None}
use Rattle.std.proofs.Common.{◌<◌, filter, length, slice_index_or, map, refl, sym, ap, subst, ◌∙◌}
use Rattle.std.specs.Bool.{beq}
use Rattle.std.proofs.lemmas.List.{length-map}
use Rattle.std.proofs.lemmas.Bool.{cases_Bool}
use Rattle.std.proofs.lemmas.Option.{slice_get-map, slice_get_read}
use Rattle.std.proofs.lemmas.Slice.Eq.{bytes_eq-Decides}
use Rattle.std.specs.Cmp.Lexicographic.{slice_cmp}
use Rattle.std.specs.List.Sorted.{IsStrictlySortedBy}
use Rattle.std.specs.Ordering.{nat_cmp}
use Rattle.std.specs.declared.cmp.Ordering.TheVariants.{Less}
use Rattle.std.specs.Prelude.{Contains, find, if◌then◌else◌, is_some, option_and_then, option_map, slice_get}
use Rattle.std.specs.Option.{option_eq}
use Rattle.std.specs.Str.{bytes_eq}
use Rattle.sha2.specs.Sha256.{sha256}
use Rattle.redo_path.proofs.ApartLemmas.{apart}
use Rattle.redo_names.specs.Paths.{is_among}
use Rattle.redo_digest.specs.Digest.{State, state_of}
use Rattle.redo_path.specs.Names.{parent_of}
use Rattle.redo_tree.specs.Tree.{Directory as Is_directory, File, Tree, bytes_of, file_at, node_at}
use Rattle.redo_which.specs.Rule.{chosen_of, found_of, is_rule}
use Rattle.redo_book.specs.declared.book.BookRecord.{BookRecord}
use Rattle.redo_book.specs.Book.{Record, record_at, record_of, targets_of}
use Rattle.redo_report.specs.declared.report.Row.{Row}
use Rattle.redo_past.specs.NewBook.{IsCarried, is_built, row_at}
use Rattle.redo_past.specs.Past.{IsPast, PastView, has_digest, intact_record, is_generated, set_aside}
use Rattle.redo_book.specs.Intact.{is_intact}
use Rattle.redo_tree.specs.Tree.{without}
use Rattle.redo_which.specs.Candidates.{book_path}
use Rattle.redo_past.specs.inside.Books.{carries, has_built, same_answer}
use Rattle.redo_past.proofs.ItemLemmas.{IsItem, contained-item, item-contained, item-mapped, kept-item, mapped-item}
use Rattle.redo_past.proofs.OrderLemmas.{before-all, never_before_itself, order, same_path}
use Rattle.redo_past.proofs.PastLemmas.{kept-directory}
use Rattle.redo_past.proofs.RowLemmas.{found-there}

pub both : (a b : Bool) → (a && b) ≡ true → (a ≡ true) × (b ≡ true)
both true b h = (refl, h)
both false b h = apart cc

pub was-not : (b : Bool) → not b ≡ true → b ≡ false
was-not true h = apart cc
was-not false h = refl

-- ---- what is found by its path

module _ {X : Type 0} (key : X → List ℕ) where
  -- of two items with one path each is the other
  pub one-item : (xs : List X) (x y : X) → IsStrictlySortedBy (slice_cmp nat_cmp) (map key xs) → IsItem xs x → IsItem xs y → key x ≡ key y → x ≡ y
  unfolding IsStrictlySortedBy
  one-item [] x y s m n e = absurd m
  one-item (z ∷ zs) x y s m n e = elim m [
    | inl here ↦ elim n [
      | inl there ↦ sym here ∙ there
      | inr later ↦
          let less : order (key z) (key y) ≡ Less = before-all (key z) (key y) (map key zs) s.0 (item-mapped key zs y later) in
          absurd (never_before_itself (key y) (subst (λ p. order p (key y) ≡ Less) (ap key here ∙ e) less))
    ]
    | inr later ↦ elim n [
      | inl there ↦
          let less : order (key z) (key x) ≡ Less = before-all (key z) (key x) (map key zs) s.0 (item-mapped key zs x later) in
          absurd (never_before_itself (key x) (subst (λ p. order p (key x) ≡ Less) (ap key there ∙ sym e) less))
      | inr behind ↦ one-item zs x y s.1 later behind e
    ]
  ]

  pub found-item : (xs : List X) (t : List ℕ) (x : X) → find (λ y. bytes_eq (key y) t) xs ≡ Some x → IsItem xs x × (key x ≡ t)
  found-item [] t x h = apart cc
  found-item (y ∷ ys) t x h = elim (cases_Bool (bytes_eq (key y) t)) [
    | inl here ↦
        let same : Some y ≡ Some x = rw here at h in
        let is : y ≡ x = cc in
        (inl is, ap key (sym is) ∙ same_path (key y) t here)
    | inr other ↦ let k = found-item ys t x (rw other at h) in (inr k.0, k.1)
  ]

  pub found-some : (xs : List X) (t : List ℕ) (x : X) → IsItem xs x → key x ≡ t → is_some (find (λ y. bytes_eq (key y) t) xs) ≡ true
  found-some [] t x m e = absurd m
  found-some (y ∷ ys) t x m e = elim (cases_Bool (bytes_eq (key y) t)) [
    | inl here ↦ rw here refl
    | inr other ↦ rw other (elim m [
      | inl here ↦ let bad : false ≡ true = sym other ∙ (bytes_eq-Decides (key y) t).1 (ap key here ∙ e) in apart cc
      | inr later ↦ found-some ys t x later e
    ])
  ]

-- ---- what was built

module _ (rows : List Row) (sorted : IsStrictlySortedBy (slice_cmp nat_cmp) (map (λ row. row.path) rows)) (t : List ℕ) where
  built-none : (o : Option Row) → row_at rows t ≡ o → has_built o ≡ false → (row : Row) → Contains rows row → row.path ≡ t → is_built row.outcome ≡ false
  built-none None is h row c e =
      let bad : true ≡ false = sym (found-some (λ (r : Row). r.path) rows t row (contained-item rows row c) e) ∙ ap is_some is in
      apart cc
  built-none (Some other) is h row c e =
      let found = found-item (λ (r : Row). r.path) rows t other is in
      let same : other ≡ row = one-item (λ (r : Row). r.path) rows other row sorted found.0 (contained-item rows row c) (found.1 ∙ sym e) in
      subst (λ (r : Row). is_built r.outcome ≡ false) same h

  none-built : (o : Option Row) → row_at rows t ≡ o → ((row : Row) → Contains rows row → row.path ≡ t → is_built row.outcome ≡ false) → has_built o ≡ false
  none-built None is h = refl
  none-built (Some row) is h =
      let found = found-item (λ (r : Row). r.path) rows t row is in
      h row (item-contained rows row found.0) found.1

-- ---- what has a rule

-- where a target has a rule nothing stands
pub rule-absent : (tree : Tree) (t : List ℕ) → is_rule (found_of tree t) ≡ true → node_at tree t ≡ None
rule-absent tree t h =
    (elim (node_at tree t) as (λ v. node_at tree t ≡ v → v ≡ None) [
      | None ↦ λ e. refl
      | Some node ↦ λ e. elim node as (λ n. node_at tree t ≡ Some n → Some n ≡ None) [
        | Is_directory ↦ λ k. let bad : true ≡ false = sym (rw (k, is_rule) at h) in apart cc
        | File bytes ↦ λ k. let bad : true ≡ false = sym (rw (k, is_rule) at h) in apart cc
      ] e
    ]) refl

-- of two trees, the second without some files of the first, only a file stands in the first
pub rule-file : (tree sources : Tree) (out : List (List ℕ)) (t : List ℕ) → sources ≡ without tree out → is_rule (found_of sources t) ≡ true → is_some (node_at tree t) ≡ is_some (file_at tree t)
rule-file tree sources out t same h =
    (elim (node_at tree t) as (λ v. node_at tree t ≡ v → is_some v ≡ is_some (option_and_then bytes_of v)) [
      | None ↦ λ e. refl
      | Some node ↦ λ e. elim node as (λ n. node_at tree t ≡ Some n → is_some (Some n) ≡ is_some (bytes_of n)) [
        | Is_directory ↦ λ k.
            let kept : node_at sources t ≡ Some Is_directory = ap (λ s. node_at s t) same ∙ kept-directory tree out t k in
            let none : node_at sources t ≡ None = rule-absent sources t h in
            let bad : Some Is_directory ≡ None = sym kept ∙ none in
            apart cc
        | File bytes ↦ λ k. refl
      ] e
    ]) refl

-- where no candidate is chosen there is none
no-choice : (tree : Tree) (t : List ℕ) → chosen_of tree t ≡ None → is_rule (found_of tree t) ≡ false
no-choice tree t none =
    (elim (node_at tree t) as (λ v. node_at tree t ≡ v → is_rule (found_of tree t) ≡ false) [
      | Some node ↦ λ e. elim node as (λ n. node_at tree t ≡ Some n → is_rule (found_of tree t) ≡ false) [
        | Is_directory ↦ λ k. rw (k, is_rule) refl
        | File bytes ↦ λ k. rw (k, is_rule) refl
      ] e
      | None ↦ λ e. (elim (option_and_then (node_at tree) (parent_of t)) as (λ u. option_and_then (node_at tree) (parent_of t) ≡ u → is_rule (found_of tree t) ≡ false) [
        | None ↦ λ g. rw (e, g, is_rule) refl
        | Some node ↦ λ g. elim node as (λ n. option_and_then (node_at tree) (parent_of t) ≡ Some n → is_rule (found_of tree t) ≡ false) [
          | Is_directory ↦ λ k. rw (e, k, none, is_rule) refl
          | File bytes ↦ λ k. rw (e, k, is_rule) refl
        ] g
      ]) refl
    ]) refl

-- and so there is none for the book
pub no-rule : (tree : Tree) → is_rule (found_of tree book_path) ≡ false
no-rule tree = no-choice tree book_path refl

-- ---- what stands as the last run left it

has-same : (file : Option (List ℕ)) (state : State) → has_digest file state ≡ true → (is_some file ≡ true) × (state_of file ≡ state)
has-same None state h = apart cc
has-same (Some bytes) None h = apart cc
has-same (Some bytes) (Some digest) h = (refl, ap Some (same_path (sha256 bytes) digest h))

among-item : (ps : List (List ℕ)) (p : List ℕ) → is_among ps p ≡ true → IsItem ps p
among-item [] p h = apart cc
among-item (q ∷ ps) p h = elim (cases_Bool (bytes_eq q p)) [
  | inl here ↦ inl (same_path q p here)
  | inr other ↦ inr (among-item ps p (rw other at h))
]

-- the file at a target is one that the last run made, or there is none
abbrev pub IsLeft : Tree → Record → Type 0
IsLeft tree r = (is_generated tree r ≡ true) ⊎ (file_at tree r.target ≡ None)

left-same : (file : Option (List ℕ)) (state : State) → (has_digest file state ≡ true) ⊎ (file ≡ None) → same_answer (is_some state) (is_some file) ≡ true → state_of file ≡ state
left-same file state (inl made) h = (has-same file state made).1
left-same file None (inr none) h = ap state_of none
left-same file (Some digest) (inr none) h = let bad : false ≡ true = ap is_some (sym none) ∙ h in apart cc

same-left : (file : Option (List ℕ)) (state : State) → state_of file ≡ state → same_answer (is_some state) (is_some file) ≡ true
same-left None None e = refl
same-left None (Some digest) e = apart cc
same-left (Some bytes) None e = apart cc
same-left (Some bytes) (Some digest) e = refl

-- so whether there is a file tells whether it stands so
same-intact : (file : Option (List ℕ)) (state : State) → (has_digest file state ≡ true) ⊎ (file ≡ None) → same_answer (is_some state) (is_some file) ≡ option_eq bytes_eq (state_of file) state
same-intact None state (inl made) = apart cc
same-intact (Some bytes) None (inl made) = apart cc
same-intact (Some bytes) (Some digest) (inl made) = sym made
same-intact None None (inr none) = refl
same-intact None (Some digest) (inr none) = refl
same-intact (Some bytes) state (inr none) = apart cc

-- which files the sources have
abbrev pub Without : PastView → Type 0
Without past =
    (p : List ℕ) → file_at (without past.tree (set_aside past.tree past.book)) p ≡ cond (is_among (set_aside past.tree past.book) p) None (file_at past.tree p)

module _ (past : PastView) (rows : List Row) (r : Record) where
  -- the file of a target with a rule is one that the last run made
  pub left-file : IsPast past → IsStrictlySortedBy (slice_cmp nat_cmp) (targets_of past.book) → Without past → ((tree : Tree) → is_rule (found_of tree book_path) ≡ false) → IsItem past.book r → is_rule (found_of past.sources r.target) ≡ true → IsLeft past.tree r
  left-file is sorted law no-rule known rule =
      let none : file_at past.sources r.target ≡ None = ap (option_and_then bytes_of) (rule-absent past.sources r.target rule) in
      let cut : cond (is_among (set_aside past.tree past.book) r.target) None (file_at past.tree r.target) ≡ None =
      sym (law r.target) ∙ ap (λ t. file_at t r.target) (sym is.sources) ∙ none in
      elim (cases_Bool (is_among (set_aside past.tree past.book) r.target)) [
        | inr out ↦ inr (rw out at cut)
        | inl aside ↦ elim (among-item (set_aside past.tree past.book) r.target aside) [
          | inl book ↦
              let bad : false ≡ true = sym (no-rule past.sources) ∙ ap (λ t. is_rule (found_of past.sources t)) book ∙ rule in
              apart cc
          | inr made ↦
              let of = mapped-item (λ (q : Record). q.target) (filter (is_generated past.tree) past.book) r.target made in
              let kept = kept-item (is_generated past.tree) past.book of.0 of.1 in
              let same : of.0 ≡ r = one-item (λ (q : Record). q.target) past.book of.0 r sorted kept.0 known of.2 in
              inl (subst (λ q. is_generated past.tree q ≡ true) same kept.1)
        ]
      ]

  -- whether the target of a record stands as the last run left it
  pub told-intact : IsPast past → IsStrictlySortedBy (slice_cmp nat_cmp) (targets_of past.book) → Without past → ((tree : Tree) → is_rule (found_of tree book_path) ≡ false) → IsItem past.book r → is_rule (found_of past.sources r.target) ≡ true → same_answer (is_some r.state) (is_some (file_at past.tree r.target)) ≡ is_intact (file_at past.tree) r
  told-intact is sorted law no-rule known rule = same-intact (file_at past.tree r.target) r.state (left-file is sorted law no-rule known rule)

  abbrev Sorted : Type 0
  Sorted = IsStrictlySortedBy (slice_cmp nat_cmp) (map (λ row. row.path) rows)

  pub carried : IsPast past → IsStrictlySortedBy (slice_cmp nat_cmp) (targets_of past.book) → Without past → ((tree : Tree) → is_rule (found_of tree book_path) ≡ false) → Sorted → IsItem past.book r → carries past rows r ≡ true → IsCarried past rows r
  carried is sorted law no-rule ascending known h =
      let file = file_at past.tree r.target in
      let first = both (same_answer (is_some r.state) (is_some file)) (not (has_built (row_at rows r.target)) && is_rule (found_of past.sources r.target)) h in
      let second = both (not (has_built (row_at rows r.target))) (is_rule (found_of past.sources r.target)) first.1 in
      record {
        known = item-contained past.book r known;
        rule = second.1;
        intact = left-same file r.state (left-file is sorted law no-rule known second.1) first.0;
        unbuilt = built-none rows ascending r.target (row_at rows r.target) refl (was-not (has_built (row_at rows r.target)) second.0);
      }

  pub carries-it : Sorted → IsCarried past rows r → carries past rows r ≡ true
  carries-it ascending c =
      let unbuilt : has_built (row_at rows r.target) ≡ false = none-built rows ascending r.target (row_at rows r.target) refl c.unbuilt in
      rw (same-left (file_at past.tree r.target) r.state c.intact, unbuilt, c.rule) refl

-- ---- the record of a target that stands as the last run left it

if-so : (f : Record → Bool) (o : Option Record) (r : Record) → o ≡ Some r → f r ≡ true → option_and_then (λ q. if f q then Some q else None) o ≡ Some r
if-so f o r is h = rw (is, h) refl

if-not : (f : Record → Bool) (o : Option Record) (r : Record) → o ≡ Some r → f r ≡ false → option_and_then (λ q. if f q then Some q else None) o ≡ None
if-not f o r is h = rw (is, h) refl

module _ (past : PastView) (t : List ℕ) (is : IsPast past) (sorted : IsStrictlySortedBy (slice_cmp nat_cmp) (targets_of past.book)) (law : Without past) (rule : is_rule (found_of past.sources t) ≡ true) where
  -- whether the record that was found is one
  found-intact : (r : Record) → record_at past.book t ≡ Some r → same_answer (is_some r.state) (is_some (file_at past.tree t)) ≡ is_intact (file_at past.tree) r
  found-intact r at =
      let found = found-item (λ (q : Record). q.target) past.book t r at in
      subst (λ p. same_answer (is_some r.state) (is_some (file_at past.tree p)) ≡ is_intact (file_at past.tree) r) found.1
      (told-intact past [] r is sorted law no-rule found.0 (subst (λ p. is_rule (found_of past.sources p) ≡ true) (sym found.1) rule))

  pub is-found : (r : Record) → record_at past.book t ≡ Some r → same_answer (is_some r.state) (is_some (file_at past.tree t)) ≡ true → intact_record past t ≡ Some r
  is-found r at h = if-so (is_intact (file_at past.tree)) (record_at past.book t) r at (sym (found-intact r at) ∙ h)

  pub none-found : (r : Record) → record_at past.book t ≡ Some r → same_answer (is_some r.state) (is_some (file_at past.tree t)) ≡ false → intact_record past t ≡ None
  none-found r at h = if-not (is_intact (file_at past.tree)) (record_at past.book t) r at (sym (found-intact r at) ∙ h)

-- a record that was read by a hint is that of its target
pub read-hinted : (rs : List BookRecord) (book : List Record) (n : ℕ) (x : BookRecord) (t : List ℕ) → IsStrictlySortedBy (slice_cmp nat_cmp) (targets_of book) → map record_of rs ≡ book → slice_get rs n ≡ Some x → x.target ≡ t → slice_get book n ≡ record_at book t
read-hinted rs book n x t sorted same read is =
    let here : slice_get book n ≡ Some (record_of x) = ap (λ b. slice_get b n) (sym same) ∙ slice_get-map record_of rs n ∙ ap (option_map record_of) read in
    let target : slice_get (targets_of book) n ≡ Some t = slice_get-map (λ (r : Record). r.target) book n ∙ ap (option_map (λ (r : Record). r.target)) here ∙ ap Some is in
    found-there (λ (r : Record). r.target) book t n sorted target

-- a record that was read at its number
pub was-read : (rs : List BookRecord) (book : List Record) (n : ℕ) (x : BookRecord) → map record_of rs ≡ book → n < length book → x ≡ slice_index_or rs n x → slice_get book n ≡ Some (record_of x)
was-read rs book n x same within is =
    let inside : n < length rs = subst (λ k. n < k) (ap length (sym same) ∙ length-map rs record_of) within in
    ap (λ b. slice_get b n) (sym same) ∙ slice_get-map record_of rs n ∙ ap (option_map record_of) (slice_get_read rs (length rs) n x refl inside is)

pub same-beq : (a b c d : Bool) → a ≡ c → b ≡ d → same_answer a b ≡ beq c d
same-beq true true c d e f = rw (sym e, sym f) refl
same-beq true false c d e f = rw (sym e, sym f) refl
same-beq false true c d e f = rw (sym e, sym f) refl
same-beq false false c d e f = rw (sym e, sym f) refl
