-- The search of an index: what is entered is found, and what was found before still is.
use Rattle.std.proofs.Common.{◌≡◌, ◌+◌, ◌-◌, ◌<◌, ◌≤◌, ◌⊎◌, ℕ, zero, suc, List, [], ◌∷◌, ◌++◌, Some, refl, sym, ap, subst, ◌∙◌, arith, length, inl, inr, set, slice_get, slice_index}
use Rattle.std.proofs.lemmas.List.{get_or-set_same, length-append, length-set}
use Rattle.std.proofs.lemmas.Nat.{and_le_r}
use Rattle.redo_names.specs.declared.index.Index.{Index}
use Rattle.redo_names.specs.inside.Index.{hash_of, start_of, room_of, mark_of, mark_in, number_in, kept_over, AllTaken, AreFew, AreOthersTo, AreTakenTo, FindsEach, Holds, IsAbsent, IsInRow, IsIndexOf, IsNowhere, IsOver, IsRowOf, IsTried, KeepsOthers}

-- ---- what is looked for

-- a search that comes to a free place has looked at all places where the text may stand
pub absent-free : (index : Index) (paths : List (List ℕ)) (text : List ℕ) (at : ℕ) → FindsEach index paths → IsTried index.places.items text at → slice_index index.places.items at ≡ 0 → AreOthersTo index.places.items paths text at → IsAbsent paths text
absent-free index paths text at is tried free others n here = elim (is n text here) [
  | inl r ↦
      let not_before : r.at < at → ⊥ = λ l. others r.at r.tried.from l r.here in
      let not_behind : at < r.at → ⊥ = λ l. let t = r.tried.taken at tried.from l in absurd (omega arith) in
      let same : r.at ≡ at = omega arith in
      let used : 0 < slice_index index.places.items at = subst (λ k. 0 < slice_index index.places.items k) same r.used in
      absurd (omega arith)
  | inr o ↦ let t = o.taken at tried.from tried.near in absurd (omega arith)
]

pub absent-over : (index : Index) (paths : List (List ℕ)) (text : List ℕ) → FindsEach index paths → IsNowhere index.places.items paths text → ((number : ℕ) → kept_over index.overflow text ≡ Some number → slice_get paths number ≡ Some text → ⊥) → IsAbsent paths text
absent-over index paths text is others none n here = elim (is n text here) [
  | inl r ↦ others r.at r.tried.from r.tried.near r.here
  | inr o ↦ none o.number o.kept o.here
]

-- ---- paths, and one behind them

pub still-there : (paths : List (List ℕ)) (last : List ℕ) (i : ℕ) (q : List ℕ) → slice_get paths i ≡ Some q → slice_get (paths ++ last ∷ []) i ≡ Some q
still-there [] last i q h = cc
still-there (p ∷ ps) last zero q h = h
still-there (p ∷ ps) last (suc i) q h = still-there ps last i q h

pub last-there : (paths : List (List ℕ)) (last : List ℕ) → slice_get (paths ++ last ∷ []) (length paths) ≡ Some last
last-there [] last = refl
last-there (p ∷ ps) last = last-there ps last

pub there-or-last : (paths : List (List ℕ)) (last : List ℕ) (i : ℕ) (q : List ℕ) → slice_get (paths ++ last ∷ []) i ≡ Some q → (slice_get paths i ≡ Some q) ⊎ (last ≡ q)
there-or-last [] last zero q h = inr (cc)
there-or-last [] last (suc i) q h = cc
there-or-last (p ∷ ps) last zero q h = inl h
there-or-last (p ∷ ps) last (suc i) q h = there-or-last ps last i q h

pub holds-still : (paths : List (List ℕ)) (last q : List ℕ) (place : ℕ) → Holds paths q place → Holds (paths ++ last ∷ []) q place
holds-still paths last q place h = (h.0, still-there paths last (number_in place) q h.1)

-- ---- a row in which a free place was taken

still-taken : (places : List ℕ) (at v k : ℕ) → 0 < v → 0 < slice_index places k → 0 < slice_index (set places at v) k
still-taken [] at v k some h = h
still-taken (x ∷ xs) zero v zero some h = some
still-taken (x ∷ xs) zero v (suc k) some h = h
still-taken (x ∷ xs) (suc at) v zero some h = h
still-taken (x ∷ xs) (suc at) v (suc k) some h = still-taken xs at v k some h

same-place : (places : List ℕ) (at v k : ℕ) → slice_index places at ≡ 0 → 0 < slice_index places k → slice_index (set places at v) k ≡ slice_index places k
same-place [] at v k free used = refl
same-place (x ∷ xs) zero v zero free used = absurd (omega arith)
same-place (x ∷ xs) zero v (suc k) free used = refl
same-place (x ∷ xs) (suc at) v zero free used = refl
same-place (x ∷ xs) (suc at) v (suc k) free used = same-place xs at v k free used

pub within : (places : List ℕ) (text : List ℕ) (at : ℕ) → 8 ≤ length places → IsTried places text at → at < length places
within places text at room tried =
    let low = and_le_r (hash_of text) (length places - 8) in
    let near = tried.near in
    omega arith

module _ (places : List ℕ) (at v : ℕ) (some : 0 < v) (q : List ℕ) where
  start : start_of q (length (set places at v)) ≡ start_of q (length places)
  start = ap (start_of q) (length-set places at v)

  taken-to : (end other : ℕ) → end ≡ other → AreTakenTo places q end → AreTakenTo (set places at v) q other
  taken-to end other same taken k from below =
      still-taken places at v k some (taken k (subst (λ n. n ≤ k) start from) (subst (λ n. k < n) (sym same) below))

  all-taken : AllTaken places q → AllTaken (set places at v) q
  all-taken = taken-to (start_of q (length places) + 8) (start_of q (length (set places at v)) + 8) (ap (λ n. n + 8) (sym start))

  tried-still : (k : ℕ) → IsTried places q k → IsTried (set places at v) q k
  tried-still k tried = record {
    from = subst (λ n. n ≤ k) (sym start) tried.from;
    near = subst (λ n. k < n + 8) (sym start) tried.near;
    taken = taken-to k k refl tried.taken;
  }

  in-row-still : (paths : List (List ℕ)) (last : List ℕ) → slice_index places at ≡ 0 → IsInRow places paths q → IsInRow (set places at v) (paths ++ last ∷ []) q
  in-row-still paths last free r =
      let same = same-place places at v r.at free r.used in
      record {
        at = r.at;
        tried = tried-still r.at r.tried;
        used = subst (λ n. 0 < n) (sym same) r.used;
        here = subst (Holds (paths ++ last ∷ []) q) (sym same) (holds-still paths last q (slice_index places r.at) r.here);
      }

in-row-own : (places : List ℕ) (paths : List (List ℕ)) (text : List ℕ) (at v : ℕ) → 0 < v → number_in v ≡ length paths → mark_in v ≡ mark_of (hash_of text) → at < length places → IsTried places text at → IsInRow (set places at v) (paths ++ text ∷ []) text
in-row-own places paths text at v some number mark inside tried =
    let own = get_or-set_same places at v 0 inside in
    let last : slice_get (paths ++ text ∷ []) (number_in v) ≡ Some text = subst (λ n. slice_get (paths ++ text ∷ []) n ≡ Some text) (sym number) (last-there paths text) in
    record {
      at = at;
      tried = tried-still places at v some text at tried;
      used = subst (λ n. 0 < n) (sym own) some;
      here = subst (Holds (paths ++ text ∷ []) text) (sym own) (mark, last);
    }

more-paths : (index : Index) (paths : List (List ℕ)) (last q : List ℕ) → IsInRow index.places.items paths q ⊎ IsOver index paths q → IsInRow index.places.items (paths ++ last ∷ []) q ⊎ IsOver index (paths ++ last ∷ []) q
more-paths index paths last q (inl r) = inl (record { at = r.at; tried = r.tried; used = r.used; here = holds-still paths last q (slice_index index.places.items r.at) r.here })
more-paths index paths last q (inr o) = inr (record { number = o.number; taken = o.taken; kept = o.kept; here = still-there paths last o.number q o.here })

-- ---- a row after a text was entered

-- it is that of one of the paths
finds-again : (index : Index) (paths : List (List ℕ)) (text : List ℕ) (n : ℕ) → FindsEach index paths → slice_get paths n ≡ Some text → FindsEach index (paths ++ text ∷ [])
finds-again index paths text n is found i q here = elim (there-or-last paths text i q here) [
  | inl old ↦ more-paths index paths text q (is i q old)
  | inr own ↦ more-paths index paths text q (is n q (subst (λ p. slice_get paths n ≡ Some p) own found))
]

-- a place in the row is free
finds-free : (old new : Index) (paths : List (List ℕ)) (text : List ℕ) (at v : ℕ) → FindsEach old paths → 8 ≤ length old.places.items → IsTried old.places.items text at → slice_index old.places.items at ≡ 0 → 0 < v → number_in v ≡ length paths
    → mark_in v ≡ mark_of (hash_of text) → new.places.items ≡ set old.places.items at v → new.overflow.entries ≡ old.overflow.entries → FindsEach new (paths ++ text ∷ [])
finds-free old new paths text at v is room tried free some number mark row over i q here =
    let places = old.places.items in
    let InRow : List ℕ → Type 0 = λ ps. IsInRow ps (paths ++ text ∷ []) q in
    let Taken : List ℕ → Type 0 = λ ps. AllTaken ps q in
    elim (there-or-last paths text i q here) [
      | inl was ↦ elim (is i q was) [
        | inl r ↦ inl (subst InRow (sym row) (in-row-still places at v some q paths text free r))
        | inr o ↦ inr (record {
          number = o.number;
          taken = subst Taken (sym row) (all-taken places at v some q o.taken);
          kept = rw over o.kept;
          here = still-there paths text o.number q o.here;
        })
      ]
      | inr own ↦ inl (subst InRow (sym row) (subst (λ t. IsInRow (set places at v) (paths ++ text ∷ []) t) own (in-row-own places paths text at v some number mark (within places text at room tried) tried)))
    ]

-- none is, so it goes into the ordered map
finds-over : (old new : Index) (paths : List (List ℕ)) (text : List ℕ) → FindsEach old paths → AllTaken old.places.items text → new.places.items ≡ old.places.items → kept_over new.overflow text ≡ Some (length paths) → KeepsOthers old.overflow new.overflow text
    → FindsEach new (paths ++ text ∷ [])
finds-over old new paths text is taken row kept others i q here =
    let own : text ≡ q → IsInRow new.places.items (paths ++ text ∷ []) q ⊎ IsOver new (paths ++ text ∷ []) q = λ e. inr (record {
      number = length paths;
      taken = subst (λ t. AllTaken new.places.items t) e (subst (λ ps. AllTaken ps text) (sym row) taken);
      kept = subst (λ t. kept_over new.overflow t ≡ Some (length paths)) e kept;
      here = subst (λ t. slice_get (paths ++ text ∷ []) (length paths) ≡ Some t) e (last-there paths text);
    }) in
    elim (there-or-last paths text i q here) [
      | inl was ↦ elim (is i q was) [
        | inl r ↦ inl (subst (λ ps. IsInRow ps (paths ++ text ∷ []) q) (sym row) (record { at = r.at; tried = r.tried; used = r.used; here = holds-still paths text q (slice_index old.places.items r.at) r.here }))
        | inr o ↦ elim (others q o.number o.kept) [
          | inl same ↦ own (sym same)
          | inr still ↦ inr (record {
            number = o.number;
            taken = subst (λ ps. AllTaken ps q) (sym row) o.taken;
            kept = still;
            here = still-there paths text o.number q o.here;
          })
        ]
      ]
      | inr e ↦ own e
    ]

-- nothing, and the row and the entries are the same
finds-still : (old new : Index) (paths : List (List ℕ)) → FindsEach old paths → new.places.items ≡ old.places.items → new.overflow.entries ≡ old.overflow.entries → FindsEach new paths
finds-still old new paths is row over i q here = elim (is i q here) [
  | inl r ↦ inl (subst (λ ps. IsInRow ps paths q) (sym row) r)
  | inr o ↦ inr (record { number = o.number; taken = subst (λ ps. AllTaken ps q) (sym row) o.taken; kept = rw over o.kept; here = o.here })
]

-- ---- an index, with a row or without

pub row-of : (index : Index) (paths : List (List ℕ)) → IsIndexOf index paths → 0 < length index.places.items → IsRowOf index paths
row-of index paths (inl f) some = let none = ap length f.no_row in absurd (omega arith)
row-of index paths (inr r) some = r

few-more : (index : Index) (paths : List (List ℕ)) (text : List ℕ) → AreFew index paths → length paths < room_of (length index.places.items) → AreFew index (paths ++ text ∷ [])
few-more index paths text f room =
    let more = length-append paths (text ∷ []) in
    let below : length paths < room_of 0 = subst (λ n. length paths < room_of n) (ap length f.no_row) room in
    record { no_row = f.no_row; few = omega arith }

-- the text is that of one of the paths
pub entered-again : (index : Index) (paths : List (List ℕ)) (text : List ℕ) (n : ℕ) → IsIndexOf index paths → length paths < room_of (length index.places.items) → slice_get paths n ≡ Some text → IsIndexOf index (paths ++ text ∷ [])
entered-again index paths text n (inl f) room found = inl (few-more index paths text f room)
entered-again index paths text n (inr r) room found = inr (record { row = r.row; finds = finds-again index paths text n r.finds found })

-- there is no row
pub entered-few : (index : Index) (paths : List (List ℕ)) (text : List ℕ) → IsIndexOf index paths → length paths < room_of (length index.places.items) → index.places.items ≡ [] → IsIndexOf index (paths ++ text ∷ [])
entered-few index paths text (inl f) room no_row = inl (few-more index paths text f room)
entered-few index paths text (inr r) room no_row = let none = ap length no_row in let row = r.row in absurd (omega arith)

-- a place in the row is free
pub entered-free : (old new : Index) (paths : List (List ℕ)) (text : List ℕ) (at v : ℕ) → IsIndexOf old paths → 8 ≤ length old.places.items → IsTried old.places.items text at → slice_index old.places.items at ≡ 0 → 0 < v → number_in v ≡ length paths
    → mark_in v ≡ mark_of (hash_of text) → new.places.items ≡ set old.places.items at v → new.overflow.entries ≡ old.overflow.entries → IsIndexOf new (paths ++ text ∷ [])
entered-free old new paths text at v is row tried free some number mark places over =
    let finds = (row-of old paths is (omega arith)).finds in
    let size = ap length places ∙ length-set old.places.items at v in
    inr (record { row = omega arith; finds = finds-free old new paths text at v finds row tried free some number mark places over })

-- none is, so it goes into the ordered map
pub entered-over : (old new : Index) (paths : List (List ℕ)) (text : List ℕ) → IsIndexOf old paths → 8 ≤ length old.places.items → AllTaken old.places.items text → new.places.items ≡ old.places.items → kept_over new.overflow text ≡ Some (length paths)
    → KeepsOthers old.overflow new.overflow text → IsIndexOf new (paths ++ text ∷ [])
entered-over old new paths text is row taken places kept others =
    let finds = (row-of old paths is (omega arith)).finds in
    let size = ap length places in
    inr (record { row = omega arith; finds = finds-over old new paths text finds taken places kept others })

-- the row and the entries are the same
pub kept-same : (old new : Index) (paths : List (List ℕ)) → IsIndexOf old paths → new.places.items ≡ old.places.items → new.overflow.entries ≡ old.overflow.entries → IsIndexOf new paths
kept-same old new paths (inl f) places over = inl (record { no_row = places ∙ f.no_row; few = f.few })
kept-same old new paths (inr r) places over =
    let size = ap length places in
    let row = r.row in
    inr (record { row = omega arith; finds = finds-still old new paths r.finds places over })
