-- Walks over numbers, each with the number that a walk goes on to.
use Rattle.std.specs.Prelude.{◌≡◌, ◌≢◌, ◌<◌, ◌≤◌, ◌⊎◌, ℕ, suc, Bool, true, false, List, [], ◌∷◌, Option, Some, None, length}
use Rattle.std.specs.Prelude.{◌++◌, drop, slice_get, slice_index_or, slice_set, take}
use Rattle.redo_rings.specs.declared.walks.Circle.{Circle}

-- where a walk goes on to from a number
abbrev pub next_at : List (Option ℕ) → ℕ → Option ℕ
next_at next n = slice_index_or next n None

abbrev pub seen_at : List Bool → ℕ → Bool
seen_at seen n = slice_index_or seen n false

abbrev pub place_at : List (Option ℕ) → ℕ → Option ℕ
place_at places n = slice_index_or places n None

abbrev pub circle_at : List (Option Circle) → ℕ → Option Circle
circle_at circles n = slice_index_or circles n None

-- no walk leaves the numbers
abbrev pub IsGraph : List (Option ℕ) → Type 0
IsGraph next = (i j : ℕ) → next_at next i ≡ Some j → j < length next

-- a walk goes from here over these numbers to the end
abbrev pub Goes : List (Option ℕ) → Option ℕ → List ℕ → Option ℕ → Type 0
Goes next at [] end = at ≡ end
Goes next at (n ∷ ns) end = (at ≡ Some n) × Goes next (next_at next n) ns end

abbrev pub IsIn : List ℕ → ℕ → Type 0
IsIn [] n = ⊥
IsIn (m ∷ ms) n = (m ≡ n) ⊎ IsIn ms n

-- no number is there twice
abbrev pub AreOnce : List ℕ → Type 0
AreOnce [] = Unit {0}
AreOnce (n ∷ ns) = (IsIn ns n → ⊥) × AreOnce ns

-- how many aren't seen
abbrev pub unseen_count : List Bool → ℕ
unseen_count [] = 0
unseen_count (true ∷ seen) = unseen_count seen
unseen_count (false ∷ seen) = suc (unseen_count seen)

-- the numbers of a walk from a start to the first that was seen before it
pub record IsWay (next : List (Option ℕ)) (before after : List Bool) (start : Option ℕ) (ns : List ℕ) (end : Option ℕ) : Type 0 where
  pub goes : Goes next start ns end
  pub once : AreOnce ns
  pub fresh : (n : ℕ) → IsIn ns n → seen_at before n ≡ false
  pub within : (n : ℕ) → IsIn ns n → n < length next
  pub size : length after ≡ length before
  pub kept : (n : ℕ) → seen_at before n ≡ true → seen_at after n ≡ true
  pub marked : (n : ℕ) → IsIn ns n → seen_at after n ≡ true
  pub inside : (n : ℕ) → end ≡ Some n → n < length next
  pub no_more : (n : ℕ) → seen_at after n ≡ true → (seen_at before n ≡ true) ⊎ IsIn ns n

-- a walk from a number leads to the first of a circle, or ends
abbrev pub IsSettled : List (Option ℕ) → List (Option Circle) → Option ℕ → Option ℕ → Type 0
IsSettled next circles at None = (ns : List ℕ) × Goes next at ns None
IsSettled next circles at (Some first) =
    ((ns : List ℕ) × Goes next at ns (Some first)) × (circle_at circles first ≢ None)

-- the members of a circle, from its least on
pub record IsCircle (next : List (Option ℕ)) (marks : List Bool) (places : List (Option ℕ)) (first : ℕ) (ns : List ℕ) : Type 0 where
  pub begins : (rest : List ℕ) × (ns ≡ first ∷ rest)
  pub goes : Goes next (Some first) ns (Some first)
  pub once : AreOnce ns
  pub least : (n : ℕ) → IsIn ns n → first ≤ n
  pub within : (n : ℕ) → IsIn ns n → n < length next
  pub seen : (n : ℕ) → IsIn ns n → seen_at marks n ≡ true
  pub placed : (n : ℕ) → IsIn ns n → place_at places n ≡ Some first

-- what is known so far
pub record IsKnown (next : List (Option ℕ)) (seen : List Bool) (places : List (Option ℕ)) (table : List (Option Circle)) : Type 0 where
  pub seen_size : length seen ≡ length next
  pub places_size : length places ≡ length next
  pub circles_size : length table ≡ length next
  pub settled : (n : ℕ) → seen_at seen n ≡ true → IsSettled next table (Some n) (place_at places n)
  pub circles : (n : ℕ) (c : Circle) → circle_at table n ≡ Some c → IsCircle next seen places n c.members.items

-- the second list is the first from its least number on, and then its front
abbrev pub IsTurned : List ℕ → List ℕ → Type 0
IsTurned ns ms = (i : ℕ) × (i < length ns) × (ms ≡ drop i ns ++ take i ns)
    × ((n : ℕ) → IsIn ns n → slice_index_or ns i 0 ≤ n)

-- the circle of these numbers is noted in the table, at its first member
abbrev pub IsClosed : List ℕ → List (Option Circle) → List (Option Circle) → ℕ → Type 0
IsClosed ns table after first = (c : Circle) × IsTurned ns c.members.items
    × (first ≡ slice_index_or c.members.items 0 0) × (after ≡ slice_set table first (Some c))

-- what a walk shows of its numbers: it ended; or it came to one seen before, and they lead where that one leads; or to one
-- of themselves, and there is a new circle
abbrev pub IsEnd : List ℕ → Option ℕ → List (Option ℕ) → List (Option Circle) → Option ℕ → List (Option Circle) → Type 0
IsEnd ns end places table place after =
    ((end ≡ None) × (place ≡ None) × (after ≡ table))
    ⊎ ((e : ℕ) × (end ≡ Some e) × (IsIn ns e → ⊥) × (place ≡ place_at places e) × (after ≡ table))
    ⊎ ((e : ℕ) × (i : ℕ) × (first : ℕ) × (end ≡ Some e) × (slice_get ns i ≡ Some e) × (place ≡ Some first)
    × IsClosed (drop i ns) table after first)
