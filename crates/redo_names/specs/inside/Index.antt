-- How the numbers of paths are stored.
use Rattle.std.specs.Prelude.{◌≡◌, ◌+◌, ◌-◌, ◌/◌, ◌%◌, ◌^◌, ◌<◌, ◌≤◌, ◌⊎◌, ℕ, List, [], Option, Some, Vec}
use Rattle.std.specs.Prelude.{bit_and, length, max, slice_get, slice_index}
use Rattle.std.specs.declared.alloc.Global.{Global}
use Rattle.std.specs.BTreeMap.{BTreeMap, get_by}
use Rattle.std.specs.Cmp.Lexicographic.{slice_cmp}
use Rattle.std.specs.Hash.FoldHasher as folding
use Rattle.std.specs.Ordering.{nat_cmp}
use Rattle.redo_names.specs.declared.index.Index.{Index}
use Rattle.redo_names.specs.declared.index.Spot.{Spot}
use Rattle.redo_names.specs.declared.index.Spot.TheVariants.{Found, Few, Free, Over}

-- the hash of a path's text; it decides where a path is looked for and by which mark, and never the result
unfoldable pub hash_of : List ℕ → ℕ
hash_of text = folding.finish (folding.write folding.initial text)

-- the first place to try for a text, in a row of `places` places
abbrev pub start_of : List ℕ → ℕ → ℕ
start_of text places = bit_and (hash_of text) (places - 8)

-- how many paths there is room for: about half as many as places, and at least the eight that need no row
abbrev pub room_of : ℕ → ℕ
room_of places = max (places / 2 - 8) 8

-- the mark of a path with this hash
abbrev pub mark_of : ℕ → ℕ
mark_of hash = hash / 2 ^ 59

-- the number in a place that is taken
abbrev pub number_in : ℕ → ℕ
number_in place = (place - 1) % 2 ^ 27

-- the mark in it
abbrev pub mark_in : ℕ → ℕ
mark_in place = (place - 1) / 2 ^ 27

-- a place holds the mark of the text and the number of a path with this text
abbrev pub Holds : List (List ℕ) → List ℕ → ℕ → Type 0
Holds paths text place = (mark_in place ≡ mark_of (hash_of text)) × (slice_get paths (number_in place) ≡ Some text)

-- the number that the ordered map has for a text
abbrev pub kept_over : BTreeMap (Vec ℕ Global) ℕ → List ℕ → Option ℕ
kept_over over text = get_by (λ key. slice_cmp nat_cmp text key.items) over

-- no path has this text
abbrev pub IsAbsent : List (List ℕ) → List ℕ → Type 0
IsAbsent paths text = (n : ℕ) → slice_get paths n ≡ Some text → ⊥

-- all places from the first to try for a text up to `end`, which is not included, are taken
abbrev pub AreTakenTo : List ℕ → List ℕ → ℕ → Type 0
AreTakenTo places text end = (k : ℕ) → start_of text (length places) ≤ k → k < end → 0 < slice_index places k

-- all places to try for it are taken
abbrev pub AllTaken : List ℕ → List ℕ → Type 0
AllTaken places text = AreTakenTo places text (start_of text (length places) + 8)

-- no place from the first to try for a text up to `end`, which is not included, holds the text
abbrev pub AreOthersTo : List ℕ → List (List ℕ) → List ℕ → ℕ → Type 0
AreOthersTo places paths text end =
    (k : ℕ) → start_of text (length places) ≤ k → k < end → Holds paths text (slice_index places k) → ⊥

-- no place to try for it holds the text
abbrev pub IsNowhere : List ℕ → List (List ℕ) → List ℕ → Type 0
IsNowhere places paths text = AreOthersTo places paths text (start_of text (length places) + 8)

-- the search for a text reaches this place of the row
pub record IsTried (places : List ℕ) (text : List ℕ) (at : ℕ) : Type 0 where
  pub from : start_of text (length places) ≤ at
  pub near : at < start_of text (length places) + 8
  pub taken : AreTakenTo places text at

-- the search for a text finds its path in the row
pub record IsInRow (places : List ℕ) (paths : List (List ℕ)) (text : List ℕ) : Type 0 where
  pub at : ℕ
  pub tried : IsTried places text at
  pub used : 0 < slice_index places at
  pub here : Holds paths text (slice_index places at)

-- the search for a text finds its path in the ordered map
pub record IsOver (index : Index) (paths : List (List ℕ)) (text : List ℕ) : Type 0 where
  pub number : ℕ
  pub taken : AllTaken index.places.items text
  pub kept : kept_over index.overflow text ≡ Some number
  pub here : slice_get paths number ≡ Some text

-- the search for the text of each of these paths finds a path with this text
abbrev pub FindsEach : Index → List (List ℕ) → Type 0
FindsEach index paths =
    (n : ℕ) (text : List ℕ) → slice_get paths n ≡ Some text →
    IsInRow index.places.items paths text ⊎ IsOver index paths text

-- there is a row, with at least as many places as are tried for a path
abbrev pub HasRow : Index → Type 0
HasRow index = 8 ≤ length index.places.items

-- there is a row, and a search finds each of these paths
pub record IsRowOf (index : Index) (paths : List (List ℕ)) : Type 0 where
  pub row : HasRow index
  pub finds : FindsEach index paths

-- there is no row, and there are at most eight paths
pub record AreFew (index : Index) (paths : List (List ℕ)) : Type 0 where
  pub no_row : index.places.items ≡ []
  pub few : length paths ≤ 8

-- the index has the numbers of these paths
abbrev pub IsIndexOf : Index → List (List ℕ) → Type 0
IsIndexOf index paths = AreFew index paths ⊎ IsRowOf index paths

-- where the search for a text ends: at its path's number or, if no path has it, where such a path belongs
abbrev pub IsSpot : Index → List (List ℕ) → List ℕ → Spot → Type 0
IsSpot index paths text (Found n) = slice_get paths n ≡ Some text
IsSpot index paths text Few = IsAbsent paths text × (index.places.items ≡ [])
IsSpot index paths text (Free at hash) =
    IsAbsent paths text × HasRow index × IsTried index.places.items text at ×
    (slice_index index.places.items at ≡ 0) × (hash ≡ hash_of text)
IsSpot index paths text Over = IsAbsent paths text × HasRow index × AllTaken index.places.items text

-- the ordered map still has what it had for other texts
abbrev pub KeepsOthers : BTreeMap (Vec ℕ Global) ℕ → BTreeMap (Vec ℕ Global) ℕ → List ℕ → Type 0
KeepsOthers old new text =
    (other : List ℕ) (n : ℕ) → kept_over old other ≡ Some n → (other ≡ text) ⊎ (kept_over new other ≡ Some n)
