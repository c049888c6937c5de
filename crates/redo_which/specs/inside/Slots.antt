-- The search slot by slot: a slot has one place, or none if its path is too long.
use Rattle.std.specs.Prelude.{◌≡◌, ◌≢◌, ◌<◌, ◌≤◌, ℕ, List, [], ◌∷◌, ◌++◌, codes, flat_map, length, map, slice_index}
use Rattle.redo_path.specs.Names.{IsPart, IsPath}
use Rattle.redo_which.specs.declared.candidates.Next.{Next}
use Rattle.redo_which.specs.declared.candidates.Next.TheVariants.{Whole, Suffix, Nothing}
use Rattle.redo_which.specs.Candidates.{Place, place_at, suffixes, upward}
use Rattle.redo_which.specs.inside.Distinct.{above, without_whole}

-- the slots in a directory of these suffixes
abbrev pub slots_by : List (List ℕ) → List ℕ → List (List Place)
slots_by ends dir = map (λ suffix. place_at dir (length suffix) (codes "default" ++ suffix ++ codes ".do")) ends

-- the slots in the directories above a directory
abbrev pub slots_above : List ℕ → List ℕ → List (List Place)
slots_above name dir = flat_map (slots_by (suffixes name)) (above (upward dir))

-- the slots that are left for a name
abbrev pub slots_left : List ℕ → Next → List (List Place)
slots_left name (Whole dir) =
    place_at dir.now 0 (name ++ codes ".do")
    ∷ slots_by (without_whole name (suffixes name)) dir.now ++ slots_above name dir.now
slots_left name (Suffix dir end) = slots_by (suffixes end.now) dir.now ++ slots_above name dir.now
slots_left name Nothing = []

-- what comes next has a path and parts
abbrev pub IsNext : List ℕ → Next → Type 0
IsNext name (Whole dir) = IsPath dir.now × IsPart name
IsNext name (Suffix dir end) = IsPath dir.now × IsPart end.now × IsPart name
IsNext name Nothing = Unit {0}

-- the suffixes shorter than this one
abbrev pub shorter : List ℕ → List (List ℕ)
shorter [] = []
shorter (dot ∷ bytes) = suffixes bytes

-- where the first dot of a text is, or its end
pub record IsFirstDot (text : List ℕ) (dot : ℕ) : Type 0 where
  pub within : dot ≤ length text
  pub is_dot : dot < length text → slice_index text dot ≡ 46
  pub no_dot_before : (k : ℕ) → k < dot → slice_index text k ≢ 46
