-- The places of a search one after another.
use Rattle.std.proofs.Common.{◌≡◌, ◌≢◌, ℕ, true, false, cond, List, [], ◌∷◌, ◌++◌, length, drop, codes, refl, sym, ap}
use Rattle.std.proofs.Common.{◌∙◌, suc, zero, arith, append_assoc, Option, None}
use Rattle.std.proofs.lemmas.Grind.{common_steps}
use Rattle.std.specs.List.{ends_with}
use Rattle.std.specs.Prelude.{IfSome, flat_map, nat_eq}
use Rattle.redo_path.proofs.ApartLemmas.{apart}
use Rattle.redo_path.specs.Names.{name_of, names, parent_of}
use Rattle.std.specs.Prelude.{◌||◌, bytes_eq}
use Rattle.redo_which.specs.Candidates.{Place, candidates_of, defaults_in, is_dot, is_reserved, place_at, suffixes, upward}
use Rattle.redo_which.specs.inside.First.{LiesIn}
use Rattle.redo_which.specs.inside.Slots.{IsFirstDot, shorter, slots_above, slots_by}
use Rattle.redo_which.specs.inside.Distinct.{above, defaults_by, distinct_places, without_whole}
use Rattle.redo_which.proofs.PlaceLemmas.{upward-first, upward-next, upward_left}
use Rattle.redo_which.proofs.DistinctLemmas.{candidates-distinct}

-- ---- the suffixes of a text

dot_byte : (byte : ℕ) → byte ≡ 46 → is_dot byte ≡ true
dot_byte byte h = grind (arith, common_steps)

other_byte : (byte : ℕ) → byte ≢ 46 → is_dot byte ≡ false
other_byte byte h = grind (arith, common_steps)

-- the first dot begins the longest suffix
pub first-suffix : (text : List ℕ) (dot : ℕ) → IsFirstDot text dot → suffixes text ≡ drop dot text ∷ shorter (drop dot text)
first-suffix [] zero h = refl
first-suffix [] (suc k) h = absurd (omega (arith, h.within))
first-suffix (b ∷ bs) zero h = ap (λ c. cond c ((b ∷ bs) ∷ suffixes bs) (suffixes bs)) (dot_byte b (h.is_dot (omega arith)))
first-suffix (b ∷ bs) (suc k) h =
    ap (λ c. cond c ((b ∷ bs) ∷ suffixes bs) (suffixes bs)) (other_byte b (h.no_dot_before 0 (omega arith)))
    ∙ first-suffix bs k (record {
      within = omega (arith, h.within);
      is_dot = λ l. h.is_dot (omega (arith, l));
      no_dot_before = λ j l. h.no_dot_before (suc j) (omega (arith, l));
    })

pub shorter-none : (suffix : List ℕ) → length suffix ≡ 0 → shorter suffix ≡ []
shorter-none [] h = refl
shorter-none (b ∷ bs) h = absurd (omega (arith, h))

-- ---- the directories upwards

-- behind the empty suffix come those of the directory above
pub above-next : (name dir : List ℕ) (next : Option (List ℕ)) (n : List ℕ) → next ≡ parent_of dir → IfSome next (λ up. names dir ≡ names up ++ n ∷ []) → slots_above name dir ≡ flat_map (slots_by (suffixes name)) (upward_left next)
above-next name dir next n h k = ap (λ ds. flat_map (slots_by (suffixes name)) (above ds)) (upward-next dir next n h k)

pub above-first : (name up : List ℕ) → flat_map (slots_by (suffixes name)) (upward up) ≡ slots_by (suffixes name) up ++ slots_above name up
above-first name up =
    let first = upward-first up in
    ap (flat_map (slots_by (suffixes name))) first.1 ∙ ap (λ ds. slots_by (suffixes name) up ++ flat_map (slots_by (suffixes name)) (above ds)) (sym first.1)

-- ---- the places of all slots

abbrev pub flat : List (List Place) → List Place
flat slots = flat_map (λ places. places) slots

pub flat-append : (xs ys : List (List Place)) → flat (xs ++ ys) ≡ flat xs ++ flat ys
flat-append [] ys = refl
flat-append (x ∷ xs) ys = ap (λ l. x ++ l) (flat-append xs ys) ∙ sym (append_assoc x (flat xs) (flat ys))

flat-by : (ends : List (List ℕ)) (dir : List ℕ) → flat (slots_by ends dir) ≡ defaults_by ends dir
flat-by [] dir = refl
flat-by (s ∷ ss) dir = ap (λ l. place_at dir (length s) (codes "default" ++ s ++ codes ".do") ++ l) (flat-by ss dir)

flat-above : (name : List ℕ) (dirs : List (List ℕ)) → flat (flat_map (slots_by (suffixes name)) dirs) ≡ flat_map (defaults_in name) dirs
flat-above name [] = refl
flat-above name (d ∷ ds) = flat-append (slots_by (suffixes name) d) (flat_map (slots_by (suffixes name)) ds) ∙ (λ i. flat-by (suffixes name) d i ++ flat-above name ds i)

-- the places of a search
pub flat-whole : (name dir : List ℕ) → flat_map (λ (places : List Place). places) (place_at dir 0 (name ++ codes ".do") ∷ slots_by (without_whole name (suffixes name)) dir ++ slots_above name dir) ≡ distinct_places dir name
flat-whole name dir =
    let own = slots_by (without_whole name (suffixes name)) dir in
    ap (λ l. place_at dir 0 (name ++ codes ".do") ++ l)
    (flat-append own (slots_above name dir) ∙ (λ i. flat-by (without_whole name (suffixes name)) dir i ++ flat-above name (above (upward dir)) i))
    ∙ sym (append_assoc (place_at dir 0 (name ++ codes ".do")) (defaults_by (without_whole name (suffixes name)) dir) (flat_map (defaults_in name) (above (upward dir))))

-- those of a target in its directory
pub candidates-some : (target dir name : List ℕ) (places : List Place) → LiesIn target dir → name ≡ name_of target → places ≡ cond (ends_with nat_eq name (codes ".do") || is_reserved target) [] (distinct_places dir name) → places ≡ candidates_of target
candidates-some target dir name places h e k = k ∙ ap (λ n. cond (ends_with nat_eq n (codes ".do") || is_reserved target) [] (distinct_places dir n)) e ∙ sym (candidates-distinct target dir h)

-- the root has none
pub candidates-none : (target : List ℕ) → None ≡ parent_of target → [] ≡ candidates_of target
candidates-none [] h = refl
candidates-none (b ∷ bs) h = apart cc
