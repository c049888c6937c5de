-- The candidates of a target are distinct places, and few.
use Rattle.std.proofs.Common.{◌≡◌, ◌≤◌, ◌+◌, ◌*◌, ◌^◌, List, [], ◌∷◌, ◌++◌, ℕ, cond, reverse, refl, sym, ap, subst, ◌∙◌}
use Rattle.std.proofs.Common.{Some, None, length, arith, length-append, true, false}
use Rattle.std.specs.List.{AllByRecursion}
use Rattle.std.specs.Prelude.{Ok, Err, codes, flat_map}
use Rattle.std.proofs.lemmas.List.{length-map, length-reverse}
use Rattle.std.proofs.lemmas.List.Splits.{length-slice_split}
use Rattle.std.proofs.lemmas.List.Sums.{count_by-le-length}
use Rattle.std.specs.Str.{bytes_eq}
use Rattle.redo_path.proofs.PartLemmas.{AllByRecursion-front}
use Rattle.redo_path.specs.Names.{IsName, IsPart, is_slash, name_of, names, text_of}
use Rattle.redo_path.specs.Resolve.{resolved}
use Rattle.redo_which.specs.Candidates.{Place, candidates_of, defaults_in, fronts, is_never_made, is_dot, once}
use Rattle.redo_which.specs.inside.First.{LiesIn}
use Rattle.redo_which.specs.Candidates.{place_at, places_of, suffixes, upward}
use Rattle.redo_which.specs.inside.Distinct.{above, defaults_by, distinct_places, without_whole}
use Rattle.redo_which.proofs.OnceLemmas.{once-distinct}

last_name : (P : List ℕ → Type 0) (ns : List (List ℕ)) (n : List ℕ) → AllByRecursion P (ns ++ n ∷ []) → P n
last_name P [] n h = h.0
last_name P (m ∷ ns) n h = last_name P ns n h.1

-- the name of a target in its directory
target_name : (target dir : List ℕ) → LiesIn target dir → IsName (name_of target)
target_name target dir h = last_name IsName (names dir) (name_of target) (subst (AllByRecursion IsName) h.split h.is_path.each)

distinct_of : (target dir : List ℕ) → LiesIn target dir → once (places_of dir (name_of target)) ≡ distinct_places dir (name_of target)
distinct_of target dir h =
    let named = subst (AllByRecursion IsName) h.split h.is_path.each in
    once-distinct dir (name_of target) (AllByRecursion-front IsName (names dir) (name_of target ∷ []) named) (target_name target dir h).part.no_slash

-- the name of a target is a part of its path
pub name_part : (target dir name : List ℕ) → LiesIn target dir → name ≡ name_of target → IsPart name
name_part target dir name h is = subst IsPart (sym is) (target_name target dir h).part

pub candidates-distinct : (target dir : List ℕ) → LiesIn target dir → candidates_of target ≡ cond (is_never_made target) [] (distinct_places dir (name_of target))
candidates-distinct target dir h =
    ap (λ o. elim o as (λ _. List Place) [ None ↦ [] | Some d ↦ cond (is_never_made target) [] (once (places_of d (name_of target))) ]) (sym h.parent)
    ∙ ap (cond (is_never_made target) []) (distinct_of target dir h)

-- ---- how many there are

few-at : (dir : List ℕ) (cut : ℕ) (file : List ℕ) → length (place_at dir cut file) ≤ 1
few-at dir cut file =
    elim (resolved dir file) as (λ r. length (elim r as (λ _. List Place) [ Ok path ↦ record { do_file = path; dir = dir; cut = cut } ∷ [] | Err fault ↦ [] ]) ≤ 1) [ Ok path ↦ omega arith | Err fault ↦ omega arith ]

few-suffixes : (text : List ℕ) → length (suffixes text) ≤ length text + 1
few-suffixes [] = omega arith
few-suffixes (b ∷ bs) =
    elim (is_dot b) as (λ c. length (cond c ((b ∷ bs) ∷ suffixes bs) (suffixes bs)) ≤ length (b ∷ bs) + 1) [ true ↦ omega (arith, few-suffixes bs) | false ↦ omega (arith, few-suffixes bs) ]

few-defaults : (ends : List (List ℕ)) (dir : List ℕ) → length (defaults_by ends dir) ≤ length ends
few-defaults [] dir = omega arith
few-defaults (s ∷ ss) dir =
    let file = codes "default" ++ s ++ codes ".do" in
    omega (arith, length-append (place_at dir (length s) file) (defaults_by ss dir), few-at dir (length s) file, few-defaults ss dir)

few-without : (name : List ℕ) (ends : List (List ℕ)) → length (without_whole name ends) ≤ length ends
few-without name [] = omega arith
few-without name (s ∷ ss) = elim (bytes_eq name (codes "default" ++ s)) as (λ b. length (cond b ss (s ∷ ss)) ≤ length (s ∷ ss)) [ true ↦ omega arith | false ↦ omega arith ]

few-upward : (name : List ℕ) (dirs : List (List ℕ)) → length name ≤ 255 → length (flat_map (defaults_in name) dirs) ≤ 256 * length dirs
few-upward name [] h = omega arith
few-upward name (d ∷ ds) h =
    omega (arith, h, length-append (defaults_in name d) (flat_map (defaults_in name) ds), few-defaults (suffixes name) d, few-suffixes name, few-upward name ds h)

few-fronts : (ns : List (List ℕ)) → length (fronts ns) ≡ length ns + 1
few-fronts [] = refl
few-fronts (n ∷ ns) = omega (arith, length-map (fronts ns) (λ front. n ∷ front), few-fronts ns)

few-above : (dirs : List (List ℕ)) → length (above dirs) ≤ length dirs
few-above [] = omega arith
few-above (d ∷ ds) = omega arith

few-names : (text : List ℕ) → length (names text) ≤ length text + 1
few-names [] = omega arith
few-names (b ∷ bs) = omega (arith, length-slice_split is_slash (b ∷ bs), count_by-le-length is_slash (b ∷ bs))

few-dirs : (target dir : List ℕ) → LiesIn target dir → length (above (upward dir)) ≤ 1025
few-dirs target dir h =
    let deep : length (names target) ≡ length (names dir) + 1 = ap length h.split ∙ length-append (names dir) (name_of target ∷ []) in
    let all : length (upward dir) ≡ length (fronts (names dir)) = length-map (reverse (fronts (names dir))) text_of ∙ length-reverse (fronts (names dir)) in
    omega (arith, few-above (upward dir), all, few-fronts (names dir), deep, few-names target, h.is_path.short)

few-places : (target dir : List ℕ) → LiesIn target dir → length (distinct_places dir (name_of target)) ≤ 2 ^ 20
few-places target dir h =
    let name = name_of target in
    let whole = place_at dir 0 (name ++ codes ".do") in
    let own = defaults_by (without_whole name (suffixes name)) dir in
    let parent_text = flat_map (defaults_in name) (above (upward dir)) in
    let short = (target_name target dir h).short in
    omega (
      arith,
      length-append (whole ++ own) parent_text,
      length-append whole own,
      few-at dir 0 (name ++ codes ".do"),
      few-defaults (without_whole name (suffixes name)) dir,
      few-without name (suffixes name),
      few-suffixes name,
      short,
      few-upward name (above (upward dir)) short,
      few-dirs target dir h,
    )

pub few-candidates : (target dir : List ℕ) → LiesIn target dir → length (candidates_of target) ≤ 2 ^ 20
few-candidates target dir h =
    subst (λ (ps : List Place). length ps ≤ 2 ^ 20) (sym (candidates-distinct target dir h))
    (elim (is_never_made target) as (λ b. length (cond b [] (distinct_places dir (name_of target))) ≤ 2 ^ 20) [ true ↦ omega arith | false ↦ few-places target dir h ])
