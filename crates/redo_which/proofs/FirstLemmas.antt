-- The first candidates of a target: no path stands twice, and each is that of a `.do` file.
use Rattle.std.proofs.Common.{◌≡◌, ◌≢◌, true, false, cond, ◌||◌, ◌++◌, ◌∷◌, [], List, ℕ, map, take, length, refl, sym, ap}
use Rattle.std.proofs.Common.{subst, ◌∙◌, codes, append_assoc, append-nil, reverse, suc, zero}
use Rattle.std.specs.List.{AllByRecursion, ends_with, list_any}
use Rattle.std.specs.Prelude.{IfSome, Option, None, Some, Ok, Err, Result, fold, flat_map, nat_eq, bytes_eq}
use Rattle.std.proofs.lemmas.List.{map-append, reverse-append}
use Rattle.std.proofs.lemmas.Slice.Eq.{bytes_eq-Decides, ends_is}
use Rattle.redo_path.proofs.ApartLemmas.{apart}
use Rattle.std.proofs.lemmas.Bool.Decides.{Decides-eqb}
use Rattle.redo_path.proofs.CanonicalLemmas.{named-resolved}
use Rattle.redo_path.proofs.PartLemmas.{AllByRecursion-append, AllByRecursion-front}
use Rattle.redo_path.specs.Names.{IsBelowRoot, IsName, IsPath, child_of, name_of, names, parent_of, text_of}
use Rattle.redo_path.specs.declared.PathFault.{PathFault}
use Rattle.redo_path.specs.Resolve.{resolved}
use Rattle.redo_which.specs.Candidates.{Place, candidates_of, defaults_in, fronts, is_never_made, once, place_at}
use Rattle.redo_which.specs.Candidates.{places_of, suffixes, upward, with_new}
use Rattle.redo_which.specs.Missing.{AreDistinct, AreNewAfter}
use Rattle.redo_which.specs.inside.First.{AreFirst, IsTarget, LiesIn, first_candidates}
use Rattle.redo_which.specs.inside.Distinct.{above, defaults_by, distinct_places, without_whole}
use Rattle.redo_which.proofs.FileLemmas.{IsFileName, IsFileName-default, IsFileName-named, NoSlash, child-resolved}
use Rattle.redo_which.proofs.FileLemmas.{default_file, named_file, not_same}
use Rattle.redo_which.proofs.OnceLemmas.{names-text_of, suffixes-no_slash, without_whole-all}
use Rattle.redo_which.proofs.DistinctLemmas.{candidates-distinct, name_part}

-- ---- no path stands twice

more-new : (before xs : List (List ℕ)) (p : List ℕ) → AreNewAfter before xs → list_any (λ other. bytes_eq p other) (before ++ xs) ≡ false → AreNewAfter before (xs ++ p ∷ [])
more-new before [] p h k = (subst (λ l. list_any (λ other. bytes_eq p other) l ≡ false) (append-nil before) k, tt)
more-new before (x ∷ xs) p h k =
    (h.0, more-new (before ++ x ∷ []) xs p h.1 (subst (λ l. list_any (λ other. bytes_eq p other) l ≡ false) (sym (append_assoc before (x ∷ []) xs)) k))

same_way : (p q : List ℕ) → bytes_eq p q ≡ bytes_eq q p
same_way p q =
    elim (bytes_eq p q) as (λ b. bytes_eq p q ≡ b → b ≡ bytes_eq q p) [
      | true ↦ λ e. sym ((bytes_eq-Decides q p).1 (sym ((bytes_eq-Decides p q).0 e)))
      | false ↦ λ e.
          elim (bytes_eq q p) as (λ c. bytes_eq q p ≡ c → false ≡ c) [
            | true ↦ λ f. sym e ∙ (bytes_eq-Decides p q).1 (sym ((bytes_eq-Decides q p).0 f))
            | false ↦ λ f. refl
          ] refl
    ] refl

listed-path : (list : List Place) (p : List ℕ) → list_any (λ other. bytes_eq other.do_file p) list ≡ list_any (λ other. bytes_eq p other) (map (λ p. p.do_file) list)
listed-path [] p = refl
listed-path (q ∷ qs) p = λ i. same_way q.do_file p i || listed-path qs p i

with_new-distinct : (list : List Place) (place : Place) → AreDistinct (map (λ p. p.do_file) list) → AreDistinct (map (λ p. p.do_file) (with_new list place))
with_new-distinct list place h =
    elim (list_any (λ other. bytes_eq other.do_file place.do_file) list) as (λ b. list_any (λ other. bytes_eq other.do_file place.do_file) list ≡ b → AreDistinct (map (λ p. p.do_file) (cond b list (list ++ place ∷ [])))) [
      | true ↦ λ e. h
      | false ↦ λ e.
          subst AreDistinct (sym (map-append (λ (p : Place). p.do_file) list (place ∷ [])))
          (more-new [] (map (λ p. p.do_file) list) place.do_file h (sym (listed-path list place.do_file) ∙ e))
    ] refl

once-new : (list places : List Place) → AreDistinct (map (λ p. p.do_file) list) → AreDistinct (map (λ p. p.do_file) (fold with_new list places))
once-new list [] h = h
once-new list (p ∷ ps) h = once-new (with_new list p) ps (with_new-distinct list p h)

take-new : (count : ℕ) (before : List (List ℕ)) (list : List Place) → AreNewAfter before (map (λ p. p.do_file) list) → AreNewAfter before (map (λ p. p.do_file) (take count list))
take-new zero before list h = tt
take-new (suc n) before [] h = tt
take-new (suc n) before (p ∷ ps) h = (h.0, take-new n (before ++ p.do_file ∷ []) ps h.1)

candidates-new : (target : List ℕ) → AreDistinct (map (λ p. p.do_file) (candidates_of target))
candidates-new target =
    elim (parent_of target) as (λ (o : Option (List ℕ)). AreDistinct (map (λ p. p.do_file) (elim o as (λ _. List Place) [ None ↦ [] | Some dir ↦ cond (is_never_made target) [] (once (places_of dir (name_of target))) ]))) [
      | None ↦ tt
      | Some dir ↦
          elim (is_never_made target) as (λ b. AreDistinct (map (λ p. p.do_file) (cond b [] (once (places_of dir (name_of target)))))) [
            | true ↦ tt
            | false ↦ once-new [] (places_of dir (name_of target)) tt
          ]
    ]

pub first-distinct : (target : List ℕ) (count : ℕ) → AreDistinct (first_candidates target count)
first-distinct target count = take-new count [] (candidates_of target) (candidates-new target)

-- ---- each is the path of a `.do` file

-- it ends so
abbrev IsDo : List ℕ → Type 0
IsDo path = ends_with nat_eq path (codes ".do") ≡ true

record IsDoFile (path : List ℕ) : Type 0 where
  ends : IsDo path
  is_path : IsPath path

abbrev IsDir : List ℕ → Type 0
IsDir dir = AllByRecursion IsName (names dir)

do_ends : (front : List ℕ) → IsDo (front ++ codes ".do")
do_ends front = (ends_is Decides-eqb (front ++ codes ".do") (codes ".do") _ refl).1 front refl

do_child : (dir stem : List ℕ) → IsDo (child_of dir (stem ++ codes ".do"))
do_child [] stem = do_ends stem
do_child (b ∷ bs) stem = subst IsDo (append_assoc (b ∷ bs) (47 ∷ stem) (codes ".do")) (do_ends ((b ∷ bs) ++ 47 ∷ stem))

do_at : (dir : List ℕ) (cut : ℕ) (file : List ℕ) → IsDir dir → IsFileName file → IsDo (child_of dir file) → AllByRecursion (λ p. IsDoFile p.do_file) (place_at dir cut file)
do_at dir cut file h f d =
    let places = λ (r : Result (List ℕ) PathFault). elim r as (λ _. List Place) [ Ok path ↦ record { do_file = path; dir = dir; cut = cut } ∷ [] | Err fault ↦ [] ] in
    elim (resolved dir file) as (λ r. resolved dir file ≡ r → AllByRecursion (λ p. IsDoFile p.do_file) (places r)) [
      | Ok path ↦ λ e. (record { ends = subst IsDo (sym (child-resolved dir file path f e)) d; is_path = named-resolved dir file path h e }, tt)
      | Err fault ↦ λ e. tt
    ] refl

do_defaults : (dir : List ℕ) (ends : List (List ℕ)) → IsDir dir → AllByRecursion NoSlash ends → AllByRecursion (λ p. IsDoFile p.do_file) (defaults_by ends dir)
do_defaults dir [] d h = tt
do_defaults dir (s ∷ ss) d h =
    AllByRecursion-append (λ p. IsDoFile p.do_file) (place_at dir (length s) (default_file s)) (defaults_by ss dir)
    (do_at dir (length s) (default_file s) d (IsFileName-default s h.0) (subst (λ f. IsDo (child_of dir f)) (append_assoc (codes "default") s (codes ".do")) (do_child dir (codes "default" ++ s))))
    (do_defaults dir ss d h.1)

do_upward : (name : List ℕ) (dirs : List (List ℕ)) → AllByRecursion IsDir dirs → NoSlash name → AllByRecursion (λ p. IsDoFile p.do_file) (flat_map (defaults_in name) dirs)
do_upward name [] d h = tt
do_upward name (dir ∷ dirs) d h =
    AllByRecursion-append (λ p. IsDoFile p.do_file) (defaults_in name dir) (flat_map (defaults_in name) dirs)
    (do_defaults dir (suffixes name) d.0 (suffixes-no_slash name h)) (do_upward name dirs d.1 h)

-- the fronts of names are names, from the first to the last and the other way round
fronts-names : (ns : List (List ℕ)) → AllByRecursion IsName ns → AllByRecursion (AllByRecursion IsName) (fronts ns)
fronts-names [] h = (tt, tt)
fronts-names (n ∷ ns) h = (tt, longer (fronts ns) (fronts-names ns h.1)) where
  longer : (fs : List (List (List ℕ))) → AllByRecursion (AllByRecursion IsName) fs → AllByRecursion (AllByRecursion IsName) (map (λ front. n ∷ front) fs)
  longer [] k = tt
  longer (f ∷ fs) k = ((h.0, k.0), longer fs k.1)

turned : {X : Type 0} (P : X → Type 0) (xs : List X) → AllByRecursion P xs → AllByRecursion P (reverse xs)
turned P [] h = tt
turned P (x ∷ xs) h = subst (AllByRecursion P) (sym (reverse-append (x ∷ []) xs)) (AllByRecursion-append P (reverse xs) (x ∷ []) (turned P xs h.1) (h.0, tt))

dirs_of : (fs : List (List (List ℕ))) → AllByRecursion (AllByRecursion IsName) fs → AllByRecursion IsDir (map text_of fs)
dirs_of [] h = tt
dirs_of (f ∷ fs) h = (subst (AllByRecursion IsName) (sym (names-text_of f h.0)) h.0, dirs_of fs h.1)

dirs_upward : (dir : List ℕ) → IsDir dir → AllByRecursion IsDir (upward dir)
dirs_upward dir h = dirs_of (reverse (fronts (names dir))) (turned (AllByRecursion IsName) (fronts (names dir)) (fronts-names (names dir) h))

dirs_above : (dirs : List (List ℕ)) → AllByRecursion IsDir dirs → AllByRecursion IsDir (above dirs)
dirs_above [] h = tt
dirs_above (d ∷ ds) h = h.1

do_distinct : (dir name : List ℕ) → IsDir dir → NoSlash name → AllByRecursion (λ p. IsDoFile p.do_file) (distinct_places dir name)
do_distinct dir name d h =
    let Q = λ (p : Place). IsDoFile p.do_file in
    let own = without_whole name (suffixes name) in
    AllByRecursion-append Q (place_at dir 0 (named_file name) ++ defaults_by own dir) (flat_map (defaults_in name) (above (upward dir)))
    (AllByRecursion-append Q (place_at dir 0 (named_file name)) (defaults_by own dir)
    (do_at dir 0 (named_file name) d (IsFileName-named name h) (do_child dir name))
    (do_defaults dir own d (without_whole-all NoSlash name (suffixes name) (suffixes-no_slash name h))))
    (do_upward name (above (upward dir)) (dirs_above (upward dir) (dirs_upward dir d)) h)

-- the directory that a path lies in
dir_of : (target dir : List ℕ) → LiesIn target dir → IsDir dir
dir_of target dir h = AllByRecursion-front IsName (names dir) (name_of target ∷ []) (subst (AllByRecursion IsName) h.split h.is_path.each)

do_candidates : (target : List ℕ) → IsTarget target → AllByRecursion (λ p. IsDoFile p.do_file) (candidates_of target)
do_candidates target =
    elim (parent_of target) as (λ (o : Option (List ℕ)). parent_of target ≡ o → IfSome o (LiesIn target) → AllByRecursion (λ p. IsDoFile p.do_file) (candidates_of target)) [
      | None ↦ λ e h. subst (AllByRecursion (λ p. IsDoFile p.do_file)) (ap (λ o. elim o as (λ _. List Place) [ None ↦ [] | Some dir ↦ cond (is_never_made target) [] (once (places_of dir (name_of target))) ]) (sym e)) tt
      | Some dir ↦ λ e h.
          subst (AllByRecursion (λ p. IsDoFile p.do_file)) (sym (candidates-distinct target dir h))
          (elim (is_never_made target) as (λ b. AllByRecursion (λ p. IsDoFile p.do_file) (cond b [] (distinct_places dir (name_of target)))) [
            | true ↦ tt
            | false ↦ do_distinct dir (name_of target) (dir_of target dir h) (name_part target dir (name_of target) h refl).no_slash
          ])
    ] refl

-- a path that doesn't is none of them
other_end : (path other : List ℕ) → ends_with nat_eq path (codes ".do") ≡ false → IsDo other → bytes_eq path other ≡ false
other_end path other h k = not_same path other (λ e. let bad : true ≡ false = sym k ∙ ap (λ p. ends_with nat_eq p (codes ".do")) (sym e) ∙ h in apart cc)

not_do : (path : List ℕ) (count : ℕ) (list : List Place) → ends_with nat_eq path (codes ".do") ≡ false → AllByRecursion (λ p. IsDoFile p.do_file) list → list_any (λ other. bytes_eq path other) (map (λ p. p.do_file) (take count list)) ≡ false
not_do path zero list h each = refl
not_do path (suc n) [] h each = refl
not_do path (suc n) (p ∷ ps) h each = λ i. other_end path p.do_file h each.0.ends i || not_do path n ps h each.1 i

pub none-do : (path target : List ℕ) (count : ℕ) → AreFirst target count → ends_with nat_eq path (codes ".do") ≡ false → false ≡ list_any (λ other. bytes_eq path other) (first_candidates target count)
none-do path target count first h = sym (not_do path count (candidates_of target) h (do_candidates target first.is_target))

-- and so none is the root
not_the_root : (path : List ℕ) → IsDo path → path ≢ []
not_the_root path h e = let bad : true ≡ false = sym h ∙ ap (λ p. ends_with nat_eq p (codes ".do")) e in apart cc

all_below : (count : ℕ) (list : List Place) → AllByRecursion (λ p. IsDoFile p.do_file) list → AllByRecursion IsBelowRoot (map (λ p. p.do_file) (take count list))
all_below zero list h = tt
all_below (suc n) [] h = tt
all_below (suc n) (p ∷ ps) h = ((not_the_root p.do_file h.0.ends, h.0.is_path), all_below n ps h.1)

pub first-below : (target : List ℕ) (count : ℕ) → AreFirst target count → AllByRecursion IsBelowRoot (first_candidates target count)
first-below target count first = all_below count (candidates_of target) (do_candidates target first.is_target)
