-- Each candidate stands once: only the one by the whole name is met again, as the first by suffix.
use Rattle.std.proofs.Common.{◌≡◌, ◌≢◌, ◌<◌, ◌≤◌, ℕ, true, false, cond, ◌||◌, List, [], ◌∷◌, ◌++◌, length, codes, refl}
use Rattle.std.proofs.Common.{sym, ap, subst, ◌∙◌, suc, arith, length-append, append_assoc, append-nil, map, reverse}
use Rattle.std.specs.List.{AllByRecursion, list_any}
use Rattle.std.specs.Prelude.{Ok, Err, Result, flat_map, fold}
use Rattle.std.specs.Str.{bytes_eq}
use Rattle.std.proofs.lemmas.List.{reverse-append, reverse-reverse}
use Rattle.std.proofs.lemmas.List.Sums.{fold-append}
use Rattle.std.proofs.lemmas.Grind.{reverse_onto}
use Rattle.std.proofs.lemmas.Slice.Eq.{bytes_eq-Decides}
use Rattle.redo_path.proofs.ApartLemmas.{apart}
use Rattle.redo_path.proofs.PartLemmas.{AllByRecursion-append, parts-append, parts-name, parts-names}
use Rattle.redo_path.specs.Names.{IsName, child_of, names, parts, text_of}
use Rattle.redo_path.specs.declared.PathFault.{PathFault}
use Rattle.redo_path.specs.Resolve.{resolved}
use Rattle.redo_which.specs.Candidates.{Place, defaults_in, fronts, is_dot, place_at, places_of, suffixes, upward}
use Rattle.redo_which.specs.Candidates.{with_new}
use Rattle.redo_which.specs.inside.Distinct.{above, defaults_by, distinct_places, without_whole}
use Rattle.redo_which.proofs.FileLemmas.{IsFileName, IsFileName-default, IsFileName-named, NoSlash, child-depth}
use Rattle.redo_which.proofs.FileLemmas.{child-resolved, child-same, default-named, default-same, default_file}
use Rattle.redo_which.proofs.FileLemmas.{named-default, named_file, not_same}
use Rattle.redo_which.proofs.PlaceLemmas.{fronts-append, upward-first}

all-map : {X : Type 0} (P Q : X → Type 0) → ((x : X) → P x → Q x) → (xs : List X) → AllByRecursion P xs → AllByRecursion Q xs
all-map P Q f [] h = tt
all-map P Q f (x ∷ xs) h = (f x h.0, all-map P Q f xs h.1)

-- ---- the suffixes of a name

-- each is longer than those behind it
abbrev Shrink : List (List ℕ) → Type 0
Shrink [] = Unit {0}
Shrink (s ∷ ss) = AllByRecursion (λ t. length t < length s) ss × Shrink ss

suffixes-short : (t : List ℕ) → AllByRecursion (λ s. length s ≤ length t) (suffixes t)
suffixes-short [] = (omega arith, tt)
suffixes-short (b ∷ bs) =
    let rest : AllByRecursion (λ s. length s ≤ length (b ∷ bs)) (suffixes bs) = all-map (λ s. length s ≤ length bs) (λ s. length s ≤ length (b ∷ bs)) (λ s h. omega (arith, h)) (suffixes bs) (suffixes-short bs) in
    elim (is_dot b) as (λ c. AllByRecursion (λ s. length s ≤ length (b ∷ bs)) (cond c ((b ∷ bs) ∷ suffixes bs) (suffixes bs))) [ true ↦ (omega arith, rest) | false ↦ rest ]

suffixes-shrink : (t : List ℕ) → Shrink (suffixes t)
suffixes-shrink [] = (tt, tt)
suffixes-shrink (b ∷ bs) =
    let rest : AllByRecursion (λ s. length s < length (b ∷ bs)) (suffixes bs) = all-map (λ s. length s ≤ length bs) (λ s. length s < length (b ∷ bs)) (λ s h. omega (arith, h)) (suffixes bs) (suffixes-short bs) in
    elim (is_dot b) as (λ c. Shrink (cond c ((b ∷ bs) ∷ suffixes bs) (suffixes bs))) [ true ↦ (rest, suffixes-shrink bs) | false ↦ suffixes-shrink bs ]

pub suffixes-no_slash : (t : List ℕ) → NoSlash t → AllByRecursion NoSlash (suffixes t)
suffixes-no_slash [] h = (tt, tt)
suffixes-no_slash (b ∷ bs) h =
    elim (is_dot b) as (λ c. AllByRecursion NoSlash (cond c ((b ∷ bs) ∷ suffixes bs) (suffixes bs))) [ true ↦ (h, suffixes-no_slash bs h.1) | false ↦ suffixes-no_slash bs h.1 ]

-- behind `default` a suffix is the longest one
abbrev IsLongest : List ℕ → Type 0
IsLongest suffix = (more : List (List ℕ)) × (suffixes (codes "default" ++ suffix) ≡ suffix ∷ more)

suffixes-longest : (t : List ℕ) → AllByRecursion IsLongest (suffixes t)
suffixes-longest [] = (([], refl), tt)
suffixes-longest (b ∷ bs) =
    elim (is_dot b) as (λ c. is_dot b ≡ c → AllByRecursion IsLongest (cond c ((b ∷ bs) ∷ suffixes bs) (suffixes bs))) [
      | true ↦ λ e. ((suffixes bs, ap (λ c. cond c ((b ∷ bs) ∷ suffixes bs) (suffixes bs)) e), suffixes-longest bs)
      | false ↦ λ e. suffixes-longest bs
    ] refl

first_of : (x y : List ℕ) (xs ys : List (List ℕ)) → x ∷ xs ≡ y ∷ ys → x ≡ y
first_of x y xs ys e = cc

-- so where the candidate by the longest suffix isn't the one by the whole name, none is
none_whole : (name longest : List ℕ) (rest : List (List ℕ)) → suffixes name ≡ longest ∷ rest → name ≢ codes "default" ++ longest → AllByRecursion (λ t. name ≢ codes "default" ++ t) (longest ∷ rest)
none_whole name longest rest h other =
    all-map IsLongest (λ t. name ≢ codes "default" ++ t)
    (λ t long e. other (e ∙ ap (λ u. codes "default" ++ u) (sym (first_of longest t rest long.0 (sym h ∙ ap suffixes e ∙ long.1)))))
    (longest ∷ rest) (subst (AllByRecursion IsLongest) h (suffixes-longest name))

-- ---- the candidates by suffix in one directory

unlisted : (list : List Place) (do_file : List ℕ) → AllByRecursion (λ other. other.do_file ≢ do_file) list → list_any (λ other. bytes_eq other.do_file do_file) list ≡ false
unlisted [] do_file h = refl
unlisted (p ∷ ps) do_file h = λ i. not_same p.do_file do_file h.0 i || unlisted ps do_file h.1 i

-- a place that is none of the candidates by these suffixes
abbrev Misses : List ℕ → List (List ℕ) → Place → Type 0
Misses dir ends other = AllByRecursion (λ suffix. other.do_file ≢ child_of dir (default_file suffix)) ends

misses-first : (dir s path : List ℕ) (ss : List (List ℕ)) (list : List Place) → path ≡ child_of dir (default_file s) → AllByRecursion (Misses dir (s ∷ ss)) list → AllByRecursion (λ other. other.do_file ≢ path) list
misses-first dir s path ss list is h = all-map (Misses dir (s ∷ ss)) (λ other. other.do_file ≢ path) (λ other m e. m.0 (e ∙ is)) list h

misses-rest : (dir s : List ℕ) (ss : List (List ℕ)) (list : List Place) → AllByRecursion (Misses dir (s ∷ ss)) list → AllByRecursion (Misses dir ss) list
misses-rest dir s ss list h = all-map (Misses dir (s ∷ ss)) (Misses dir ss) (λ other m. m.1) list h

-- a candidate by suffix is none of those by shorter ones
misses-shorter : (dir s path : List ℕ) (ss : List (List ℕ)) → path ≡ child_of dir (default_file s) → AllByRecursion (λ t. length t < length s) ss → AllByRecursion (λ t. path ≢ child_of dir (default_file t)) ss
misses-shorter dir s path ss is h =
    all-map (λ t. length t < length s) (λ t. path ≢ child_of dir (default_file t))
    (λ t short e. let same : length s ≡ length t = ap length (default-same s t (child-same dir (default_file s) (default_file t) (sym is ∙ e))) in omega (arith, same, short)) ss h

-- they are added one by one
pub fold-defaults : (dir : List ℕ) (ends : List (List ℕ)) (list : List Place) → AllByRecursion NoSlash ends → Shrink ends → AllByRecursion (Misses dir ends) list
    → fold with_new list (defaults_by ends dir) ≡ list ++ defaults_by ends dir
fold-defaults dir [] list plain shrink misses = sym (append-nil list)
fold-defaults dir (s ∷ ss) list plain shrink misses =
    let places = λ (r : Result (List ℕ) PathFault). elim r as (λ _. List Place) [ Ok path ↦ record { do_file = path; dir = dir; cut = length s } ∷ [] | Err fault ↦ [] ] in
    elim (resolved dir (default_file s)) as (λ r. resolved dir (default_file s) ≡ r → fold with_new list (places r ++ defaults_by ss dir) ≡ list ++ (places r ++ defaults_by ss dir)) [
      | Ok path ↦ λ e.
          let new : Place = record { do_file = path; dir = dir; cut = length s } in
          let is = child-resolved dir (default_file s) path (IsFileName-default s plain.0) e in
          ap (λ b. fold with_new (cond b list (list ++ new ∷ [])) (defaults_by ss dir)) (unlisted list path (misses-first dir s path ss list is misses))
          ∙ fold-defaults dir ss (list ++ new ∷ []) plain.1 shrink.1 (AllByRecursion-append (Misses dir ss) list (new ∷ []) (misses-rest dir s ss list misses) (misses-shorter dir s path ss is shrink.0, tt))
          ∙ append_assoc list (new ∷ []) (defaults_by ss dir)
      | Err fault ↦ λ e. fold-defaults dir ss list plain.1 shrink.1 (misses-rest dir s ss list misses)
    ] refl

-- how deep they lie
depths : (dir : List ℕ) (ends : List (List ℕ)) → AllByRecursion NoSlash ends → AllByRecursion (λ p. length (names p.do_file) ≡ suc (length (names dir))) (defaults_by ends dir)
depths dir [] plain = tt
depths dir (s ∷ ss) plain =
    let deep = λ (p : Place). length (names p.do_file) ≡ suc (length (names dir)) in
    let places = λ (r : Result (List ℕ) PathFault). elim r as (λ _. List Place) [ Ok path ↦ record { do_file = path; dir = dir; cut = length s } ∷ [] | Err fault ↦ [] ] in
    elim (resolved dir (default_file s)) as (λ r. resolved dir (default_file s) ≡ r → AllByRecursion deep (places r ++ defaults_by ss dir)) [
      | Ok path ↦ λ e.
          let file = IsFileName-default s plain.0 in
          (ap (λ t. length (names t)) (child-resolved dir (default_file s) path file e) ∙ child-depth dir (default_file s) file, depths dir ss plain.1)
      | Err fault ↦ λ e. depths dir ss plain.1
    ] refl

-- ---- the directories upwards

-- each lies less deep than the one before it
abbrev Falls : ℕ → List (List ℕ) → Type 0
Falls depth [] = Unit {0}
Falls depth (dir ∷ dirs) = (length (names dir) < depth) × Falls (length (names dir)) dirs

misses-deeper : (dir : List ℕ) (ends : List (List ℕ)) (other : Place) → AllByRecursion NoSlash ends → suc (length (names dir)) < length (names other.do_file) → Misses dir ends other
misses-deeper dir ends other plain deep =
    all-map NoSlash (λ suffix. other.do_file ≢ child_of dir (default_file suffix))
    (λ suffix h e. let same : length (names other.do_file) ≡ length (names (child_of dir (default_file suffix))) = ap (λ t. length (names t)) e in omega (arith, same, deep, child-depth dir (default_file suffix) (IsFileName-default suffix h))) ends plain

fold-upward : (name : List ℕ) (dirs : List (List ℕ)) (depth : ℕ) (list : List Place) → NoSlash name → Falls depth dirs → AllByRecursion (λ p. depth < length (names p.do_file)) list
    → fold with_new list (flat_map (defaults_in name) dirs) ≡ list ++ flat_map (defaults_in name) dirs
fold-upward name [] depth list plain falls deep = sym (append-nil list)
fold-upward name (dir ∷ dirs) depth list plain falls deep =
    let ends = suffixes-no_slash name plain in
    let here = length (names dir) in
    let old = all-map (λ p. depth < length (names p.do_file)) (λ p. here < length (names p.do_file)) (λ p h. omega (arith, h, falls.0)) list deep in
    let new = all-map (λ p. length (names p.do_file) ≡ suc here) (λ p. here < length (names p.do_file)) (λ p h. omega (arith, h)) (defaults_in name dir) (depths dir (suffixes name) ends) in
    fold-append with_new list (defaults_in name dir) (flat_map (defaults_in name) dirs)
    ∙ ap (λ l. fold with_new l (flat_map (defaults_in name) dirs)) (fold-defaults dir (suffixes name) list ends (suffixes-shrink name)
    (all-map (λ p. depth < length (names p.do_file)) (Misses dir (suffixes name)) (λ p h. misses-deeper dir (suffixes name) p ends (omega (arith, h, falls.0))) list deep))
    ∙ fold-upward name dirs here (list ++ defaults_in name dir) plain falls.1 (AllByRecursion-append (λ p. here < length (names p.do_file)) list (defaults_in name dir) old new)
    ∙ append_assoc list (defaults_in name dir) (flat_map (defaults_in name) dirs)

parts-text_of : (n : List ℕ) (ns : List (List ℕ)) → AllByRecursion IsName (n ∷ ns) → parts (text_of (n ∷ ns)) ≡ n ∷ ns
parts-text_of n [] h = parts-name n h.0.part.no_slash
parts-text_of n (m ∷ ns) h = parts-append n (text_of (m ∷ ns)) ∙ (λ i. parts-name n h.0.part.no_slash i ++ parts-text_of m ns h.1 i)

some_text : (n : List ℕ) (ns : List (List ℕ)) → n ≢ [] → text_of (n ∷ ns) ≢ []
some_text [] ns h e = h refl
some_text (b ∷ bs) [] h e = cc
some_text (b ∷ bs) (m ∷ ns) h e = cc

pub names-text_of : (ns : List (List ℕ)) → AllByRecursion IsName ns → names (text_of ns) ≡ ns
names-text_of [] h = refl
names-text_of (n ∷ ns) h = parts-names (text_of (n ∷ ns)) (some_text n ns h.0.nonempty) ∙ parts-text_of n ns h

front_names : {X : Type 0} (P : X → Type 0) (xs ys : List X) → AllByRecursion P (xs ++ ys) → AllByRecursion P xs
front_names P [] ys h = tt
front_names P (x ∷ xs) ys h = (h.0, front_names P xs ys h.1)

falls-more : (ns : List (List ℕ)) (n : List ℕ) → AllByRecursion IsName (ns ++ n ∷ []) → Falls (suc (length ns)) (map text_of (reverse (fronts ns))) → Falls (suc (suc (length ns))) (map text_of (reverse (fronts (ns ++ n ∷ []))))
falls-more ns n named falls =
    let dir = text_of (ns ++ n ∷ []) in
    let deep : length (names dir) ≡ suc (length ns) = omega (arith, ap length (names-text_of (ns ++ n ∷ []) named), length-append ns (n ∷ [])) in
    let dirs : map text_of (reverse (fronts (ns ++ n ∷ []))) ≡ dir ∷ map text_of (reverse (fronts ns)) =
    ap (λ fs. map text_of (reverse fs)) (fronts-append ns n) ∙ ap (map text_of) (reverse-append (fronts ns) ((ns ++ n ∷ []) ∷ [])) in
    subst (Falls (suc (suc (length ns)))) (sym dirs) (omega (arith, deep), subst (λ k. Falls k (map text_of (reverse (fronts ns)))) (sym deep) falls)

falls-reverse : (rs : List (List ℕ)) → AllByRecursion IsName (reverse rs) → Falls (suc (length (reverse rs))) (map text_of (reverse (fronts (reverse rs))))
falls-reverse [] h = (omega arith, tt)
falls-reverse (n ∷ rs) h =
    let snoc : reverse (n ∷ rs) ≡ reverse rs ++ n ∷ [] = reverse_onto rs n [] in
    let named = subst (AllByRecursion IsName) snoc h in
    let size : suc (length (reverse rs)) ≡ length (reverse rs ++ n ∷ []) = omega (arith, length-append (reverse rs) (n ∷ [])) in
    let more = falls-more (reverse rs) n named (falls-reverse rs (front_names IsName (reverse rs) (n ∷ []) named)) in
    subst (λ ns. Falls (suc (length ns)) (map text_of (reverse (fronts ns)))) (sym snoc) (subst (λ k. Falls (suc k) (map text_of (reverse (fronts (reverse rs ++ n ∷ []))))) size more)

falls-upward : (dir : List ℕ) → AllByRecursion IsName (names dir) → Falls (suc (length (names dir))) (upward dir)
falls-upward dir h =
    let back = reverse-reverse (names dir) in
    subst (λ ns. Falls (suc (length ns)) (map text_of (reverse (fronts ns)))) back (falls-reverse (reverse (names dir)) (subst (AllByRecursion IsName) (sym back) h))

-- ---- the target's own directory

-- a list of one place that may be left out
one_place : (dir : List ℕ) (cut : ℕ) (file : List ℕ) → fold with_new [] (place_at dir cut file) ≡ place_at dir cut file
one_place dir cut file =
    let places = λ (r : Result (List ℕ) PathFault). elim r as (λ _. List Place) [ Ok path ↦ record { do_file = path; dir = dir; cut = cut } ∷ [] | Err fault ↦ [] ] in
    elim (resolved dir file) as (λ r. fold with_new [] (places r) ≡ places r) [ Ok path ↦ refl | Err fault ↦ refl ]

-- what holds of the path of a file name holds of its place
pub place-all : (P : List ℕ → Type 0) (dir : List ℕ) (cut : ℕ) (file : List ℕ) → IsFileName file → P (child_of dir file) → AllByRecursion (λ p. P p.do_file) (place_at dir cut file)
place-all P dir cut file h k =
    let places = λ (r : Result (List ℕ) PathFault). elim r as (λ _. List Place) [ Ok path ↦ record { do_file = path; dir = dir; cut = cut } ∷ [] | Err fault ↦ [] ] in
    elim (resolved dir file) as (λ r. resolved dir file ≡ r → AllByRecursion (λ p. P p.do_file) (places r)) [
      | Ok path ↦ λ e. (subst P (sym (child-resolved dir file path h e)) k, tt)
      | Err fault ↦ λ e. tt
    ] refl

same_bytes : (path : List ℕ) → bytes_eq path path ≡ true
same_bytes path = (bytes_eq-Decides path path).1 refl

-- the same file again adds nothing
place-again : (dir file : List ℕ) (a b : ℕ) (rest : List Place) → fold with_new (place_at dir a file) (place_at dir b file ++ rest) ≡ fold with_new (place_at dir a file) rest
place-again dir file a b rest =
    let places = λ (cut : ℕ) (r : Result (List ℕ) PathFault). elim r as (λ _. List Place) [ Ok path ↦ record { do_file = path; dir = dir; cut = cut } ∷ [] | Err fault ↦ [] ] in
    elim (resolved dir file) as (λ r. fold with_new (places a r) (places b r ++ rest) ≡ fold with_new (places a r) rest) [
      | Ok path ↦
          let old : Place = record { do_file = path; dir = dir; cut = a } in
          let new : Place = record { do_file = path; dir = dir; cut = b } in
          ap (λ c. fold with_new (cond (c || false) (old ∷ []) (old ∷ new ∷ [])) rest) (same_bytes path)
      | Err fault ↦ refl
    ]

named_misses : (dir name : List ℕ) (ends : List (List ℕ)) → AllByRecursion (λ t. name ≢ codes "default" ++ t) ends → AllByRecursion (λ t. child_of dir (named_file name) ≢ child_of dir (default_file t)) ends
named_misses dir name ends h =
    all-map (λ t. name ≢ codes "default" ++ t) (λ t. child_of dir (named_file name) ≢ child_of dir (default_file t))
    (λ t other e. other (default-named name t (child-same dir (named_file name) (default_file t) e))) ends h

own-fold : (dir name : List ℕ) (ends : List (List ℕ)) → suffixes name ≡ ends → NoSlash name → AllByRecursion NoSlash ends → Shrink ends
    → fold with_new (place_at dir 0 (named_file name)) (defaults_by ends dir) ≡ place_at dir 0 (named_file name) ++ defaults_by (without_whole name ends) dir
own-fold dir name [] is name_plain plain shrink = sym (append-nil (place_at dir 0 (named_file name)))
own-fold dir name (s ∷ ss) is name_plain plain shrink =
    let whole = place_at dir 0 (named_file name) in
    elim (bytes_eq name (codes "default" ++ s)) as (λ b. bytes_eq name (codes "default" ++ s) ≡ b → fold with_new whole (defaults_by (s ∷ ss) dir) ≡ whole ++ defaults_by (cond b ss (s ∷ ss)) dir) [
      | true ↦ λ e.
          let file = named-default name s ((bytes_eq-Decides name (codes "default" ++ s)).0 e) in
          ap (λ f. fold with_new whole (place_at dir (length s) f ++ defaults_by ss dir)) (sym file)
          ∙ place-again dir (named_file name) 0 (length s) (defaults_by ss dir)
          ∙ fold-defaults dir ss whole plain.1 shrink.1 (place-all (λ path. AllByRecursion (λ t. path ≢ child_of dir (default_file t)) ss) dir 0 (named_file name) (IsFileName-named name name_plain)
          (misses-shorter dir s (child_of dir (named_file name)) ss (ap (child_of dir) file) shrink.0))
      | false ↦ λ e.
          let other : name ≢ codes "default" ++ s = λ same. let yes : bytes_eq name (codes "default" ++ s) ≡ true = (bytes_eq-Decides name (codes "default" ++ s)).1 same in apart cc in
          fold-defaults dir (s ∷ ss) whole plain shrink (place-all (λ path. AllByRecursion (λ t. path ≢ child_of dir (default_file t)) (s ∷ ss)) dir 0 (named_file name) (IsFileName-named name name_plain)
          (named_misses dir name (s ∷ ss) (none_whole name s ss is other)))
    ] refl

pub without_whole-all : (P : List ℕ → Type 0) (name : List ℕ) (ends : List (List ℕ)) → AllByRecursion P ends → AllByRecursion P (without_whole name ends)
without_whole-all P name [] h = tt
without_whole-all P name (s ∷ ss) h =
    elim (bytes_eq name (codes "default" ++ s)) as (λ b. AllByRecursion P (cond b ss (s ∷ ss))) [ true ↦ h.1 | false ↦ h ]

pub once-distinct : (dir name : List ℕ) → AllByRecursion IsName (names dir) → NoSlash name → fold with_new [] (places_of dir name) ≡ distinct_places dir name
once-distinct dir name named plain =
    let whole = place_at dir 0 (named_file name) in
    let ends = suffixes-no_slash name plain in
    let own = defaults_by (without_whole name (suffixes name)) dir in
    let up = upward-first dir in
    let parent_text = flat_map (defaults_in name) up.0 in
    let here = length (names dir) in
    let falls : Falls (suc here) (dir ∷ up.0) = subst (Falls (suc here)) up.1 (falls-upward dir named) in
    let deep = λ (p : Place). here < length (names p.do_file) in
    let higher : parent_text ≡ flat_map (defaults_in name) (above (upward dir)) = ap (λ ds. flat_map (defaults_in name) (above ds)) (sym up.1) in
    let first = place-all (λ path. here < length (names path)) dir 0 (named_file name) (IsFileName-named name plain) (omega (arith, child-depth dir (named_file name) (IsFileName-named name plain))) in
    let next = all-map (λ p. length (names p.do_file) ≡ suc here) deep (λ p h. omega (arith, h)) own (depths dir (without_whole name (suffixes name)) (without_whole-all NoSlash name (suffixes name) ends)) in
    ap (λ ds. fold with_new [] (whole ++ flat_map (defaults_in name) ds)) up.1
    ∙ fold-append with_new [] whole (defaults_in name dir ++ parent_text)
    ∙ ap (λ l. fold with_new l (defaults_in name dir ++ parent_text)) (one_place dir 0 (named_file name))
    ∙ fold-append with_new whole (defaults_in name dir) parent_text
    ∙ ap (λ l. fold with_new l parent_text) (own-fold dir name (suffixes name) refl plain ends (suffixes-shrink name))
    ∙ fold-upward name up.0 here (whole ++ own) plain falls.1 (AllByRecursion-append deep whole own first next)
    ∙ ap (λ us. whole ++ own ++ us) higher
