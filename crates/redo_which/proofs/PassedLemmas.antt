-- Candidates that are passed over.
use Rattle.std.proofs.Common.{◌≡◌, ◌≢◌, ◌<◌, ◌≤◌, filter, ◌+◌, ◌-◌, ℕ, Bool, true, false, cond, not, List, [], ◌∷◌}
use Rattle.std.proofs.Common.{◌++◌, length, map, take, drop, codes, refl, sym, ap, subst, ◌∙◌, arith, suc, append_assoc}
use Rattle.std.proofs.Common.{length-append, ◌&&◌}
use Rattle.std.proofs.lemmas.Grind.{common_steps}
use Rattle.std.proofs.lemmas.List.Sums.{count_by-le-length, length-filter, take_while-cons}
use Rattle.std.specs.List.{AllByRecursion}
use Rattle.std.specs.Prelude.{is_some, nat_le, take_while}
use Rattle.redo_path.proofs.PartLemmas.{AllByRecursion-append}
use Rattle.redo_path.specs.Names.{IsPart, child_of}
use Rattle.redo_tree.specs.Tree.{HasNoDefaults, Tree}
use Rattle.redo_which.specs.Candidates.{Place, is_dot, place_at, suffixes}
use Rattle.redo_which.specs.inside.Passed.{Passes}
use Rattle.redo_which.specs.Rule.{chosen_among, is_file, missing_among}
use Rattle.redo_which.specs.inside.Slots.{shorter, slots_by}
use Rattle.redo_which.proofs.FileLemmas.{IsFileName-default, suffixes_part}
use Rattle.redo_which.proofs.OnceLemmas.{place-all}
use Rattle.redo_which.proofs.PieceLemmas.{no_place, one_place, part_end}
use Rattle.redo_which.proofs.SlotLemmas.{flat, flat-append}

abbrev IsNoFile : Tree → Place → Type 0
IsNoFile tree p = is_file tree p.do_file ≡ false

-- ---- a directory without such files

bare-by : (tree : Tree) (dir : List ℕ) → HasNoDefaults tree dir → (ends : List (List ℕ)) → AllByRecursion IsPart ends → AllByRecursion (IsNoFile tree) (flat (slots_by ends dir))
bare-by tree dir bare [] h = tt
bare-by tree dir bare (s ∷ ss) h =
    AllByRecursion-append (IsNoFile tree) (place_at dir (length s) (codes "default" ++ s ++ codes ".do")) (flat (slots_by ss dir))
    (place-all (λ path. is_file tree path ≡ false) dir (length s) (codes "default" ++ s ++ codes ".do") (IsFileName-default s h.0.no_slash) (ap is_some (bare s h.0)))
    (bare-by tree dir bare ss h.1)

-- the candidates by suffix in it are passed over
pub passes-by : (tree : Tree) (dir end : List ℕ) (count : ℕ) (old rest : List (List Place)) → HasNoDefaults tree dir → IsPart end → count ≡ length (flat (slots_by (suffixes end) dir)) → old ≡ slots_by (suffixes end) dir ++ rest → Passes tree count (flat old) (flat rest)
passes-by tree dir end count old rest bare part h e = record {
  passed = flat (slots_by (suffixes end) dir);
  split = ap flat e ∙ flat-append (slots_by (suffixes end) dir) rest;
  count_is = h;
  no_files = bare-by tree dir bare (suffixes end) (suffixes_part end part);
}

-- ---- some and then some more

pub passes-none : (tree : Tree) (places : List Place) → Passes tree 0 places places
passes-none tree places = record { passed = []; split = refl; count_is = refl; no_files = tt }

-- one that is no file
pub passes-first : (tree : Tree) (p : Place) (a b : List Place) → a ≡ p ∷ b → is_file tree p.do_file ≡ false → Passes tree 1 a b
passes-first tree p a b e h = record { passed = p ∷ []; split = e; count_is = refl; no_files = (h, tt) }

pub passes-more : (tree : Tree) (n m : ℕ) (a b c : List Place) → Passes tree n a b → Passes tree m b c → Passes tree (n + m) a c
passes-more tree n m a b c h k = record {
  passed = h.passed ++ k.passed;
  split = h.split ∙ ap (λ l. h.passed ++ l) k.split ∙ sym (append_assoc h.passed k.passed c);
  count_is = let e = length-append h.passed k.passed in let f = h.count_is in let g = k.count_is in omega (arith, e, f, g);
  no_files = AllByRecursion-append (IsNoFile tree) h.passed k.passed h.no_files k.no_files;
}

pub passes-few : (tree : Tree) (n : ℕ) (a b : List Place) → Passes tree n a b → n + length b ≡ length a
passes-few tree n a b h = let e = length-append h.passed b in let f = ap length h.split in let g = h.count_is in omega (arith, e, f, g)

-- ---- what is looked for is among those that are left

missing-next : (tree : Tree) (p : Place) (ps : List Place) → IsNoFile tree p → length (missing_among tree (p ∷ ps)) ≡ suc (length (missing_among tree ps))
missing-next tree p ps h =
    ap (λ l. length (map (λ (p : Place). p.do_file) l)) (take_while-cons (λ (p : Place). not (is_file tree p.do_file)) p ps)
    ∙ ap (λ b. length (map (λ (p : Place). p.do_file) (cond (not b) (p ∷ take_while (λ p. not (is_file tree p.do_file)) ps) []))) h

missing-past : (tree : Tree) (xs ys : List Place) → AllByRecursion (IsNoFile tree) xs → length (missing_among tree (xs ++ ys)) ≡ length xs + length (missing_among tree ys)
missing-past tree [] ys h = omega arith
missing-past tree (x ∷ xs) ys h =
    let first = missing-next tree x (xs ++ ys) h.0 in
    let rest = missing-past tree xs ys h.1 in
    omega (arith, first, rest)

pub passes-missing : (tree : Tree) (n : ℕ) (a b : List Place) → Passes tree n a b → length (missing_among tree a) ≡ n + length (missing_among tree b)
passes-missing tree n a b h =
    ap (λ l. length (missing_among tree l)) h.split ∙ missing-past tree h.passed b h.no_files ∙ ap (λ k. k + length (missing_among tree b)) (sym h.count_is)

chosen-past : (tree : Tree) (xs ys : List Place) → AllByRecursion (IsNoFile tree) xs → chosen_among tree (xs ++ ys) ≡ chosen_among tree ys
chosen-past tree [] ys h = refl
chosen-past tree (x ∷ xs) ys h = rw h.0 (chosen-past tree xs ys h.1)

pub passes-chosen : (tree : Tree) (n : ℕ) (a b : List Place) → Passes tree n a b → chosen_among tree a ≡ chosen_among tree b
passes-chosen tree n a b h = ap (chosen_among tree) h.split ∙ chosen-past tree h.passed b h.no_files

-- ---- how many there are

abbrev fit : List ℕ → List ℕ → Bool
fit dir suffix = nat_le (length (codes "default" ++ suffix ++ codes ".do")) 255 && nat_le (length (child_of dir (codes "default" ++ suffix ++ codes ".do"))) 1024

pub default_part : (suffix : List ℕ) → IsPart suffix → IsPart (codes "default" ++ suffix)
default_part suffix h = record {
  no_slash = AllByRecursion-append _ (codes "default") suffix (refl, (refl, (refl, (refl, (refl, (refl, (refl, tt))))))) h.no_slash;
  printable = AllByRecursion-append _ (codes "default") suffix (refl, (refl, (refl, (refl, (refl, (refl, (refl, tt))))))) h.printable;
}

-- one that fits counts
pub count-fits : (dir left suffix : List ℕ) → IsPart suffix → suffixes left ≡ suffix ∷ shorter suffix → fit dir suffix ≡ true → length (flat (slots_by (suffixes left) dir)) ≡ 1 + length (flat (slots_by (shorter suffix) dir))
count-fits dir left suffix part e h =
    let first : length (flat (slots_by (suffixes left) dir)) ≡ suc (length (flat (slots_by (shorter suffix) dir))) =
    ap (λ ends. length (flat (slots_by ends dir))) e
    ∙ ap (λ places. length (places ++ flat (slots_by (shorter suffix) dir))) (sym (one_place dir (codes "default") suffix (length suffix) (default_part suffix part) h)) in
    omega (arith, first)

-- one that doesn't fit is none
pub count-none : (dir left suffix : List ℕ) → IsPart suffix → suffixes left ≡ suffix ∷ shorter suffix → fit dir suffix ≡ false → length (flat (slots_by (suffixes left) dir)) ≡ length (flat (slots_by (shorter suffix) dir))
count-none dir left suffix part e h =
    ap (λ ends. length (flat (slots_by ends dir))) e
    ∙ ap (λ places. length (places ++ flat (slots_by (shorter suffix) dir))) (sym (no_place dir (codes "default") suffix (length suffix) (default_part suffix part) h))

fit-less : (n m k l : ℕ) → k ≤ n → l ≤ m → (nat_le n 255 && nat_le m 1024) ≡ true → (nat_le k 255 && nat_le l 1024) ≡ true
fit-less n m k l h g e = grind (arith, common_steps)

child-less : (dir f g : List ℕ) → length f ≤ length g → length (child_of dir f) ≤ length (child_of dir g)
child-less [] f g h = h
child-less (d ∷ ds) f g h = let a = length-append (d ∷ ds) (47 ∷ f) in let b = length-append (d ∷ ds) (47 ∷ g) in omega (arith, a, b, h)

-- where an end fits, a shorter one does
fit-rest : (dir : List ℕ) (b : ℕ) (bs : List ℕ) → fit dir (b ∷ bs) ≡ true → fit dir bs ≡ true
fit-rest dir b bs h =
    let less : length (codes "default" ++ bs ++ codes ".do") ≤ length (codes "default" ++ (b ∷ bs) ++ codes ".do") = omega arith in
    fit-less _ _ _ _ less (child-less dir (codes "default" ++ bs ++ codes ".do") (codes "default" ++ (b ∷ bs) ++ codes ".do") less) h

-- where an end fits, there is a candidate by each of its suffixes: one for each dot, and one more
pub count-all : (dir end : List ℕ) → IsPart end → fit dir end ≡ true → length (flat (slots_by (suffixes end) dir)) ≡ length (filter is_dot end) + 1
count-all dir [] part h = count-fits dir [] [] part refl h
count-all dir (b ∷ bs) part h =
    let rest = count-all dir bs (part_end (b ∷ []) bs part) (fit-rest dir b bs h) in
    let first : is_dot b ≡ true → length (flat (slots_by (suffixes (b ∷ bs)) dir)) ≡ length (filter is_dot (b ∷ bs)) + 1 = λ dot.
    let e = count-fits dir (b ∷ bs) (b ∷ bs) part (ap (λ c. cond c ((b ∷ bs) ∷ suffixes bs) (suffixes bs)) dot) h in
    let f : length (filter is_dot (b ∷ bs)) ≡ suc (length (filter is_dot bs)) = ap (λ c. length (cond c (b ∷ filter is_dot bs) (filter is_dot bs))) dot in
    omega (arith, e, f, rest) in
    let other : is_dot b ≡ false → length (flat (slots_by (suffixes (b ∷ bs)) dir)) ≡ length (filter is_dot (b ∷ bs)) + 1 = λ dot.
    let e = ap (λ c. length (flat (slots_by (cond c ((b ∷ bs) ∷ suffixes bs) (suffixes bs)) dir))) dot in
    let f : length (filter is_dot (b ∷ bs)) ≡ length (filter is_dot bs) = ap (λ c. length (cond c (b ∷ filter is_dot bs) (filter is_dot bs))) dot in
    omega (arith, e, f, rest) in
    elim (is_dot b) as (λ c. is_dot b ≡ c → length (flat (slots_by (suffixes (b ∷ bs)) dir)) ≡ length (filter is_dot (b ∷ bs)) + 1) [ true ↦ first | false ↦ other ] refl

-- an end that fits has few dots
fit-short : (n m : ℕ) → (nat_le n 255 && nat_le m 1024) ≡ true → n ≤ 255
fit-short n m h = grind (arith, common_steps)

pub few-dots : (dir end : List ℕ) → fit dir end ≡ true → length (filter is_dot end) ≤ 255
few-dots dir end h =
    let short : length (codes "default" ++ end ++ codes ".do") ≤ 255 = fit-short _ _ h in
    let size = length-append end (codes ".do") in
    let dots = length-filter is_dot end in
    let within = count_by-le-length is_dot end in
    omega (arith, short, size, dots, within)

-- what is left behind the first byte of a suffix
pub record IsRest (suffix rest : List ℕ) : Type 0 where
  pub ends : shorter suffix ≡ suffixes rest
  pub part : IsPart suffix → IsPart rest
  pub size : length rest + 1 ≡ length suffix

pub shorter-some : (suffix : List ℕ) → length suffix ≢ 0 → IsRest suffix (take (length suffix - 1) (drop 1 suffix))
shorter-some [] h = absurd (h refl)
shorter-some (b ∷ bs) h =
    let same : take (length (b ∷ bs) - 1) (drop 1 (b ∷ bs)) ≡ bs = grind (arith, common_steps) in
    subst (IsRest (b ∷ bs)) (sym same) (record { ends = refl; part = part_end (b ∷ []) bs; size = omega arith })

-- behind a directory fewer slots are left
some-by : (end dir : List ℕ) → 0 < length (slots_by (suffixes end) dir)
some-by [] dir = omega arith
some-by (b ∷ bs) dir =
    elim (is_dot b) as (λ c. 0 < length (slots_by (cond c ((b ∷ bs) ∷ suffixes bs) (suffixes bs)) dir)) [ true ↦ omega arith | false ↦ some-by bs dir ]

pub fewer-by : (end dir : List ℕ) (old rest : List (List Place)) → old ≡ slots_by (suffixes end) dir ++ rest → length rest < length old
fewer-by end dir old rest e = let k = ap length e in let l = length-append (slots_by (suffixes end) dir) rest in let some = some-by end dir in omega (arith, k, l, some)
