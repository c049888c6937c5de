-- The .do file of a rule has the name of one.
use Rattle.std.proofs.Common.{◌≡◌, ◌<◌, ◌≤◌, ◌-◌, ◌+◌, ℕ, zero, suc, Bool, true, false, cond, not, inl, inr, Option}
use Rattle.std.proofs.Common.{Some, None, Result, Ok, Err, List, [], ◌∷◌, ◌++◌, codes, drop, length, nat_lt}
use Rattle.std.proofs.Common.{arith, refl, sym, ap, ◌∙◌, subst, append_assoc, length-append}
use Rattle.std.specs.List.{AllByRecursion, find, flat_map, fold, list_any, onto_first, prefix_len, suffix_len}
use Rattle.std.proofs.lemmas.List.{reverse-append}
use Rattle.std.specs.Option.{option_map_or}
use Rattle.std.specs.Str.{bytes_eq}
use Rattle.std.proofs.lemmas.Bool.{cases_Bool}
use Rattle.std.proofs.lemmas.Bool.Decides.{Decides-eqb}
use Rattle.std.proofs.lemmas.Slice.Eq.{ends_is}
use Rattle.redo_path.specs.declared.PathFault.{PathFault}
use Rattle.redo_path.specs.declared.PathFault.TheVariants.{LongPath}
use Rattle.redo_path.specs.Names.{is_slash, name_of, names, parent_of, parts, text_of}
use Rattle.redo_path.specs.Resolve.{resolved, walk, within_limit, word_fault, ◌>>=◌}
use Rattle.redo_tree.specs.Tree.{Tree}
use Rattle.redo_which.specs.Candidates.{Place, candidates_of, defaults_in, is_do_file, is_never_made, once, place_at}
use Rattle.redo_which.specs.Candidates.{places_of, suffixes, upward, with_new}
use Rattle.redo_which.specs.Rule.{Rule, Arguments, arguments_of, found_of, is_file, missing_of}
use Rattle.redo_record.specs.Paths.{Path}
use Rattle.redo_step.proofs.CandidateLemmas.{walk_long}
use Rattle.redo_step.proofs.SameRuleLemmas.{rule_comes}

abbrev Ending : List ℕ → Type 0
Ending text = (front : List ℕ) × (text ≡ front ++ codes ".do")

-- What a word names that ends in `.do`

onto_ending : (b : ℕ) (ps front : List (List ℕ)) (stem : List ℕ) → ps ≡ front ++ (stem ++ codes ".do") ∷ [] →
    (first : List (List ℕ)) × (longer : List ℕ) × (onto_first b ps ≡ first ++ (longer ++ codes ".do") ∷ [])
onto_ending b ps [] stem e = ([], b ∷ stem, ap (onto_first b) e)
onto_ending b ps (f ∷ fs) stem e = ((b ∷ f) ∷ fs, stem, ap (onto_first b) e)

parts_ending : (x : List ℕ) →
    (front : List (List ℕ)) × (stem : List ℕ) × (parts (x ++ codes ".do") ≡ front ++ (stem ++ codes ".do") ∷ [])
parts_ending [] = ([], [], refl)
parts_ending (b ∷ bs) =
    let rest = parts_ending bs in
    elim (is_slash b) as
    (λ (v : Bool). (front : List (List ℕ)) × (stem : List ℕ) ×
    (cond v ([] ∷ parts (bs ++ codes ".do")) (onto_first b (parts (bs ++ codes ".do"))) ≡
    front ++ (stem ++ codes ".do") ∷ [])) [
      | true ↦ ([] ∷ rest.0, rest.1, ap (λ (ps : List (List ℕ)). [] ∷ ps) rest.2)
      | false ↦ onto_ending b (parts (bs ++ codes ".do")) rest.0 rest.1 rest.2
    ]

text_ending : (above : List (List ℕ)) (stem : List ℕ) → Ending (text_of (above ++ (stem ++ codes ".do") ∷ []))
text_ending [] stem = (stem, refl)
text_ending (n ∷ []) stem = (n ++ 47 ∷ stem, sym (append_assoc n (47 ∷ stem) (codes ".do")))
text_ending (n ∷ m ∷ ns) stem =
    let rest = text_ending (m ∷ ns) stem in (
      n ++ 47 ∷ rest.0,
      ap (λ (text : List ℕ). n ++ 47 ∷ text) rest.1
          ∙ sym (append_assoc n (47 ∷ rest.0) (codes ".do")),
    )

drop_ending : (n : ℕ) (xs : List ℕ) → n ≤ length xs → Ending (drop n (xs ++ codes ".do"))
drop_ending zero xs h = (xs, refl)
drop_ending (suc n) [] h = absurd (omega (arith, h))
drop_ending (suc n) (x ∷ xs) h = drop_ending n xs (omega (arith, h))

-- no slash stands in the ending
name_ending : (x : List ℕ) → Ending (name_of (x ++ codes ".do"))
name_ending x =
    let q : ℕ → Bool = λ b. not (is_slash b) in
    let text : List ℕ = x ++ codes ".do" in
    let long : suffix_len q text ≡ 1 + (1 + (1 + suffix_len q x)) =
    ap (prefix_len q) (reverse-append x (codes ".do")) in
    let size : length text ≡ length x + 3 = length-append x (codes ".do") in
    drop_ending (length text - suffix_len q text) x (omega (arith, long, size))

ends_do : (path : List ℕ) → Ending path → is_do_file path ≡ true
ends_do path e =
    let name = name_ending e.0 in
    let same : name_of path ≡ name.0 ++ codes ".do" = ap name_of e.1 ∙ name.1 in
    (ends_is Decides-eqb (name_of path) (codes ".do") _ refl).1 name.0 same

within_ending : (text path : List ℕ) → Ending text → within_limit text ≡ Ok path → Ending path
within_ending text path ending e =
    (elim (nat_lt 1024 (length text)) as (λ (v : Bool). cond v (Err LongPath) (Ok text) ≡ Ok path → Ending path) [
      | true ↦ λ k. absurd cc
      | false ↦ λ k. let same : text ≡ path = cc in subst Ending same ending
    ]) e

resolved_ending : (dir x path : List ℕ) → resolved dir (x ++ codes ".do") ≡ Ok path → Ending path
resolved_ending dir x path e =
    let file : List ℕ = x ++ codes ".do" in
    let tail : List (List ℕ) → Result (List ℕ) PathFault = λ to. within_limit (text_of to) in
    let cut = parts_ending x in
    let long : 2 < length (cut.1 ++ codes ".do") = omega (arith, length-append cut.1 (codes ".do")) in
    (elim (word_fault file) as
    (λ (o : Option PathFault). option_map_or Err o (walk (names dir) (parts file) >>= tail) ≡ Ok path → Ending path) [
      | Some fault ↦ λ k. absurd cc
      | None ↦ (elim (walk (names dir) (parts file)) as
          (λ (r : Result (List (List ℕ)) PathFault). walk (names dir) (parts file) ≡ r → (r >>= tail) ≡ Ok path →
          Ending path) [
            | Ok to ↦ λ w k.
                let there = walk_long (names dir) to cut.0 (cut.1 ++ codes ".do") long (rw cut.2 at w) in
                within_ending (text_of to) path (rw there.1 (text_ending there.0 cut.1)) k
            | Err fault ↦ λ w k. absurd cc
          ]) refl
    ]) e

-- Candidates

abbrev IsNamed : Place → Type 0
IsNamed place = is_do_file place.do_file ≡ true

place_named : (dir : List ℕ) (cut : ℕ) (x : List ℕ) → AllByRecursion IsNamed (place_at dir cut (x ++ codes ".do"))
place_named dir cut x =
    let places : Result (List ℕ) PathFault → List Place = λ r.
    elim r as (λ _.
    List Place) [ Ok path ↦ record { do_file = path; dir = dir; cut = cut } ∷ [] | Err fault ↦ [] ] in
    elim (resolved dir (x ++ codes ".do")) as
    (λ (r : Result (List ℕ) PathFault). resolved dir (x ++ codes ".do") ≡ r → AllByRecursion IsNamed (places r)) [
      | Ok path ↦ λ e. (ends_do path (resolved_ending dir x path e), tt)
      | Err fault ↦ λ e. tt
    ] refl

named-append : (xs ys : List Place) → AllByRecursion IsNamed xs → AllByRecursion IsNamed ys →
    AllByRecursion IsNamed (xs ++ ys)
named-append [] ys a b = b
named-append (x ∷ xs) ys a b = (a.0, named-append xs ys a.1 b)

defaults_named : (dir : List ℕ) (ends : List (List ℕ)) →
    AllByRecursion IsNamed
    (flat_map (λ suffix. place_at dir (length suffix) (codes "default" ++ suffix ++ codes ".do")) ends)
defaults_named dir [] = tt
defaults_named dir (s ∷ ss) =
    named-append _ _ (place_named dir (length s) (codes "default" ++ s)) (defaults_named dir ss)

upward_named : (name : List ℕ) (dirs : List (List ℕ)) → AllByRecursion IsNamed (flat_map (defaults_in name) dirs)
upward_named name [] = tt
upward_named name (d ∷ ds) = named-append _ _ (defaults_named d (suffixes name)) (upward_named name ds)

new_named : (list : List Place) (place : Place) → AllByRecursion IsNamed list → IsNamed place →
    AllByRecursion IsNamed (with_new list place)
new_named list place all here =
    elim (list_any (λ other. bytes_eq other.do_file place.do_file) list) as
    (λ (v : Bool). AllByRecursion IsNamed (cond v list (list ++ place ∷ []))) [
      | true ↦ all
      | false ↦ named-append list (place ∷ []) all (here, tt)
    ]

once_named : (list places : List Place) → AllByRecursion IsNamed list → AllByRecursion IsNamed places →
    AllByRecursion IsNamed (fold with_new list places)
once_named list [] all h = all
once_named list (p ∷ ps) all h = once_named (with_new list p) ps (new_named list p all h.0) h.1

candidates_named : (target : List ℕ) → AllByRecursion IsNamed (candidates_of target)
candidates_named target =
    let places : List ℕ → List Place = λ dir. places_of dir (name_of target) in
    elim (parent_of target) as
    (λ (o : Option (List ℕ)). AllByRecursion IsNamed
    (elim o as (λ _. List Place) [ None ↦ [] | Some dir ↦ cond (is_never_made target) [] (once (places dir)) ])) [
      | None ↦ tt
      | Some dir ↦ elim (is_never_made target) as
          (λ (v : Bool). AllByRecursion IsNamed (cond v [] (once (places dir)))) [
            | true ↦ tt
            | false ↦ once_named [] (places dir) tt
                (named-append _ _ (place_named dir 0 (name_of target)) (upward_named (name_of target) (upward dir)))
          ]
    ]

find-all : (tree : Tree) (places : List Place) (place : Place) →
    find (λ (p : Place). is_file tree p.do_file) places ≡ Some place →
    AllByRecursion IsNamed places → IsNamed place
find-all tree [] place e all = absurd cc
find-all tree (x ∷ xs) place e all = elim (cases_Bool (is_file tree x.do_file)) [
  | inl t ↦ let chosen : Some x ≡ Some place = rw t at e in let same : x ≡ place = cc in subst IsNamed same all.0
  | inr n ↦ find-all tree xs place (rw n at e) all.1
]

-- the .do file of a rule has the name of one
pub rule_named : (tree : Tree) (target do_file : Path) (missing : List Path) (arguments : Arguments) →
    found_of tree target ≡ Rule do_file missing arguments → is_do_file do_file ≡ true
rule_named tree target do_file missing arguments found =
    let first = rule_comes tree target (rw found refl) in
    let is : Rule do_file missing arguments ≡ Rule first.0.do_file (missing_of tree target)
    (arguments_of target first.0) = sym found ∙ first.2 in
    let file : do_file ≡ first.0.do_file = cc in
    subst (λ (p : Path). is_do_file p ≡ true) (sym file)
    (find-all tree (candidates_of target) first.0 first.1 (candidates_named target))
