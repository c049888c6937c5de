-- No candidate of a target is the top directory.
use Rattle.std.proofs.Common.{◌≡◌, ◌≢◌, ◌<◌, ℕ, Bool, true, false, cond, inl, inr, Some, None, Result, Ok, Err}
use Rattle.std.proofs.Common.{List}
use Rattle.std.proofs.Common.{[], ◌∷◌, ◌++◌, codes, length, arith, nat_lt, refl, ap}
use Rattle.std.specs.List.{AllByRecursion, onto_first, flat_map, fold, list_any}
use Rattle.std.specs.Option.{option_map_or}
use Rattle.std.specs.Prelude.{Option}
use Rattle.std.specs.Str.{bytes_eq}
use Rattle.std.proofs.lemmas.Bool.{cases_Bool}
use Rattle.redo_path.specs.declared.PathFault.{PathFault}
use Rattle.redo_path.specs.declared.PathFault.TheVariants.{LongName, LongPath}
use Rattle.redo_path.specs.Names.{is_slash, name_of, names, parent_of, parts, text_of}
use Rattle.redo_path.specs.Resolve.{resolved, step, walk, within_limit, word_fault, ◌>>=◌}
use Rattle.redo_tree.specs.Tree.{Tree}
use Rattle.redo_which.specs.Candidates.{Place, candidates_of, defaults_in, is_never_made, once, place_at, places_of}
use Rattle.redo_which.specs.Candidates.{suffixes, upward, with_new}
use Rattle.redo_which.specs.Rule.{is_file, missing_among, missing_of}
use Rattle.redo_record.specs.Paths.{IsAmong}
use Rattle.redo_record.proofs.FoundLemmas.{bytes_eq-true}
use Rattle.redo_step.proofs.SameRuleLemmas.{missing-by}

-- What a word names that ends in `.do`

-- the last of these names is none of the short words that step back or stay
abbrev IsLongEnd : List (List ℕ) → Type 0
IsLongEnd ns = (front : List (List ℕ)) × (last : List ℕ) × (ns ≡ front ++ last ∷ []) × (2 < length last)

onto_long : (b : ℕ) (ps front : List (List ℕ)) (last : List ℕ) → ps ≡ front ++ last ∷ [] → 2 < length last →
    IsLongEnd (onto_first b ps)
onto_long b ps [] last e long = ([], b ∷ last, ap (onto_first b) e, omega (arith, long))
onto_long b ps (f ∷ fs) last e long = ((b ∷ f) ∷ fs, last, ap (onto_first b) e, long)

parts_long : (x : List ℕ) → IsLongEnd (parts (x ++ codes ".do"))
parts_long [] = ([], codes ".do", refl, omega arith)
parts_long (b ∷ bs) =
    let rest = parts_long bs in
    elim (is_slash b) as
    (λ (v : Bool). IsLongEnd (cond v ([] ∷ parts (bs ++ codes ".do")) (onto_first b (parts (bs ++ codes ".do"))))) [
      | true ↦ ([] ∷ rest.0, rest.1, ap (λ (ps : List (List ℕ)). [] ∷ ps) rest.2, rest.3)
      | false ↦ onto_long b (parts (bs ++ codes ".do")) rest.0 rest.1 rest.2 rest.3
    ]

not_short : (last ys : List ℕ) → length ys < length last → bytes_eq last ys ≡ false
not_short last ys h =
    elim (bytes_eq last ys) as (λ (v : Bool). bytes_eq last ys ≡ v → v ≡ false) [
      | true ↦ λ e.
          absurd (let same : length last ≡ length ys = ap length (bytes_eq-true last ys e) in omega (arith, same, h))
      | false ↦ λ e. refl
    ] refl

step-long : (ns : List (List ℕ)) (last : List ℕ) → 2 < length last →
    step ns last ≡ cond (nat_lt 255 (length last)) (Err LongName) (Ok (ns ++ last ∷ []))
step-long ns last h =
    let none : 0 < length last = omega (arith, h) in
    let one : 1 < length last = omega (arith, h) in
    rw (not_short last [] none, not_short last (codes ".") one, not_short last (codes "..") h) refl

one_step : (long : Bool) (ns to : List (List ℕ)) → (cond long (Err LongName) (Ok ns) >>= λ to. walk to []) ≡ Ok to →
    to ≡ ns
one_step true ns to e = absurd cc
one_step false ns to e = cc

pub walk_long : (ns to front : List (List ℕ)) (last : List ℕ) → 2 < length last → walk ns (front ++ last ∷ []) ≡ Ok to →
    (above : List (List ℕ)) × (to ≡ above ++ last ∷ [])
walk_long ns to [] last long e =
    (ns, one_step (nat_lt 255 (length last)) (ns ++ last ∷ []) to (rw (step-long ns last long) at e))
walk_long ns to (f ∷ fs) last long e =
    (elim (step ns f) as
    (λ (r : Result (List (List ℕ)) PathFault). (r >>= λ via. walk via (fs ++ last ∷ [])) ≡ Ok to →
    (above : List (List ℕ)) × (to ≡ above ++ last ∷ [])) [
      | Ok via ↦ λ k. walk_long via to fs last long k
      | Err fault ↦ λ k. absurd cc
    ]) e

no_text : (xs ys : List ℕ) → 0 < length ys → xs ++ ys ≢ []
no_text [] [] h e = absurd (omega (arith, h))
no_text [] (y ∷ ys) h e = absurd cc
no_text (x ∷ xs) ys h e = absurd cc

some_text : (above : List (List ℕ)) (last : List ℕ) → 2 < length last → text_of (above ++ last ∷ []) ≢ []
some_text [] last long = no_text [] last (omega (arith, long))
some_text (n ∷ []) last long = no_text n (47 ∷ last) (omega arith)
some_text (n ∷ m ∷ ns) last long = no_text n (47 ∷ text_of (m ∷ (ns ++ last ∷ []))) (omega arith)

within_some : (text path : List ℕ) → text ≢ [] → within_limit text ≡ Ok path → path ≢ []
within_some text path some e =
    (elim (nat_lt 1024 (length text)) as (λ (v : Bool). cond v (Err LongPath) (Ok text) ≡ Ok path → path ≢ []) [
      | true ↦ λ k. absurd cc
      | false ↦ λ k. let same : text ≡ path = cc in rw (← same) some
    ]) e

-- a word that ends in `.do` doesn't name the top directory
resolved_some : (dir x path : List ℕ) → resolved dir (x ++ codes ".do") ≡ Ok path → path ≢ []
resolved_some dir x path e =
    let file : List ℕ = x ++ codes ".do" in
    let ends : List (List ℕ) → Result (List ℕ) PathFault = λ to. within_limit (text_of to) in
    let long = parts_long x in
    (elim (word_fault file) as
    (λ (o : Option PathFault). option_map_or Err o (walk (names dir) (parts file) >>= ends) ≡ Ok path → path ≢ []) [
      | Some fault ↦ λ k. absurd cc
      | None ↦ (elim (walk (names dir) (parts file)) as
          (λ (r : Result (List (List ℕ)) PathFault). walk (names dir) (parts file) ≡ r → (r >>= ends) ≡ Ok path →
          path ≢ []) [
            | Ok to ↦ λ w k.
                let there = walk_long (names dir) to long.0 long.1 long.3 (rw long.2 at w) in
                within_some (text_of to) path (rw there.1 (some_text there.0 long.1 long.3)) k
            | Err fault ↦ λ w k. absurd cc
          ]) refl
    ]) e

-- Candidates

abbrev pub IsBelow : Place → Type 0
IsBelow place = place.do_file ≢ []

place_below : (dir : List ℕ) (cut : ℕ) (x : List ℕ) → AllByRecursion IsBelow (place_at dir cut (x ++ codes ".do"))
place_below dir cut x =
    let places : Result (List ℕ) PathFault → List Place = λ r.
    elim r as (λ _.
    List Place) [ Ok path ↦ record { do_file = path; dir = dir; cut = cut } ∷ [] | Err fault ↦ [] ] in
    elim (resolved dir (x ++ codes ".do")) as
    (λ (r : Result (List ℕ) PathFault). resolved dir (x ++ codes ".do") ≡ r → AllByRecursion IsBelow (places r)) [
      | Ok path ↦ λ e. (resolved_some dir x path e, tt)
      | Err fault ↦ λ e. tt
    ] refl

below-append : (xs ys : List Place) → AllByRecursion IsBelow xs → AllByRecursion IsBelow ys →
    AllByRecursion IsBelow (xs ++ ys)
below-append [] ys a b = b
below-append (x ∷ xs) ys a b = (a.0, below-append xs ys a.1 b)

defaults_below : (dir : List ℕ) (ends : List (List ℕ)) →
    AllByRecursion IsBelow
    (flat_map (λ suffix. place_at dir (length suffix) (codes "default" ++ suffix ++ codes ".do")) ends)
defaults_below dir [] = tt
defaults_below dir (s ∷ ss) =
    below-append _ _ (place_below dir (length s) (codes "default" ++ s)) (defaults_below dir ss)

upward_below : (name : List ℕ) (dirs : List (List ℕ)) → AllByRecursion IsBelow (flat_map (defaults_in name) dirs)
upward_below name [] = tt
upward_below name (d ∷ ds) = below-append _ _ (defaults_below d (suffixes name)) (upward_below name ds)

new_below : (list : List Place) (place : Place) → AllByRecursion IsBelow list → IsBelow place →
    AllByRecursion IsBelow (with_new list place)
new_below list place all here =
    elim (list_any (λ other. bytes_eq other.do_file place.do_file) list) as
    (λ (v : Bool). AllByRecursion IsBelow (cond v list (list ++ place ∷ []))) [
      | true ↦ all
      | false ↦ below-append list (place ∷ []) all (here, tt)
    ]

once_below : (list places : List Place) → AllByRecursion IsBelow list → AllByRecursion IsBelow places →
    AllByRecursion IsBelow (fold with_new list places)
once_below list [] all h = all
once_below list (p ∷ ps) all h = once_below (with_new list p) ps (new_below list p all h.0) h.1

candidates_below : (target : List ℕ) → AllByRecursion IsBelow (candidates_of target)
candidates_below target =
    let places : List ℕ → List Place = λ dir. places_of dir (name_of target) in
    elim (parent_of target) as
    (λ (o : Option (List ℕ)). AllByRecursion IsBelow
    (elim o as (λ _. List Place) [ None ↦ [] | Some dir ↦ cond (is_never_made target) [] (once (places dir)) ])) [
      | None ↦ tt
      | Some dir ↦ elim (is_never_made target) as
          (λ (v : Bool). AllByRecursion IsBelow (cond v [] (once (places dir)))) [
            | true ↦ tt
            | false ↦ once_below [] (places dir) tt
                (below-append _ _ (place_below dir 0 (name_of target)) (upward_below (name_of target) (upward dir)))
          ]
    ]

among_below : (tree : Tree) (places : List Place) → AllByRecursion IsBelow places →
    IsAmong (missing_among tree places) [] → ⊥
among_below tree [] all m = absurd m
among_below tree (p ∷ ps) all m = elim (cases_Bool (is_file tree p.do_file)) [
  | inl t ↦ absurd (rw (missing-by tree p ps true t) at m)
  | inr n ↦ elim
      (rw (missing-by tree p ps false n) at m) [ inl here ↦ all.0 here | inr later ↦ among_below tree ps all.1 later ]
]

-- the top directory is none of the candidates that a search missed
pub missing_below : (tree : Tree) (target : List ℕ) → IsAmong (missing_of tree target) [] → ⊥
missing_below tree target m = among_below tree (candidates_of target) (candidates_below target) m
