-- A path's text names the path, and what a word names is a path.
use Rattle.std.proofs.Common.{◌≡◌, ◌≢◌, ℕ, ◌+◌, ◌-◌, ◌<◌, ◌≤◌, Bool, true, false, cond, not, List, [], ◌∷◌, ◌++◌}
use Rattle.std.proofs.Common.{length, take, refl, sym, ap, subst, ◌∙◌, zero, suc, arith, Some, None, nat_lt, ◌==◌}
use Rattle.std.proofs.Common.{append_assoc, append-nil, codes}
use Rattle.std.proofs.lemmas.Grind.{common_steps}
use Rattle.std.proofs.lemmas.List.Splits.{length-slice_split, join_with_byte-slice_split}
use Rattle.std.proofs.lemmas.Slice.Eq.{bytes_eq-Decides}
use Rattle.std.proofs.lemmas.Cmp.{tied_itself, nat_cmp_total}
use Rattle.std.specs.Cmp.Lexicographic.{slice_cmp}
use Rattle.std.specs.declared.cmp.Ordering.TheVariants.{Less}
use Rattle.std.specs.Ordering.{nat_cmp, ordering_then}
use Rattle.std.specs.List.{AllByRecursion, onto_first, prefix_len, position, suffix_len}
use Rattle.std.specs.Option.{option_map, option_map_or}
use Rattle.std.specs.Prelude.{Ok, Err}
use Rattle.std.specs.Str.{bytes_eq}
use Rattle.redo_path.proofs.ApartLemmas.{apart}
use Rattle.redo_path.specs.declared.PathFault.TheVariants.{Absolute, BadByte, LongName, LongPath}
use Rattle.redo_path.specs.Names.{is_slash, is_control, parts, names, text_of, parent_of, IsPart, IsName, IsPath}
use Rattle.redo_path.specs.Resolve.{step, up_from, walk, word_fault, resolved, within_limit, ◌>>=◌}
use Rattle.redo_path.proofs.PartLemmas.{parts-append, parts-name, parts-names, AllByRecursion-append}
use Rattle.redo_path.proofs.CutLemmas.{IsPart-parts, printable-word, resolved-walk, within_limit-short}
use Rattle.redo_path.proofs.StepLemmas.{IsPlain, IsName-plain, step-plain}
use borrow.Author.Tests.{ltb-false}

-- ---- a path's text has no control byte

onto_first-printable : (x : ℕ) (ps : List (List ℕ)) → 0 < length ps → AllByRecursion IsPart (onto_first x ps) → (is_control x ≡ false) × AllByRecursion IsPart ps
onto_first-printable x [] l h = absurd (omega arith)
onto_first-printable x (p ∷ ps) l h = (h.0.printable.0, (record { no_slash = h.0.no_slash.1; printable = h.0.printable.1 }, h.1))

slash_printable : (x : ℕ) → is_slash x ≡ true → is_control x ≡ false
slash_printable x h = let e : x ≡ 47 = grind (arith, common_steps) in ap is_control e

printable_parts : (text : List ℕ) → AllByRecursion IsPart (parts text) → AllByRecursion (λ byte. is_control byte ≡ false) text
printable_parts [] h = tt
printable_parts (x ∷ xs) h =
    elim (is_slash x) as (λ b. is_slash x ≡ b → AllByRecursion IsPart (cond b ([] ∷ parts xs) (onto_first x (parts xs))) → AllByRecursion (λ byte. is_control byte ≡ false) (x ∷ xs)) [
      | true ↦ λ e k. (slash_printable x e, printable_parts xs k.1)
      | false ↦ λ e k.
          let r = onto_first-printable x (parts xs) (omega (arith, length-slice_split is_slash xs)) k in
          (r.0, printable_parts xs r.1)
    ] refl h

parts_of_names : (ns : List (List ℕ)) → AllByRecursion IsName ns → AllByRecursion IsPart ns
parts_of_names [] h = tt
parts_of_names (n ∷ ns) h = (h.0.part, parts_of_names ns h.1)

pub printable_path : (text : List ℕ) → IsPath text → AllByRecursion (λ byte. is_control byte ≡ false) text
printable_path [] h = tt
printable_path (b ∷ bs) h = printable_parts (b ∷ bs) (parts_of_names (parts (b ∷ bs)) h.each)

-- ---- a path's text names it

pub not_same : (xs ys : List ℕ) → xs ≢ ys → bytes_eq xs ys ≡ false
not_same xs ys h =
    elim (bytes_eq xs ys) as (λ b. bytes_eq xs ys ≡ b → b ≡ false) [
      | true ↦ λ e. absurd (h ((bytes_eq-Decides xs ys).0 e))
      | false ↦ λ e. refl
    ] refl

pub some_bytes : (name : List ℕ) → name ≢ [] → 0 < length name
some_bytes [] h = absurd (h refl)
some_bytes (b ∷ bs) h = omega arith

plain_name : (name : List ℕ) → IsName name → IsPlain name
plain_name name h = record {
  nonempty = some_bytes name h.nonempty;
  not_here = not_same name (codes ".") h.not_here;
  not_parent = not_same name (codes "..") h.not_parent;
  short = h.short;
}

walk-names : (ns ms : List (List ℕ)) → AllByRecursion IsName ms → walk ns ms ≡ Ok (ns ++ ms)
walk-names ns [] h = ap Ok (sym (append-nil ns))
walk-names ns (m ∷ ms) h =
    ap (λ r. r >>= λ to. walk to ms) (step-plain ns m (plain_name m h.0))
    ∙ walk-names (ns ++ m ∷ []) ms h.1 ∙ ap Ok (append_assoc ns (m ∷ []) ms)

pub no_place_of : (n m : ℕ) (p : ℕ → Bool) → n ≡ m → cond (nat_lt n m) (Some n) None ≡ None
no_place_of n m p e = let l : nat_lt n m ≡ false = grind (arith, common_steps) in ap (λ b. cond b (Some n) None) l

pub no_control : (xs : List ℕ) → AllByRecursion (λ byte. is_control byte ≡ false) xs → prefix_len (λ x. not (is_control x)) xs ≡ length xs
no_control [] h = refl
no_control (x ∷ xs) h =
    ap (λ b. cond (not b) (1 + prefix_len (λ x. not (is_control x)) xs) 0) h.0 ∙ omega (arith, no_control xs h.1)

first_slash : (x : ℕ) (xs : List ℕ) → AllByRecursion IsName (parts (x ∷ xs)) → (x == 47) ≡ false
first_slash x xs h =
    elim (is_slash x) as (λ b. is_slash x ≡ b → AllByRecursion IsName (cond b ([] ∷ parts xs) (onto_first x (parts xs))) → is_slash x ≡ false) [
      | true ↦ λ e k. absurd (k.0.nonempty refl)
      | false ↦ λ e k. e
    ] refl h

path_word : (text : List ℕ) → text ≢ [] → IsPath text → word_fault text ≡ None
path_word [] some h = absurd (some refl)
path_word (b ∷ bs) some h =
    let none : position is_control (b ∷ bs) ≡ None = no_place_of _ _ is_control (no_control (b ∷ bs) (printable_path (b ∷ bs) h)) in
    ap (λ t. cond t (Some Absolute) (option_map BadByte (position is_control (b ∷ bs)))) (first_slash b bs h.each) ∙ ap (option_map BadByte) none

-- a word of names, read from the top, is its own path, unless it is too long
pub resolved-names : (base word : List ℕ) → length base ≡ 0 → word_fault word ≡ None → AllByRecursion IsName (parts word) → resolved base word ≡ within_limit word
resolved-names [] word top fine named =
    resolved-walk [] word (Ok (parts word)) fine (walk-names [] (parts word) named) ∙ ap within_limit (join_with_byte-slice_split 47 word)
resolved-names (b ∷ bs) word top fine named = absurd (omega arith)

pub resolved-path : (text : List ℕ) → text ≢ [] → IsPath text → resolved [] text ≡ Ok text
resolved-path text some h =
    resolved-names [] text refl (path_word text some h) (subst (AllByRecursion IsName) (parts-names text some) h.each) ∙ within_limit-short text h.short

-- ---- what a word names is a path

AllByRecursion-take : {X : Type 0} (P : X → Type 0) (n : ℕ) (xs : List X) → AllByRecursion P xs → AllByRecursion P (take n xs)
AllByRecursion-take P zero xs h = tt
AllByRecursion-take P (suc n) [] h = tt
AllByRecursion-take P (suc n) (x ∷ xs) h = (h.0, AllByRecursion-take P n xs h.1)

up_names : (ns to : List (List ℕ)) → AllByRecursion IsName ns → up_from ns ≡ Ok to → AllByRecursion IsName to
up_names [] to h e = apart cc
up_names (n ∷ ns) to h e =
    let same : take (length (n ∷ ns) - 1) (n ∷ ns) ≡ to = cc in
    subst (AllByRecursion IsName) same (AllByRecursion-take IsName (length (n ∷ ns) - 1) (n ∷ ns) h)

step_in : (long : Bool) (ns to : List (List ℕ)) (part : List ℕ) → AllByRecursion IsName ns → (long ≡ false → IsName part) → cond long (Err LongName) (Ok (ns ++ part ∷ [])) ≡ Ok to → AllByRecursion IsName to
step_in true ns to part h k e = apart cc
step_in false ns to part h k e = let same : ns ++ part ∷ [] ≡ to = cc in subst (AllByRecursion IsName) same (AllByRecursion-append IsName ns (part ∷ []) h (k refl, tt))

step_to : (empty here parent : Bool) (ns to : List (List ℕ)) (part : List ℕ) → AllByRecursion IsName ns → (empty ≡ false → here ≡ false → parent ≡ false → nat_lt 255 (length part) ≡ false → IsName part)
    → cond empty (Ok ns) (cond here (Ok ns) (cond parent (up_from ns) (cond (nat_lt 255 (length part)) (Err LongName) (Ok (ns ++ part ∷ []))))) ≡ Ok to → AllByRecursion IsName to
step_to true here parent ns to part h k e = let same : ns ≡ to = cc in subst (AllByRecursion IsName) same h
step_to false true parent ns to part h k e = let same : ns ≡ to = cc in subst (AllByRecursion IsName) same h
step_to false false true ns to part h k e = up_names ns to h e
step_to false false false ns to part h k e = step_in (nat_lt 255 (length part)) ns to part h (k refl refl refl) e

not_nil : (part : List ℕ) → bytes_eq part [] ≡ false → 0 < length part
not_nil [] h = cc
not_nil (b ∷ bs) h = omega arith

step-names : (ns to : List (List ℕ)) (part : List ℕ) → AllByRecursion IsName ns → IsPart part → step ns part ≡ Ok to → AllByRecursion IsName to
step-names ns to part h k e =
    step_to (bytes_eq part []) (bytes_eq part (codes ".")) (bytes_eq part (codes "..")) ns to part h
    (λ empty here parent long. IsName-plain part (record { nonempty = not_nil part empty; not_here = here; not_parent = parent; short = ltb-false 255 (length part) long }) k) e

walk_on-names : (ns to : List (List ℕ)) (parts : List (List ℕ)) → AllByRecursion IsName ns → AllByRecursion IsPart parts → walk ns parts ≡ Ok to → AllByRecursion IsName to
walk_on-names ns to [] h k e = let same : ns ≡ to = cc in subst (AllByRecursion IsName) same h
walk_on-names ns to (part ∷ rest) h k e =
    elim (step ns part) as (λ r. step ns part ≡ r → (r >>= λ on. walk on rest) ≡ Ok to → AllByRecursion IsName to) [
      | Ok next ↦ λ s w. walk_on-names next to rest (step-names ns next part h k.0 s) k.1 w
      | Err fault ↦ λ s w. apart cc
    ] refl e

-- the parts of a text of names are these names
parts-text_of : (n : List ℕ) (ns : List (List ℕ)) → AllByRecursion IsName (n ∷ ns) → parts (text_of (n ∷ ns)) ≡ n ∷ ns
parts-text_of n [] h = parts-name n h.0.part.no_slash
parts-text_of n (m ∷ ns) h =
    parts-append n (text_of (m ∷ ns)) ∙ (λ i. parts-name n h.0.part.no_slash i ++ parts-text_of m ns h.1 i)

some_text : (n : List ℕ) (ns : List (List ℕ)) → n ≢ [] → text_of (n ∷ ns) ≢ []
some_text [] ns h e = h refl
some_text (b ∷ bs) [] h e = cc
some_text (b ∷ bs) (m ∷ ns) h e = cc

pub names-text_of : (ns : List (List ℕ)) → AllByRecursion IsName ns → names (text_of ns) ≡ ns
names-text_of [] h = refl
names-text_of (n ∷ ns) h = parts-names (text_of (n ∷ ns)) (some_text n ns h.0.nonempty) ∙ parts-text_of n ns h

limited : (long : Bool) (text path : List ℕ) → nat_lt 1024 (length text) ≡ long → cond long (Err LongPath) (Ok text) ≡ Ok path → (text ≡ path) × (length text ≤ 1024)
limited true text path l e = apart cc
limited false text path l e = (cc, ltb-false 1024 (length text) l)

path_of_names : (ns : List (List ℕ)) (path : List ℕ) → AllByRecursion IsName ns → within_limit (text_of ns) ≡ Ok path → IsPath path
path_of_names ns path h e =
    let r = limited (nat_lt 1024 (length (text_of ns))) (text_of ns) path refl e in
    subst IsPath r.0 (record { each = subst (AllByRecursion IsName) (sym (names-text_of ns h)) h; short = r.1 })

-- what a word names from a base of names is a path, however long the base is
pub named-resolved : (base word path : List ℕ) → AllByRecursion IsName (names base) → resolved base word ≡ Ok path → IsPath path
named-resolved base word path h e =
    elim (word_fault word) as (λ o. word_fault word ≡ o → option_map_or Err o (walk (names base) (parts word) >>= λ ns. within_limit (text_of ns)) ≡ Ok path → IsPath path) [
      | Some fault ↦ λ f k. apart cc
      | None ↦ λ f k.
          elim (walk (names base) (parts word)) as (λ r. walk (names base) (parts word) ≡ r → (r >>= λ ns. within_limit (text_of ns)) ≡ Ok path → IsPath path) [
            | Ok ns ↦ λ w l. path_of_names ns path (walk_on-names (names base) ns (parts word) h (IsPart-parts word (printable-word word f)) w) l
            | Err fault ↦ λ w l. apart cc
          ] refl k
    ] refl e

pub path-resolved : (base word path : List ℕ) → IsPath base → resolved base word ≡ Ok path → IsPath path
path-resolved base word path h e = named-resolved base word path h.each e

-- ---- a directory stands before what it holds

before_the_whole : (n : ℕ) (xs : List ℕ) → n < length xs → slice_cmp nat_cmp (take n xs) xs ≡ Less
before_the_whole n [] h = absurd (omega arith)
before_the_whole zero (x ∷ xs) h = refl
before_the_whole (suc n) (x ∷ xs) h =
    ap (λ o. ordering_then o (slice_cmp nat_cmp (take n xs) xs)) (tied_itself nat_cmp_total x) ∙ before_the_whole n xs (omega arith)

pub parent_first : (path dir : List ℕ) → parent_of path ≡ Some dir → slice_cmp nat_cmp dir path ≡ Less
parent_first [] dir h = apart cc
parent_first (b ∷ bs) dir h =
    let n = length (b ∷ bs) - suffix_len (λ x. not (is_slash x)) (b ∷ bs) - 1 in
    let same : take n (b ∷ bs) ≡ dir = cc in
    subst (λ d. slice_cmp nat_cmp d (b ∷ bs) ≡ Less) same (before_the_whole n (b ∷ bs) (omega arith))
