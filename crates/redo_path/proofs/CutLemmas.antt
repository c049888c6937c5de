-- A word cut at its slashes, part by part.
use Rattle.std.proofs.Common.{◌≡◌, ℕ, ◌+◌, ◌<◌, ◌≤◌, Bool, true, false, cond, not, List, [], ◌∷◌, ◌++◌, length, get_or}
use Rattle.std.proofs.Common.{refl, sym, ap, subst, ◌∙◌, arith, Option, Some, None, Bor, nat_lt, ◌==◌, le-ltb, lt-ltb}
use Rattle.std.proofs.lemmas.Grind.{common_steps}
use Rattle.std.proofs.lemmas.List.Splits.{slice_split_none, slice_split_at}
use Rattle.std.specs.Bool.{MatchBool}
use Rattle.std.specs.Fn.{ComputesKey}
use Rattle.std.specs.List.{All, AllByRecursion, IsFirstMatchOrLen, onto_first, prefix_len}
use Rattle.std.specs.declared.slice.Split.{Split}
use Rattle.std.specs.Slice.Iter.{split_rest, split_done, split_callee, split_steps}
use Rattle.std.specs.Prelude.{Result, Ok, Err, MatchOption, IsOk}
use Rattle.redo_path.specs.Names.{is_slash, is_control, IsPart, names, parts, text_of}
use Rattle.redo_path.proofs.PartLemmas.{text_of-names}
use Rattle.redo_path.specs.declared.PathFault.{PathFault}
use Rattle.redo_path.specs.declared.PathFault.TheVariants.{Empty, Absolute, Above, BadByte, LongName, LongPath, Memory}
use Rattle.redo_path.specs.Resolve.{word_fault, step, walk, resolved, within_limit, Answers, ◌>>=◌}
use Rattle.redo_path.specs.inside.Walking.{Leads}
use Rattle.std.specs.Option.{option_map, option_map_or}
use Rattle.std.proofs.lemmas.List.Sums.{prefix_len-le-length}
use borrow.Author.Tests.{ltb-false}
use denote.Param.Members.{Mut}

-- the parts that the iterator still gives
abbrev pub parts_left : {F : Type 0} → Split ℕ F → List (List ℕ)
parts_left it = cond (split_done it) [] (parts (split_rest it))

cut : (xs x rest : List ℕ) (done : Bool) → MatchBool done (xs ≡ x) ((y : ℕ) × (xs ≡ x ++ (y ∷ rest))) → IsFirstMatchOrLen is_slash xs (length x) → parts xs ≡ x ∷ cond done [] (parts rest)
cut xs x rest true e h = ap parts e ∙ slice_split_none is_slash x (λ k d l. subst (λ ys. is_slash (get_or ys k d) ≡ false) e (h.0 k d (omega arith) l))
cut xs x rest false e h =
    let front : All (λ z. is_slash z ≡ false) x = λ k d l. let a = h.0 k d (omega arith) l in let b = e.1 in grind (arith, common_steps) in
    let hit : is_slash e.0 ≡ true = let b = e.1 in let a = h.1 (grind (arith, common_steps)) e.0 in grind (arith, common_steps) in
    ap parts e.1 ∙ slice_split_at is_slash x e.0 rest front hit

-- the iterator gives the first of the parts that it has left
pub parts_left-next : {F : Type 0} (g : Mut F (Bor ℕ × Unit {0}) Bool) (s t : Split ℕ F) (x : Bor (List ℕ)) → ComputesKey g is_slash (split_callee s) → split_steps g s (Some x) t → parts_left s ≡ x.now ∷ parts_left t
parts_left-next g s t x h k = ap (λ b. cond b [] (parts (split_rest s))) k.0 ∙ cut _ x.now _ (split_done t) k.1 (k.2 is_slash h).1

-- and once it is done it has none
pub parts_left-done : {F : Type 0} (s : Split ℕ F) → split_done s ≡ true → parts_left s ≡ []
parts_left-done s h = ap (λ b. cond b [] (parts (split_rest s))) h

IsPart-onto_first : (x : ℕ) (ps : List (List ℕ)) → is_slash x ≡ false → is_control x ≡ false → AllByRecursion IsPart ps → AllByRecursion IsPart (onto_first x ps)
IsPart-onto_first x [] s k h = (record { no_slash = (s, tt); printable = (k, tt) }, tt)
IsPart-onto_first x (p ∷ ps) s k h = (record { no_slash = (s, h.0.no_slash); printable = (k, h.0.printable) }, h.1)

-- the parts of a word without control bytes hold none, and no slash
pub IsPart-parts : (word : List ℕ) → AllByRecursion (λ byte. is_control byte ≡ false) word → AllByRecursion IsPart (parts word)
IsPart-parts [] h = (record { no_slash = tt; printable = tt }, tt)
IsPart-parts (x ∷ xs) h =
    let rest : AllByRecursion IsPart (parts xs) = IsPart-parts xs h.1 in
    elim (is_slash x) as (λ b. is_slash x ≡ b → AllByRecursion IsPart (cond b ([] ∷ parts xs) (onto_first x (parts xs)))) [
      | true ↦ λ e. (record { no_slash = tt; printable = tt }, rest)
      | false ↦ λ e. IsPart-onto_first x (parts xs) e h.0 rest
    ] refl

all_printable : (xs : List ℕ) → prefix_len (λ x. not (is_control x)) xs ≡ length xs → AllByRecursion (λ byte. is_control byte ≡ false) xs
all_printable [] h = tt
all_printable (x ∷ xs) h =
    elim (is_control x) as (λ b. cond (not b) (1 + prefix_len (λ x. not (is_control x)) xs) 0 ≡ length (x ∷ xs) → (b ≡ false) × AllByRecursion (λ byte. is_control byte ≡ false) xs) [
      | true ↦ λ e. absurd (omega arith)
      | false ↦ λ e. (refl, all_printable xs (omega arith))
    ] h

no_place : (n m : ℕ) (b : Bool) → nat_lt n m ≡ b → option_map BadByte (cond b (Some n) None) ≡ None → m ≤ n
no_place n m true e h = cc
no_place n m false e h = ltb-false n m e

no_fault : (b : Bool) (o : Option PathFault) → cond b (Some Absolute) o ≡ None → o ≡ None
no_fault true o h = cc
no_fault false o h = h

-- what no fault was found in has no control byte
pub printable-word : (word : List ℕ) → word_fault word ≡ None → AllByRecursion (λ byte. is_control byte ≡ false) word
printable-word [] h = tt
printable-word (b ∷ bs) h =
    let test = λ (x : ℕ). not (is_control x) in
    let n = prefix_len test (b ∷ bs) in
    let past : length (b ∷ bs) ≤ n = no_place n (length (b ∷ bs)) (nat_lt n (length (b ∷ bs))) refl (no_fault (b == 47) _ h) in
    all_printable (b ∷ bs) (omega (arith, prefix_len-le-length test (b ∷ bs)))

pub parts_left-start : {F : Type 0} (s : Split ℕ F) (word : List ℕ) → split_rest s ≡ word → split_done s ≡ false → parts_left s ≡ parts word
parts_left-start s word rest done = ap (λ b. cond b [] (parts (split_rest s))) done ∙ ap parts rest

pub no_word_fault : (o : Option PathFault) (u : Unit {0}) → MatchOption o (IsOk {T = Unit {0}} {E = PathFault} (Ok u)) (λ fault. ◌≡◌ {A = Result (Unit {0}) PathFault} (Ok u) (Err fault)) → o ≡ None
no_word_fault None u h = refl
no_word_fault (Some fault) u h = cc

-- one step of the walk
pub walk-next : (old new : List (List ℕ)) (all : List (List ℕ)) (part : List ℕ) (rest : List (List ℕ)) → all ≡ part ∷ rest → step old part ≡ Ok new → walk old all ≡ walk new rest
walk-next old new all part rest e h = ap (walk old) e ∙ ap (λ r. r >>= λ to. walk to rest) h

-- a step that is refused ends it
pub walk-refused : (old : List (List ℕ)) (all : List (List ℕ)) (part : List ℕ) (rest : List (List ℕ)) (fault : PathFault) → all ≡ part ∷ rest → step old part ≡ Err fault → walk old all ≡ Err fault
walk-refused old all part rest fault e h = ap (walk old) e ∙ ap (λ r. r >>= λ to. walk to rest) h

-- the answer, where the walk gives it
pub resolved-walk : (base word : List ℕ) (r : Result (List (List ℕ)) PathFault) → word_fault word ≡ None → walk (names base) (parts word) ≡ r → resolved base word ≡ (r >>= λ ns. within_limit (text_of ns))
resolved-walk base word r h e =
    ap (λ o. option_map_or Err o (walk (names base) (parts word) >>= λ ns. within_limit (text_of ns))) h ∙ ap (λ s. s >>= λ ns. within_limit (text_of ns)) e

pub resolved-end : (base word text : List ℕ) (rest : List (List ℕ)) → word_fault word ≡ None → rest ≡ [] → walk (names text) rest ≡ walk (names base) (parts word) → resolved base word ≡ within_limit text
resolved-end base word text rest h done e =
    resolved-walk base word (Ok (names text)) h (sym e ∙ ap (walk (names text)) done) ∙ ap within_limit (text_of-names text)

-- a refused step is the answer
pub Answers-refused : (fault : PathFault) (meant : Result (List ℕ) PathFault) (to : List (List ℕ)) (stepped : Result (List (List ℕ)) PathFault) → Leads {A = Unit {0}} (Err fault) to stepped → (stepped ≡ Err fault → meant ≡ Err fault) → Answers (Err fault) meant
Answers-refused Memory meant to stepped h k = tt
Answers-refused Empty meant to stepped h k = k h
Answers-refused Absolute meant to stepped h k = k h
Answers-refused Above meant to stepped h k = k h
Answers-refused (BadByte place) meant to stepped h k = k h
Answers-refused LongName meant to stepped h k = k h
Answers-refused LongPath meant to stepped h k = k h

pub within_limit-long : (text : List ℕ) → 1024 < length text → within_limit text ≡ Err LongPath
within_limit-long text h = rw (lt-ltb 1024 (length text) h)

pub within_limit-short : (text : List ℕ) → length text ≤ 1024 → within_limit text ≡ Ok text
within_limit-short text h = rw (le-ltb 1024 (length text) h)
