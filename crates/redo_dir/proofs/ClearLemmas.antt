-- What a run has left that was broken off, cleared away step by step.
use Rattle.std.proofs.Common.{◌≡◌, ◌≤◌, ◌-◌, ◌+◌, ◌∙◌, ℕ, suc, Bool, List, [], ◌∷◌, ◌++◌, Option, Some, None, Result, Err, Ok, ap}
use Rattle.std.proofs.Common.{append_assoc, append-nil, arith, length, length-append, map, refl, subst, sym, take}
use Rattle.std.proofs.lemmas.List.{length-map, length-take-le, take-map, take_all}
use Rattle.std.proofs.Math.Seq.{take-append-add}
use Rattle.std.specs.Prelude.{IfErr, OnOk, slice_get}
use Rattle.redo_which.specs.Candidates.{book_path}
use Rattle.redo_dir.specs.declared.faults.StoreFault.{StoreFault}
use Rattle.redo_dir.specs.declared.unwritten.Unwritten.{Unwritten}
use Rattle.redo_dir.specs.declared.unwritten.Unwritten.TheVariants.{Device, Name, Memory}
use Rattle.redo_dir.specs.Stored.{Removes, Step, place_of, put_of}
use Rattle.redo_dir.specs.Storing.{IsUncleared, cleared_count, paths_to_clear, steps_to_clear}
use Rattle.redo_dir.specs.inside.Batches.{BlamesCall, Refusals, fault_at}
use Rattle.redo_dir.specs.inside.Clearing.{Leaves}
use Rattle.redo_dir.proofs.FrontLemmas.{get_within, place_at}

get_past : (xs ys : List (List ℕ)) (k : ℕ) (x : List ℕ) → slice_get ys k ≡ Some x → slice_get (xs ++ ys) (length xs + k) ≡ Some x
get_past [] ys k x e = let same : 0 + k ≡ k = omega arith in subst (λ n. slice_get ys n ≡ Some x) (sym same) e
get_past (z ∷ zs) ys k x e = let same : length (z ∷ zs) + k ≡ suc (length zs + k) = omega arith in subst (λ n. slice_get (z ∷ (zs ++ ys)) n ≡ Some x) (sym same) (get_past zs ys k x e)

-- how many steps were done before the one that wasn't
count_before : (s : List Step) (own : List (List ℕ)) (count first : ℕ) (old mid new : List Step) → count ≤ length own → first ≡ length old → mid ≡ old ++ s → new ≡ mid ++ map Removes (take count own) → length new - first ≡ length s + count
count_before s own count first old mid new l f m n =
    let all = ap length n ∙ length-append mid (map Removes (take count own)) in
    let front = ap length m ∙ length-append old s in
    let rest : length (map Removes (take count own)) ≡ count = length-map (take count own) Removes ∙ length-take-le count own l in
    omega (arith, f, all, front, rest)

-- the first steps were these, and then own files were removed
cleared : (told : Refusals) (s : List Step) (ps own : List (List ℕ)) (first : ℕ) (old mid new : List Step) (result : Result (Unit {0}) StoreFault) → length ps ≡ length s → first ≡ length old → mid ≡ old ++ s → OnOk result (new ≡ mid ++ map Removes own) → IfErr result (Leaves told own first mid new) → new ≡ old ++ take (cleared_count result (ps ++ own)) (s ++ map Removes own)
cleared told s ps own first old mid new (Ok x) e f m all part =
    let len = length-append ps own in
    let more = length-append s (map Removes own) in
    let rest = length-map own Removes in
    let whole = take_all (length (ps ++ own)) (s ++ map Removes own) (omega (arith, e, len, more, rest)) in
    all ∙ ap (λ xs. xs ++ map Removes own) m ∙ append_assoc old s (map Removes own) ∙ ap (λ xs. old ++ xs) (sym whole)
cleared told s ps own first old mid new (Err fault) e f m all part =
    let within = get_within own part.count part.path part.there in
    let l : part.count ≤ length own = omega (arith, within) in
    let count = count_before s own part.count first old mid new l f m part.removed in
    let place : place_of fault ≡ length s + part.count = ap place_of part.is ∙ place_at part.why (length new - first) ∙ count in
    let steps = take-append-add s (map Removes own) part.count ∙ ap (λ xs. s ++ xs) (take-map Removes part.count own) in
    part.removed ∙ ap (λ xs. xs ++ map Removes (take part.count own)) m ∙ append_assoc old s (map Removes (take part.count own)) ∙
    ap (λ xs. old ++ xs) (sym steps ∙ ap (λ n. take n (s ++ map Removes own)) (sym place))

uncleared_at : (told : Refusals) (paths : List (List ℕ)) (k : ℕ) (path : List ℕ) (why : Unwritten) → slice_get paths k ≡ Some path → BlamesCall told path why → IsUncleared told paths (fault_at why k)
uncleared_at told paths k path (Device kind) e b = (path, e, b)
uncleared_at told paths k path Name e b = absurd b
uncleared_at told paths k path Memory e b = tt

-- the first step wasn't done
pub uncleared_first : (told : Refusals) (path : List ℕ) (paths : List (List ℕ)) (why : Unwritten) (fault : StoreFault) → BlamesCall told path why → fault ≡ fault_at why 0 → IsUncleared told (path ∷ paths) fault
uncleared_first told path paths why fault b e = subst (IsUncleared told (path ∷ paths)) (sym e) (uncleared_at told (path ∷ paths) 0 path why refl b)

uncleared : (told : Refusals) (s : List Step) (ps own : List (List ℕ)) (first : ℕ) (old mid new : List Step) (result : Result (Unit {0}) StoreFault) → length ps ≡ length s → first ≡ length old → mid ≡ old ++ s → IfErr result (Leaves told own first mid new) → IfErr result (IsUncleared told (ps ++ own))
uncleared told s ps own first old mid new (Ok x) e f m part = tt
uncleared told s ps own first old mid new (Err fault) e f m part =
    let within = get_within own part.count part.path part.there in
    let l : part.count ≤ length own = omega (arith, within) in
    let count : length new - first ≡ length ps + part.count = count_before s own part.count first old mid new l f m part.removed ∙ ap (λ n. n + part.count) (sym e) in
    subst (IsUncleared told (ps ++ own)) (sym (part.is ∙ ap (fault_at part.why) count))
    (uncleared_at told (ps ++ own) (length ps + part.count) part.path part.why (get_past ps own part.count part.path part.there) part.blames)

-- the book that is to be put was put first
abbrev pub PutsFirst : Bool → Option (List ℕ) → List Step → List Step → Type 0
PutsFirst over None old mid = mid ≡ old
PutsFirst over (Some text) old mid = mid ≡ old ++ put_of (book_path, text) over ∷ []

pub all_cleared : (told : Refusals) (over : Bool) (book : Option (List ℕ)) (own : List (List ℕ)) (first : ℕ) (old mid new : List Step) (result : Result (Unit {0}) StoreFault) → PutsFirst over book old mid → first ≡ length old → OnOk result (new ≡ mid ++ map Removes own) → IfErr result (Leaves told own first mid new) → new ≡ old ++ take (cleared_count result (paths_to_clear book own)) (steps_to_clear over book own)
all_cleared told over None own first old mid new result m f all part = cleared told [] [] own first old mid new result refl f (m ∙ sym (append-nil old)) all part
all_cleared told over (Some text) own first old mid new result m f all part = cleared told (put_of (book_path, text) over ∷ []) (book_path ∷ []) own first old mid new result refl f m all part

pub what_is_uncleared : (told : Refusals) (over : Bool) (book : Option (List ℕ)) (own : List (List ℕ)) (first : ℕ) (old mid new : List Step) (result : Result (Unit {0}) StoreFault) → PutsFirst over book old mid → first ≡ length old → IfErr result (Leaves told own first mid new) → IfErr result (IsUncleared told (paths_to_clear book own))
what_is_uncleared told over None own first old mid new result m f part = uncleared told [] [] own first old mid new result refl f (m ∙ sym (append-nil old)) part
what_is_uncleared told over (Some text) own first old mid new result m f part = uncleared told (put_of (book_path, text) over ∷ []) (book_path ∷ []) own first old mid new result refl f m part
