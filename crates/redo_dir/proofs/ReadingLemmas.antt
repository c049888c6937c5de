-- The first bytes of a file, by one read or by two; and the place of a path.
use Rattle.std.proofs.Common.{◌≡◌, ℕ, ◌≤◌, ◌+◌, ◌-◌, true, false, if◌then◌else◌, List, [], ◌++◌, Option, Some, None, length, take, arith, refl, sym, ap, ◌∙◌, length-take}
use Rattle.std.proofs.lemmas.List.{take-append-le, take_all}
use Rattle.std.proofs.Math.Seq.{take-append-add}
use Rattle.std.specs.Io.KnownBytes.{Consumes}
use Rattle.std.specs.Path.{path_join, slash, with_separator}
use Rattle.std.specs.Prelude.{◌==◌, IfSome, option_map, slice_index}

-- room that was filled, as it stands in front of others
kept : (n : ℕ) (room tail : List ℕ) → length room ≡ n → take n (room ++ tail) ≡ room
kept n room tail many = take-append-le n room tail (omega arith) ∙ take_all n room (omega arith)

-- a read that filled its room has the first bytes
pub first-read : (old new : Option (List ℕ)) (size count n : ℕ) (room tail : List ℕ) → n ≡ size → count ≡ size → length room ≡ size →
    Consumes old new (take count room) → IfSome old (λ all. take n (room ++ tail) ≡ take size all)
first-read None new size count n room tail whole full many took = tt
first-read (Some all) None size count n room tail whole full many took = absurd took
first-read (Some all) (Some rest) size count n room tail whole full many took =
    kept n room tail (omega arith) ∙ sym (kept size room rest many)
    ∙ ap (take size) (ap (λ b. b ++ rest) (sym (take_all count room (omega arith))) ∙ sym took)

-- so many bytes, and then some of those behind them
behind-front : (size count : ℕ) (front rest : List ℕ) → length front ≡ count → count ≤ size →
    front ++ take (size - count) rest ≡ take size (front ++ rest)
behind-front size count front rest many fits =
    let whole : length front + (size - count) ≡ size = omega arith in
    sym (ap (λ n. take n (front ++ rest)) (sym whole) ∙ take-append-add front rest (size - count))

-- a read that filled a part of it, and the rest, have them too
pub rest-read : (old new : Option (List ℕ)) (size count n : ℕ) (room tail before bytes : List ℕ) → n ≡ size → count ≤ size →
    length room ≡ size → Consumes old new (take count room) → before ≡ take count (take n (room ++ tail)) →
    IfSome (option_map (take (size - count)) new) (λ rest. bytes ≡ before ++ rest) → IfSome old (λ all. bytes ≡ take size all)
rest-read None new size count n room tail before bytes whole fits many took cut read = tt
rest-read (Some all) None size count n room tail before bytes whole fits many took cut read = absurd took
rest-read (Some all) (Some rest) size count n room tail before bytes whole fits many took cut read =
    let front = take count room in
    let long : length front ≡ count = omega (arith, length-take count room) in
    read ∙ ap (λ b. b ++ take (size - count) rest) (cut ∙ ap (take count) (kept n room tail (omega arith)))
    ∙ behind-front size count front rest long fits ∙ ap (take size) (sym took)

-- a path that is pushed on nothing
pub joined-to-nothing : (path : List ℕ) → path_join [] path ≡ path
unfolding path_join
joined-to-nothing path =
    elim (slice_index path 0 == slash) as (λ absolute. (if absolute then path else with_separator [] ++ path) ≡ path) [ true ↦ refl | false ↦ refl ]
