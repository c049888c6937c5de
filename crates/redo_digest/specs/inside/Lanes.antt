-- Four blocks side by side: each word of SHA-256 is a vector, with one lane for each block.
use Rattle.std.specs.Prelude.{ℕ, List, [], ◌∷◌, map, slice_index, slice_index_or}

-- lane j of vector k
abbrev pub lane_at : List (List ℕ) → ℕ → ℕ → ℕ
lane_at x k j = slice_index (slice_index_or x k []) j

-- the hash value of block j, from the vectors of its eight words
abbrev pub eight : ℕ → List (List ℕ) → List ℕ
eight j x =
    lane_at x 0 j ∷ lane_at x 1 j ∷ lane_at x 2 j ∷ lane_at x 3 j
    ∷ lane_at x 4 j ∷ lane_at x 5 j ∷ lane_at x 6 j ∷ lane_at x 7 j ∷ []

-- lane j of each vector
abbrev pub lanes : ℕ → List (List ℕ) → List ℕ
lanes j x = map (λ v. slice_index v j) x
